-- A routine as an image holds it: what flattening made of its word code.
use Rattle.std.specs.Prelude.{◌≡◌, ◌<◌, ◌≤◌, ◌*◌, ◌^◌, ◌&&◌, ℕ, Bool, true, IsTrue, List, Option, Some}
use Rattle.clu_wir.specs.Formed.{is_formed, place_of}
use Rattle.clu_wir.specs.Kept.{is_kept}
use Rattle.clu_wir.specs.Plain.{Deed, body_of, gives_value, puts_word}
use Rattle.clu_wir.specs.Widths.{routine_width}
use Rattle.clu_wir.specs.declared.hole.HoleKind.TheVariants as kind
use Rattle.clu_wir.specs.declared.routine.WRoutine.{WRoutine}
use Rattle.clu_frames.specs.Flattened.{HandsOn, HasRoom}
use Rattle.clu_frames.specs.Flattening.{regions_of, steps_of}
use Rattle.clu_frames.specs.Labels.{IsFlat}
use Rattle.clu_frames.specs.Plain.{plain_code}
use Rattle.clu_frames.specs.declared.flat.FlatRoutine.{FlatRoutine}
use Rattle.clu_word_meaning.specs.Levels.{Callee, WordRoutine, bare, framed}
use Rattle.clu_word_meaning.specs.Words.{Linked}
use Rattle.clu_flat_meaning.specs.Image.{Body, Descriptor, Image, Instance, at_deed, at_step}
use Rattle.laws_frames.specs.Formed.{AllNames}
use Rattle.laws_frames.specs.Promises.{ComesBack, Honest}
use Rattle.laws_frames.specs.Tables.{table_of}

-- the routine in word code of an instance
abbrev pub word_routine : WRoutine → Linked → WordRoutine
word_routine r linked = record { args = r.args; slots = r.slots; nodes = r.nodes; body = body_of r.body.items; linked = linked }

-- What `flatten` promises of a routine that it was given, which is well formed and takes at most two words of its frame for each of
-- its nodes, as lowering promises.
pub record IsMade (r : WRoutine) (flat : FlatRoutine) : Type 0 where
  pub formed : IsTrue (is_formed r)
  pub width : routine_width r ≤ 2 * r.nodes
  -- numbers of slots have 32 bits
  pub few : r.slots < 2 ^ 32
  pub handed : HandsOn r flat
  pub room : HasRoom r flat
  pub steps : plain_code flat.code.items ≡ steps_of r
  pub is_flat : IsFlat (plain_code flat.code.items)

-- The image has the code and the table of regions of an instance of it, the words of its holes and of its names.
pub record IsHeld (image : Image) (who : Instance) (r : WRoutine) (flat : FlatRoutine) (linked : Linked) : Type 0 where
  pub honest : Honest image linked
  pub body : image.body who.body ≡ Some (record { code = plain_code flat.code.items; frame = flat.frame })
  pub regions : image.regions who.table ≡ table_of linked.name_word (regions_of r)
  pub holes : image.hole who.table ≡ linked.hole
  -- the hole of a string that is a name of the image has its word
  pub constants : (name : List ℕ) (place : ℕ) → image.name_of (linked.name_word name) ≡ Some name → place_of r.constants.items name ≡ Some place → linked.hole kind.Constant place ≡ Some (linked.name_word name)
  pub names : AllNames (λ name. image.name_of (linked.name_word name) ≡ Some name) (body_of r.body.items)

-- what is at the address of the descriptor of a routine with a frame
abbrev pub descriptor_of : Instance → Descriptor
descriptor_of who = record { entry = at_step who.body 0; table = who.table }

-- a routine with a frame, at the address of its descriptor
pub record IsFlattened (image : Image) (w : ℕ) (q : WordRoutine) : Type 0 where
  pub routine : WRoutine
  pub flat : FlatRoutine
  pub who : Instance
  pub linked : Linked
  pub is : q ≡ word_routine routine linked
  pub there : image.descriptor w ≡ Some (descriptor_of who)
  pub made : IsMade routine flat
  pub held : IsHeld image who routine flat linked

-- the slots that a routine without a frame names
abbrev pub deed_kept : ℕ → Deed → Bool
deed_kept n (gives_value e) = is_kept n e
deed_kept n (puts_word address bytes e) = is_kept n address && is_kept n e

-- a routine without a frame
pub record IsBare (image : Image) (w : ℕ) (linked : Linked) (deed : Deed) : Type 0 where
  pub table : ℕ
  pub there : image.descriptor w ≡ Some (record { entry = at_deed deed; table = table })
  pub holes : image.hole table ≡ linked.hole
  pub honest : Honest image linked
  pub slots : ℕ
  pub kept : deed_kept slots deed ≡ true

-- each routine of a program in word code, by the address of its descriptor
pub record IsProgram (image : Image) (program : ℕ → Option Callee) : Type 0 where
  pub leads : ComesBack image
  pub frames : (w : ℕ) (q : WordRoutine) → program w ≡ Some (framed q) → IsFlattened image w q
  pub bares : (w : ℕ) (linked : Linked) (deed : Deed) → program w ≡ Some (bare linked deed) → IsBare image w linked deed
