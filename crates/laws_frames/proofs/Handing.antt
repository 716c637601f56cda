-- What flattening promises of a routine, and what an image promises of it, is what the law of its levels of turns asks.
use Rattle.std.proofs.Common.{◌≡◌, ◌∙◌, ℕ, suc, ◌+◌, ◌*◌, ◌≤◌, true, false, List, [], map, Option, Some, None, slice_get, refl, ap, sym, subst, arith}
use Rattle.std.specs.Prelude.{◌&&◌, nat_le}
use Rattle.std.proofs.lemmas.Bool.{and_parts}
use Rattle.std.proofs.lemmas.Bool.Decides.{nat_tests}
use Rattle.std.proofs.lemmas.Option.{slice_get_within}
use Rattle.clu_base.proofs.Lists.{none_is_not}
use Rattle.clu_base.specs.declared.constants.ObjConst.{ObjConst}
use Rattle.clu_wir.specs.Adding.{Added}
use Rattle.clu_wir.specs.Formed.{all_formed, begun_with, formed_of, place_of}
use Rattle.clu_wir.specs.Kept.{all_keep, are_kept, is_kept, keeps_slots}
use Rattle.clu_wir.specs.Plain.{Deed, Expr, Exprs, Stmts, body_of, expr_and, gives_value, no_exprs, puts_word}
use Rattle.clu_wir.specs.Plain as plain
use Rattle.clu_wir.specs.Value.{Gives, Raises, Stuck, Value}
use Rattle.clu_wir.specs.declared.hole.HoleKind.TheVariants as kind
use Rattle.clu_wir.specs.declared.routine.WRoutine.{WRoutine}
use Rattle.clu_frames.specs.Flattening.{Guarding, Made, Round, all_onto, begun, outermost, pushed, regions_of, steps_of}
use Rattle.clu_frames.specs.Plain.{Step, plain_code}
use Rattle.clu_frames.specs.Plain as flat
use Rattle.clu_frames.specs.declared.flat.FlatRoutine.{FlatRoutine}
use Rattle.clu_word_meaning.specs.World.{byte_of, word_of}
use Rattle.clu_word_meaning.specs.Levels.{Callee, WordRoutine, level}
use Rattle.clu_word_meaning.specs.Words.{Body, Linked, State, ends, no_body, view}
use Rattle.clu_word_meaning.specs.Words.{Entry as WordEntry}
use Rattle.clu_flat_meaning.specs.Image.{FlatArm, Image, Instance, at_step}
use Rattle.clu_flat_meaning.specs.Image as parts
use Rattle.clu_flat_meaning.specs.Machine.{Machine, invoked, slots_at, view_of}
use Rattle.clu_flat_meaning.proofs.Runs.{Front, front_back, front_same}
use Rattle.laws_frames.specs.Promises.{comes_back}
use Rattle.laws_frames.specs.Calls.{AtCall, Called, Context, calling_from}
use Rattle.laws_frames.specs.Flattened.{IsBare, IsFlattened, IsHeld, IsMade, IsProgram, deed_kept, word_routine}
use Rattle.laws_frames.specs.Formed.{all_form}
use Rattle.laws_frames.proofs.Agreeing.{AllWithin, Within}
use Rattle.laws_frames.proofs.Agreeing.{Agree as AgreeOf, agrees as values_agree}
use Rattle.laws_frames.proofs.Relation.{Agree, Place}
use Rattle.laws_frames.proofs.Bare.{Bare, DeedWithin}
use Rattle.laws_frames.proofs.Entering.{BodyOk, EntryOk, Local}
use Rattle.laws_frames.proofs.Forming.{body_same}
use Rattle.laws_frames.proofs.Fronts.{front_all}
use Rattle.laws_frames.proofs.Iterating.{AllBelow}
use Rattle.laws_frames.proofs.Framing.{Compiled, laws_on, place_on}
use Rattle.laws_frames.proofs.Lying.{all_grow}
use Rattle.laws_frames.proofs.Lawful.{Known, Telling}
use Rattle.laws_frames.proofs.Program.{Flattened, levels}
use Rattle.laws_frames.proofs.Promised.{all_fine}
use Rattle.laws_frames.proofs.Seeking.{begins_after, none_from, round_at, seek_in}
use Rattle.laws_frames.proofs.Standing.{Stands}
use Rattle.laws_frames.proofs.Whole.{OkAll}
use Rattle.laws_frames.proofs.Widths.{all_fit, is_le, once_of}

-- expressions whose slots are kept name slots of the routine
mutual
  kept_within : (base : ℕ) (e : Expr) → is_kept base e ≡ true → Within base e
  kept_within base (plain.slot n) k = grind (arith, nat_tests, k)
  kept_within base (plain.word w) k = tt
  kept_within base (plain.hole kind number) k = tt
  kept_within base (plain.load e bytes) k = kept_within base e k
  kept_within base (plain.byte e) k = kept_within base e k
  kept_within base (plain.binary op left right) k = let a = and_parts (is_kept base left) (is_kept base right) k in (kept_within base left a.0, kept_within base right a.1)
  kept_within base (plain.choice e first other) k =
      let a = and_parts (is_kept base e) (is_kept base first && is_kept base other) k in
      let b = and_parts (is_kept base first) (is_kept base other) a.1 in
      (kept_within base e a.0, kept_within base first b.0, kept_within base other b.1)
  kept_within base (plain.check e trap last) k = let a = and_parts (is_kept base e) (is_kept base last) k in (kept_within base e a.0, kept_within base last a.1)
  kept_within base (plain.binding es e) k = let a = and_parts (are_kept base es) (is_kept base e) k in (all_within base es a.0, kept_within base e a.1)
  kept_within base (plain.bound n) k = tt

  all_within : (base : ℕ) (es : Exprs) → are_kept base es ≡ true → AllWithin base es
  all_within base no_exprs k = tt
  all_within base (expr_and e es) k = let a = and_parts (is_kept base e) (are_kept base es) k in (kept_within base e a.0, all_within base es a.1)

-- two ways to say that a value agrees
as_agree : (p : Place) (v w : Value) → AgreeOf v w → Agree p v w
as_agree p (Gives x) w a = a
as_agree p (Raises t) w a = a
as_agree p Stuck w a = tt

module _ (image : Image) (w : ℕ) (r : WRoutine) (code : FlatRoutine) (who : Instance) (linked : Linked) (there : image.descriptor w ≡ Some (record { entry = at_step who.body 0; table = who.table })) (made : IsMade r code) (held : IsHeld image who r code linked) where
  abbrev q : WordRoutine
  q = word_routine r linked

  abbrev shape : parts.Body
  shape = record { code = plain_code code.code.items; frame = code.frame }

  abbrev rs : List Added
  rs = regions_of r

  abbrev seek : Option ℕ → ℕ → Option FlatArm
  seek = seek_in linked.name_word rs

  abbrev Good : Expr → Type 0
  Good e = Within r.slots e

  abbrev constants : List ObjConst
  constants = r.constants.items

  abbrev outer : Round
  outer = outermost constants r.slots

  abbrev inner : Made
  inner = all_onto q.body outer (begun r.args)

  kept : (nat_le r.args r.slots ≡ true) × (all_keep r.slots q.body ≡ true)
  kept = and_parts (nat_le r.args r.slots) (all_keep r.slots q.body) (and_parts (keeps_slots r) _ made.formed).0

  formed : all_form (begun_with constants) q.body ≡ true
  formed = body_same r.body.items (begun_with constants) ∙ (and_parts (keeps_slots r) (all_formed (map formed_of r.body.items) (begun_with constants)) made.formed).1

  wide : r.slots ≤ code.frame
  wide = let z = made.handed.frame in let few = made.few in omega (arith, z, few)

  narrow : code.frame ≤ 2 * r.nodes
  narrow = let z = made.handed.frame in let width = made.width in omega (arith, z, width)

  -- regions begin after the first step
  begin_late : (k : ℕ) (x : Added) → slice_get rs k ≡ Some x → round_at 0 x ≡ false
  begin_late k x h = let z = (all_grow q.body outer (begun r.args) 0).new k x h (omega arith) in let first = z.0 in begins_after 0 x (omega (arith, first))

  front : Front (pushed (flat.Leave r.slots 0) inner).code shape.code
  front = subst (λ (l : List Step). Front (pushed (flat.Leave r.slots 0) inner).code l) (sym made.steps) (front_same (steps_of r))

  compiled : Compiled image who q shape seek Good
  compiled = record {
    there = held.body;
    honest = held.honest;
    args = is_le r.args r.slots kept.0;
    slots = wide;
    nodes = omega (arith, narrow);
    once = once_of (plain_code code.code.items) made.is_flat.labels;
    none = λ v. none_from linked.name_word v rs None 0 begin_late;
    few = made.few;
    slot_good = λ n g. g;
    agrees = λ k e g st c see. as_agree (place_on image who q shape seek Good k) _ _
        (values_agree (view linked st.slots st.world) (view_of image (slots_at image c) c.who.table c.world) r.slots
        (λ n x l h. ap (λ (f : ℕ). Some (c.stack (f + 4 + n))) see.frame ∙ ap Some (see.slots n x l h))
        (ap (λ (i : Instance). image.hole i.table) see.who ∙ held.holes) (ap word_of see.world) (ap byte_of see.world) e g []);
  }

  telling : Telling image.name_of linked.name_word
  telling = record { names = held.honest.names; zero_word = held.honest.zero_word; filled = held.honest.filled }

  module _ (k : Context) (local : Local image k) (entries : ℕ → WordEntry) (entry_ok : (v : ℕ) → EntryOk image v (entries v)) (yielded : Body) (yielded_ok : BodyOk image k yielded) where
    abbrev p : Place
    p = place_on image who q shape seek Good k

    stands : Stands shape.code rs outer (begun r.args) inner
    stands = record {
      front = front_back inner.code shape.code (flat.Leave r.slots 0) front;
      here = λ i n x h l low high. absurd (omega (arith, l));
      apart = λ n x h l. begin_late n x h;
      kept = λ n l g. refl;
      behind = λ n x h l. absurd (omega (arith, l, slice_get_within rs n x h));
    }

    no_guards : (n : ℕ) (g : Guarding) → slice_get outer.guards n ≡ Some g → (j : ℕ) (slots : List ℕ) → slice_get g.slots j ≡ Some slots → AllBelow r.slots slots
    no_guards n g e j slots f = none_is_not g e

    holes : (name : List ℕ) (place : ℕ) → Known image.name_of linked.name_word name → place_of constants name ≡ Some place → image.hole who.table kind.Constant place ≡ Some (linked.name_word name)
    holes name place known e = ap (λ h. h kind.Constant place) held.holes ∙ held.constants name place known e

    laws_here : OkAll p Good (laws_on image who q shape seek Good compiled constants (all_onto q.body) front (front_all q.body) k local 0) compiled.once entries entry_ok yielded yielded_ok q.body outer (begun r.args)
    laws_here =
        all_fine p Good (laws_on image who q shape seek Good compiled constants (all_onto q.body) front (front_all q.body) k local 0) compiled.once entries entry_ok yielded yielded_ok
        (λ e g. kept_within r.slots e g) (all_fit code.frame code.code.items made.room.within) rs held.regions (λ region v. refl) telling constants holes q.body outer (begun r.args) kept.1 formed held.names
        (record { stands = stands; room = wide; own = no_guards; known = refl })

  flattened_word : Flattened image w q
  flattened_word = record { who = who; there = there; shape = shape; seek = seek; Good = Good; constants = constants; compiled = compiled; front = front; ok = λ k local entries entry_ok yielded yielded_ok. laws_here k local entries entry_ok yielded yielded_ok }

pub flattened_is : (image : Image) (w : ℕ) (q : WordRoutine) → IsFlattened image w q → Flattened image w q
flattened_is image w q f = subst (Flattened image w) (sym f.is) (flattened_word image w f.routine f.flat f.who f.linked f.there f.made f.held)

deed_within : (image : Image) (slots : ℕ) (deed : Deed) → deed_kept slots deed ≡ true → DeedWithin image slots deed
deed_within image slots (gives_value e) k = kept_within slots e k
deed_within image slots (puts_word address bytes e) k = let a = and_parts (is_kept slots address) (is_kept slots e) k in (kept_within slots address a.0, kept_within slots e a.1)

pub bare_is : (image : Image) (w : ℕ) (linked : Linked) (deed : Deed) → IsBare image w linked deed → Bare image w linked deed
bare_is image w linked deed b = record { table = b.table; there = b.there; holes = b.holes; honest = b.honest; base = b.slots; within = deed_within image b.slots deed b.kept }

-- all routines of a program
module _ (image : Image) (program : ℕ → Option Callee) (is : IsProgram image program) where
  pub all_levels : (n w : ℕ) → EntryOk image w (level program n w)
  all_levels = levels image program (λ w q e. flattened_is image w q (is.frames w q e)) (λ w linked deed e. bare_is image w linked deed (is.bares w linked deed e))

  module _ (high : ℕ) (c : Machine) where
    abbrev k : Context
    k = calling_from high c

    no_body_ok : BodyOk image k no_body
    unfolding ends
    no_body_ok = record { runs = λ now t st ws d low at. tt }

    pub call_does : (n w live slot : ℕ) (ws : List ℕ) (turns : ℕ) (st : State) (body : parts.Body) (x : Step) → image.body c.who.body ≡ Some body → slice_get body.code c.pc ≡ Some x → comes_back x ≡ true → c.top ≤ live → high ≤ c.top → image.bottom ≤ c.top → AtCall image k slot ws st c →
        Called image k (invoked image (image.descriptor w) slot c) (level program n w live no_body ws turns st)
    call_does n w live slot ws turns st body x there here back low under deep at =
        (all_levels n w).runs k (record { on = λ s now outer same b i h. same i h ∙ b i h; deep = deep; leads = is.leads c.who.body c.pc body x there here back; high = under }) live low no_body no_body_ok ws turns st c slot at
