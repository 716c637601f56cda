-- What a run of an image from its start comes to, as the word code of its program says.
use Rattle.std.specs.Prelude.{◌≡◌, ◌≤◌, ℕ, suc, max, List, if◌then◌else◌, slice_get, Option, None, Some}
use Rattle.std.specs.Str.{bytes_eq}
use Rattle.clu_word_meaning.specs.World.{World, also, failure_name, string_of, unhandled_text}
use Rattle.clu_word_meaning.specs.Words.{Linked, Result, State, ended, normal, out_of_turns, raised}
use Rattle.clu_flat_meaning.specs.Image.{Body, Descriptor, Image, at_step}
use Rattle.clu_flat_meaning.specs.Machine.{Comes, Ended, Machine, failed, returned, running}
use Rattle.clu_flat_meaning.specs.Machine as flat
use Rattle.laws_frames.specs.Promises.{Honest}

-- Addresses of code and descriptors lead to bodies that are there, which are not all numbers.
pub record IsClosed (image : Image) : Type 0 where
  pub entries : (a b n : ℕ) → image.entry a ≡ Some (at_step b n) → (body : Body) × (image.body b ≡ Some body)
  pub descriptors : (w b n : ℕ) (d : Descriptor) → image.descriptor w ≡ Some d → d.entry ≡ at_step b n → (body : Body) × (image.body b ≡ Some body)
  pub none_more : (b : ℕ) × (image.body b ≡ None)

-- an image that keeps all that is promised
pub record SomeImage : Type 0 where
  pub image : Image
  pub linked : Linked
  pub honest : Honest image linked
  pub closed : IsClosed image

-- Outside of all routines an exception is failure, with its text.
abbrev pub said : List ℕ → List ℕ → World → Option (List ℕ)
said name ws world = if bytes_eq name failure_name then also (slice_get ws 0) (string_of world) else Some (unhandled_text name)

-- the turns were steps, and the stack and the store are within the meters, of which the stack begins with so many live words
pub record InMeters (live : ℕ) (st : State) (c : Machine) : Type 0 where
  pub turns : st.meters.spent ≤ c.clock
  pub steps : c.clock ≤ suc st.meters.steps
  pub stack : c.peak ≤ max live st.meters.most
  -- the highest top of the stack so far
  pub tops : c.high ≤ max live st.meters.most
  pub store : c.used ≤ st.meters.store

pub record EndsAs (image : Image) (c : Machine) (live : ℕ) (how : Ended) (st : State) : Type 0 where
  pub machine : Machine
  pub comes : Comes image c machine
  pub mode : machine.mode ≡ flat.ended how
  pub world : machine.world ≡ st.world
  pub meters : InMeters live st machine

pub record RunsOn (image : Image) (c : Machine) (live : ℕ) (st : State) : Type 0 where
  pub machine : Machine
  pub comes : Comes image c machine
  pub mode : machine.mode ≡ running
  pub output : machine.world.output ≡ st.world.output
  pub meters : InMeters live st machine

-- Of word code that goes wrong nothing is said.
abbrev pub RunEnds : Image → Machine → ℕ → Result (List ℕ) → Type 0
RunEnds image c live (normal given turns st) = EndsAs image c live returned st
RunEnds image c live (ended (raised name ws) turns st) = (text : List ℕ) → said name ws st.world ≡ Some text → EndsAs image c live (failed text) st
RunEnds image c live (ended _ turns st) = Unit {0}
RunEnds image c live (out_of_turns st) = RunsOn image c live st
