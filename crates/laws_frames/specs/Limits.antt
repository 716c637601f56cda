-- What a run of an image with limits on its stack and its store ends in.
use Rattle.std.specs.Prelude.{◌≡◌, ◌≤◌, ◌⊎◌, ℕ, max, true, false, List, Some}
use Rattle.clu_word_meaning.specs.Growing.{Front}
use Rattle.clu_word_meaning.specs.Words.{Result, State, ended, normal, out_of_turns, raised}
use Rattle.clu_flat_meaning.specs.Image.{Image}
use Rattle.clu_flat_meaning.specs.Machine.{Comes, Machine, failed, returned, stack_full, store_full}
use Rattle.clu_flat_meaning.specs.Machine as flat
use Rattle.laws_frames.specs.Ending.{EndsAs, RunsOn, said}

-- the image where neither is ever full
abbrev pub endless : Image → Image
endless image = record image { has_stack = λ n. true; has_store = λ n. true }

-- The stack or the store was full, after a front of what is written, and the program's live words or its store pass the limit.
pub record FullEnd (image : Image) (c : Machine) (live : ℕ) (st : State) : Type 0 where
  pub machine : Machine
  pub comes : Comes image c machine
  pub output : Front machine.world.output st.world.output
  pub passes : ((machine.mode ≡ flat.ended stack_full) × ((top : ℕ) × (image.has_stack top ≡ false) × (top ≤ max live st.meters.most)))
      ⊎ ((machine.mode ≡ flat.ended store_full) × ((next : ℕ) × (image.has_store next ≡ false) × (next ≤ st.meters.store)))

-- the same end as without limits, or a full one
abbrev pub RunEndsOrFills : Image → Machine → ℕ → Result (List ℕ) → Type 0
RunEndsOrFills image c live (normal given turns st) = EndsAs image c live returned st ⊎ FullEnd image c live st
RunEndsOrFills image c live (ended (raised name ws) turns st) = (text : List ℕ) → said name ws st.world ≡ Some text → EndsAs image c live (failed text) st ⊎ FullEnd image c live st
RunEndsOrFills image c live (ended _ turns st) = Unit {0}
RunEndsOrFills image c live (out_of_turns st) = RunsOn image c live st ⊎ FullEnd image c live st

-- the limits allow the live words and the store of a program
pub record Allows (image : Image) (live : ℕ) (st : State) : Type 0 where
  pub stack : (top : ℕ) → top ≤ max live st.meters.most → image.has_stack top ≡ true
  pub store : (next : ℕ) → next ≤ st.meters.store → image.has_store next ≡ true
