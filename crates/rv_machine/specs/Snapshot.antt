-- The machine between two calls, and what a call of it does, whatever pieces the input comes in.
use Rattle.std.specs.Prelude.{◌≡◌, ℕ, Bool, true, false, MatchBool, IsSome, List, [], ◌++◌, Option, Some, None, Result, Ok, Err}
use Rattle.clu_base.specs.Outside.{appended}
use Rattle.rv_isa.specs.Image.{Contents}
use Rattle.rv_machine.specs.declared.ending.Ending.{Ending}
use Rattle.rv_machine.specs.declared.ending.Ending.TheVariants as ending
use Rattle.rv_machine.specs.Calls.{Configuration, bytes_at}
use Rattle.rv_machine.specs.Input.{Kept, input_left}
use Rattle.rv_machine.specs.Limits.{Sizes}
use Rattle.rv_machine.specs.Start.{started}
use Rattle.rv_machine.specs.State.{State}
use Rattle.rv_machine.specs.Steps.{at_pc}

-- the state of the hart, the input that is kept, and how the run ended, if it did
pub record Snapshot : Type 0 where
  pub state : State
  pub kept : Kept
  pub ended : Option Ending

abbrev pub fresh : Contents → Sizes → Snapshot
fresh image sizes = record { state = started image sizes; kept = record { bytes = []; at_end = false }; ended = None }

-- the machine with its input and output, as the emulation has them
abbrev pub configuration : Snapshot → List ℕ → List ℕ → Configuration
configuration m input output = record { state = m.state; input = input; output = output; ended = m.ended }

-- the ending is one of the outside, not of the emulation
abbrev pub is_fault : Option Ending → Bool
is_fault (Some ending.ReadFault) = true
is_fault (Some ending.WriteFault) = true
is_fault other = false

pub record IsPrefix (front whole : List ℕ) : Type 0 where
  pub rest : List ℕ
  pub parts : whole ≡ front ++ rest

-- the machine, its input and its output are as the definition has them; after a fault of the outside
-- the output is a prefix of the definition's
abbrev pub IsAfter : Configuration → Configuration → Type 0
IsAfter meant now = MatchBool (is_fault now.ended) (IsPrefix now.output meant.output) (now ≡ meant)

-- A call of the machine did what `meant` says of each input and output before it: it wrote the bytes
-- `added`, and for whatever input is left now there was one before with which the definition gives what
-- is there now.
pub record Does (meant : List ℕ → List ℕ → Configuration) (old : Snapshot) (left written : Option (List ℕ)) (new : Snapshot) (left' written' : Option (List ℕ)) : Type 0 where
  pub added : List ℕ
  pub wrote : written' ≡ appended written added
  pub does : (more' output : List ℕ) → (more : List ℕ) × IsAfter (meant (input_left old.kept left more) output) (configuration new (input_left new.kept left' more') (output ++ added))

-- the same for a call that writes nothing
abbrev pub Reads : (List ℕ → List ℕ → Configuration) → Snapshot → Option (List ℕ) → Snapshot → Option (List ℕ) → Type 0
Reads meant old left new left' = (more' output : List ℕ) → (more : List ℕ) × IsAfter (meant (input_left old.kept left more) output) (configuration new (input_left new.kept left' more') output)

-- the same for a call that reads nothing
pub record Writes (meant : List ℕ → List ℕ → Configuration) (written : Option (List ℕ)) (new : Snapshot) (written' : Option (List ℕ)) : Type 0 where
  pub added : List ℕ
  pub wrote : written' ≡ appended written added
  pub does : (input output : List ℕ) → IsAfter (meant input output) (configuration new input (output ++ added))

-- the machine, with this pc in place of the hart's own
abbrev pub from_pc : ℕ → Snapshot → Snapshot
from_pc pc m = record m { state = at_pc pc m.state }

-- the machine after a step that answered the next pc, or how the run ended
abbrev pub gone : Result ℕ Ending → Snapshot → Snapshot
gone (Ok pc) m = from_pc pc m
gone (Err e) m = m

-- the text of a failure lies in memory
abbrev pub HasText : Option Ending → State → Type 0
HasText (Some (ending.Failure at count)) s = IsSome (bytes_at s at count)
HasText other s = Unit {0}
