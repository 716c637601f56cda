-- What can be observed of a run: what it has written, and how it has stopped, if it has. One form for the run of a program,
-- by its meaning, and for that of an image, by the machine with its calls.
use Rattle.std.specs.Prelude.{◌≡◌, ◌+◌, ℕ, Bool, true, false, List, Option, Some, None}
use Rattle.rv_machine.specs.declared.ending.Ending.{Ending}
use Rattle.rv_machine.specs.declared.ending.Ending.TheVariants as ending
use Rattle.rv_machine.specs.Calls.{Configuration, bytes_at}
use Rattle.rv_machine.specs.Limits.{Sizes}
use Rattle.rv_machine.specs.Snapshot.{IsPrefix}
use Rattle.rv_machine.specs.State.{State}
use Rattle.clu_meaning.specs.Run.{Progress, still_running, returned_normally, went_wrong, failure_with, Seen}

pub data Region : Type 0 where
  store stack : Region

-- a run goes on, has returned, has failed with a text, or found a region full; anything else is bad
pub data Outcome : Type 0 where
  running returned bad : Outcome
  failed : List ℕ → Outcome
  full : Region → Outcome

pub record Observed : Type 0 where
  pub output : List ℕ
  pub outcome : Outcome

abbrev pub is_running : Outcome → Bool
is_running running = true
is_running other = false

abbrev pub is_full : Outcome → Bool
is_full (full region) = true
is_full other = false

abbrev pub is_bad : Outcome → Bool
is_bad bad = true
is_bad other = false

-- a run has finished by itself
abbrev pub is_over : Outcome → Bool
is_over returned = true
is_over (failed text) = true
is_over other = false

-- ---- a program, by its meaning

abbrev pub outcome_meant : Progress → Outcome
outcome_meant still_running = running
outcome_meant returned_normally = returned
outcome_meant (failure_with text) = failed text
outcome_meant went_wrong = bad

abbrev pub meant : Seen → Observed
meant m = record { output = m.output; outcome = outcome_meant m.progress }

-- the meter of a region, in words: what was ever taken of the store, the most live words of the stack so far
abbrev pub taken : Seen → Region → ℕ
taken m store = m.store
taken m stack = m.stack

-- ---- an image, by the table of instructions

-- of a text that lies in no region; a run that asks for one ends as a bad access before
abbrev pub failed_by : Option (List ℕ) → Outcome
failed_by (Some text) = failed text
failed_by None = bad

abbrev pub outcome_of : Option Ending → State → Outcome
outcome_of None s = running
outcome_of (Some ending.Returned) s = returned
outcome_of (Some (ending.Failure at count)) s = failed_by (bytes_at s at count)
outcome_of (Some ending.StoreFull) s = full store
outcome_of (Some ending.StackFull) s = full stack
outcome_of (Some other) s = bad

abbrev pub shown : Configuration → Observed
shown c = record { output = c.output; outcome = outcome_of c.ended c.state }

-- the bytes that a region has
abbrev pub size_of : Sizes → Region → ℕ
size_of sizes store = sizes.store
size_of sizes stack = sizes.stack

-- ---- runs

-- a run only adds to its output, and one that has stopped stays as it is
pub record IsRun (run : ℕ → Observed) : Type 0 where
  pub adds : (i j : ℕ) → IsPrefix (run i).output (run (i + j)).output
  pub stays : (i j : ℕ) → is_running (run i).outcome ≡ false → run (i + j) ≡ run i
