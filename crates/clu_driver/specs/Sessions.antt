-- What a call of `clu` comes to, and calls one after the other.
use Rattle.std.specs.Prelude.{◌≡◌, ◌⊎◌, ℕ, List, [], ◌∷◌, Option, None}
use Rattle.clu_base.specs.Outside.{Files}
use Rattle.clu_driver.specs.Commands.{CluShows, IsRefusal}
use Rattle.clu_driver.specs.Shows.{Reported}
use Rattle.clu_driver.specs.World.{World, streams_of, world_of}
use Rattle.clu_words.specs.Command.{command_of}

-- what is told between two calls: the files and the streams, and the lines of errors with their count of faults
pub record State : Type 0 where
  pub world : World
  pub errors : Option (List ℕ)
  pub error_faults : ℕ

abbrev pub state_of : Option Files → ℕ → Option (List ℕ) → ℕ → Option (List ℕ) → ℕ → Option (List ℕ) → ℕ → State
state_of files store_faults left read_faults written write_faults errors error_faults =
    record { world = world_of files store_faults (streams_of left read_faults written write_faults); errors = errors; error_faults = error_faults }

-- A call with these words ended with this status. The parts are the clauses of `clu`, each over the state before and after.
pub record IsCall (words : List (List ℕ)) (status : ℕ) (before after : State) : Type 0 where
  pub told : Reported (λ how. CluShows (command_of words) how before.world after.world) status before.errors after.errors before.error_faults after.error_faults
  pub usage_only : status ≡ 2 → command_of words ≡ None
  pub usage_always : command_of words ≡ None → (status ≡ 2) ⊎ ((status ≡ 23) ⊎ (status ≡ 25))
  pub quiet : status ≡ 0 → after.errors ≡ before.errors
  pub refused : IsRefusal status → after.world.streams.written ≡ before.world.streams.written

-- calls with these lists of words ended with these statuses, each in the state that the one before it left
abbrev pub IsSession : List (List (List ℕ)) → List ℕ → State → State → Type 0
IsSession [] [] before after = before ≡ after
IsSession [] (status ∷ statuses) before after = ⊥
IsSession (words ∷ runs) [] before after = ⊥
IsSession (words ∷ runs) (status ∷ statuses) before after =
    (between : State) × (IsCall words status before between × IsSession runs statuses between after)
