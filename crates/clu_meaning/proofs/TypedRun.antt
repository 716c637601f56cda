-- A state stays typed at each level, and so does that of a run.
use Rattle.std.proofs.Common.{◌≡◌, ℕ, zero, suc, List, [], ◌∷◌, Some, sym, subst}
use Rattle.clu_types.specs.CluType.{no_actuals}
use Rattle.clu_layout.specs.Objects.{Routine, module_routine, Object, string_object, Cell}
use Rattle.clu_layout.proofs.CellLaws.{longer_refl}
use Rattle.clu_meaning.specs.Programs.{Program}
use Rattle.clu_meaning.specs.Computations.{Ending, returned, signalled, raised, Result, normal, ended, out_of_turns, needed}
use Rattle.clu_meaning.specs.Binding.{Running}
use Rattle.clu_meaning.specs.Operations.{defined}
use Rattle.clu_meaning.specs.Calls.{in_procedure, Level}
use Rattle.clu_meaning.specs.Run.{level, first_state, Progress, returned_normally, failure_with, fails_with, start_ending, starts, result_of_run}
use Rattle.clu_meaning.specs.Unhandled.{failure_objects}
use Rattle.clu_meaning.specs.Typed.{EndsTyped}
use Rattle.clu_meaning.specs.Headings.{HeadingsStand}
use Rattle.clu_meaning.proofs.TypedComputing.{Good, Stays, stays_gives, stays_wrong, stays_need, stays_spends, stays_takes, stays_enters, stays_either_way, first_typed}
use Rattle.clu_meaning.proofs.TypedFine.{Fine, fine_defined}
use Rattle.clu_meaning.proofs.TypedCalls.{Done, LevelStays, stays_executes}
use Rattle.clu_meaning.proofs.TypedExecuted.{stays_exec_all}

level_stays : (program : Program) (lawful : Routine → Type 0) → ((r : Routine) → lawful r) → HeadingsStand program → (n : ℕ) → LevelStays program lawful (level program n)
unfolding level
level_stays program lawful every_lawful stand zero round stands body base = record { at = λ turns st t l. tt }
level_stays program lawful every_lawful stand (suc n) round stands body base =
    let now = stays_exec_all program lawful every_lawful stand (level program n) (level_stays program lawful every_lawful stand n) round stands body base in record { at = now.at }

-- ---- the start

-- how far it has come says nothing of objects
abbrev Any : List Cell → Progress → Type 0
Any cells progress = Unit {0}

module _ (program : Program) (lawful : Routine → Type 0) (r : Running) (base : List Cell) where
  stays_fails_with : (os : List Object) → Stays program lawful (in_procedure r) base Any (fails_with os)
  unfolding fails_with
  stays_fails_with [] = stays_wrong program lawful (in_procedure r) base Any
  stays_fails_with (string_object text ∷ []) = stays_gives program lawful (in_procedure r) base Any (failure_with text) (λ cells l. tt)
  stays_fails_with _ = stays_wrong program lawful (in_procedure r) base Any

  stays_start_ending : (e : Ending) → Stays program lawful (in_procedure r) base Any (start_ending e)
  unfolding start_ending
  stays_start_ending (returned os) = stays_gives program lawful (in_procedure r) base Any returned_normally (λ cells l. tt)
  stays_start_ending (signalled name os) = stays_fails_with (failure_objects name os)
  stays_start_ending (raised name os) = stays_takes program lawful (in_procedure r) base Any _ _ (stays_fails_with (failure_objects name os))
  stays_start_ending _ = stays_wrong program lawful (in_procedure r) base Any

stays_starts : (program : Program) (lawful : Routine → Type 0) (low : Level) → LevelStays program lawful low → (r : Running) → Fine program r → (base : List Cell) → Stays program lawful (in_procedure r) base Any (starts low r)
stays_starts program lawful low lows r fine base = stays_need program lawful (in_procedure r) base Any _ _ (λ may. stays_spends program lawful (in_procedure r) base Any _
    (stays_either_way program lawful (in_procedure r) base Done Any _ _ _ (stays_enters program lawful (in_procedure r) base Done _ _ _ (stays_executes program lawful low lows (in_procedure r) fine base [] tt))
    (λ cells l done d. stays_gives program lawful (in_procedure r) cells Any returned_normally (λ more k. tt))
    (λ cells l e f. stays_start_ending program lawful r cells e)))

good_ends : (program : Program) (r : Running) (result : Result Progress) → Good program (λ r. Unit {0}) (in_procedure r) [] Any result → EndsTyped program r result
good_ends program r (normal progress turns st) g = g.0
good_ends program r (ended e turns st) g = g.0
good_ends program r (out_of_turns st) g = tt

pub run_typed : (program : Program) (start input : List ℕ) (n : ℕ) (r : Running) → HeadingsStand program → defined program (module_routine start no_actuals) ≡ Some r →
    EndsTyped program r (result_of_run program start input n)
unfolding needed
run_typed program start input n r stand e = subst (λ found. EndsTyped program r (needed found (starts (level program n)) n (first_state input))) (sym e)
    (good_ends program r (starts (level program n) r n (first_state input))
    ((stays_starts program (λ r. Unit {0}) (level program n) (level_stays program (λ r. Unit {0}) (λ r. tt) stand n) r (fine_defined program stand (module_routine start no_actuals) r e) []).at n (first_state input)
    (first_typed program (λ r. Unit {0}) r input) (longer_refl [])))
