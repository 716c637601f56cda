-- A program whose texts are well typed never goes wrong.
use Rattle.std.proofs.Common.{◌≡◌, ℕ, Bool, true, false, List, [], ◌∷◌, Some, refl, sym, ap, subst}
use Rattle.std.specs.Prelude.{bytes_eq, ◌&&◌, ◌==◌, not}
use Rattle.std.proofs.lemmas.Bool.{false≢true, and_parts}
use Rattle.clu_types.specs.CluType.{string_type, CluTypes, no_types, Signals, proc_of, no_actuals}
use Rattle.clu_builtin.specs.Operation.{one}
use Rattle.clu_layout.specs.Objects.{Routine, module_routine, Object, Cell, own_types}
use Rattle.clu_layout.specs.SameType.{all_fit}
use Rattle.clu_layout.specs.Places.{is_empty}
use Rattle.clu_layout.proofs.CellLaws.{longer_refl}
use Rattle.clu_meaning.specs.Programs.{Formal, Program}
use Rattle.clu_meaning.specs.State.{Instance, State}
use Rattle.clu_meaning.specs.Unhandled.{failure, failure_objects}
use Rattle.clu_meaning.specs.Computations.{Ending, returned, signalled, raised, Result, normal, ended, out_of_turns, Computation, needed, enters}
use Rattle.clu_meaning.specs.Binding.{Running, outward, types_of_formals}
use Rattle.clu_meaning.specs.Operations.{defined, headed}
use Rattle.clu_meaning.specs.Calls.{Round, in_procedure}
use Rattle.clu_meaning.specs.Expressions.{invokes}
use Rattle.clu_meaning.specs.Run.{level, first_state, may_start, Progress, still_running, returned_normally, went_wrong, failure_with, fails_with, start_ending, starts, seen_of}
use Rattle.clu_meaning.specs.Typed.{AllTyped, Typed}
use Rattle.clu_meaning.proofs.TypedComputing.{first_typed}
use Rattle.clu_meaning.proofs.TypedFine.{Fine, fine_defined}
use Rattle.laws_sound.specs.Raises.{raised_by}
use Rattle.laws_sound.specs.Sound.{RoutineWellTyped, ProgramWellTyped, NeverWrong, ComesAsHeaded}
use Rattle.laws_sound.proofs.Safe.{Well, Sound, sound_gives, sound_need, sound_spends, sound_takes, sound_either_way, AreOf}
use Rattle.laws_sound.proofs.Shapes.{included_is, string_is}
use Rattle.laws_sound.proofs.Moves.{OnlyRaises}
use Rattle.laws_sound.proofs.Calling.{Done, Leaves, texts}
use Rattle.laws_sound.proofs.Looping.{procedure_executes}
use Rattle.laws_sound.proofs.Levels.{level_goes, level_called}

abbrev is_wrong : Progress → Bool
is_wrong went_wrong = true
is_wrong _ = false

module _ (program : Program) (lawful : Routine → Type 0) where
  -- ---- calls

  come : (round : Round) (results : CluTypes) (ss : Signals) (base : List Cell) (r : Result (List Object)) → Well program lawful round base (AreOf program lawful results) (OnlyRaises program lawful (raised_by ss)) r → ComesAsHeaded program lawful round results ss r
  come round results ss base (normal os turns st) w = (w.0, w.2.0, w.2.1)
  come round results ss base (ended (raised name os) turns st) w = (w.0, w.2.1)
  come round results ss base (ended e turns st) w = absurd w.2.1
  come round results ss base (out_of_turns st) w = tt

  pub comes_as_headed : ProgramWellTyped program lawful → (n : ℕ) (r : Routine) (args results : CluTypes) (ss : Signals) → headed program r ≡ Some (proc_of args results ss) → lawful r → (round : Round) (os : List Object) (turns : ℕ) (st : State) →
      Typed program lawful round st → AllTyped program lawful st.world.cells os → all_fit (own_types os) args ≡ true → ComesAsHeaded program lawful round results ss (invokes program (level program n) round r os turns st)
  comes_as_headed whole n r args results ss heading law round os turns st typed all fit = come round results ss st.world.cells _
      (((level_called program lawful whole n).calls r args results ss heading law round st.world.cells os all fit).at turns st typed (longer_refl st.world.cells))

  -- ---- the start

  abbrev Any : List Cell → Progress → Type 0
  Any cells went_wrong = ⊥
  Any cells _ = Unit {0}

  abbrev Never : List Cell → Ending → Type 0
  Never cells e = ⊥

  module _ (r : Running) where
    abbrev round : Round
    round = in_procedure r

    fails_well : (base : List Cell) (os : List Object) → AllTyped program lawful base os → all_fit (own_types os) (one string_type) ≡ true → Sound program lawful round base Any Never (fails_with os)
    unfolding fails_with
    fails_well base (o ∷ []) t fit =
        let is = string_is program lawful base o t.0 (included_is _ string_type refl refl (and_parts _ true fit).0) in
        subst (λ x. Sound program lawful round base Any Never (fails_with (x ∷ []))) (sym is.1) (sound_gives program lawful round base Any Never (failure_with is.0) (λ cells l. tt))
    fails_well base [] t fit = absurd (false≢true fit)
    fails_well base (o ∷ p ∷ os) t fit = absurd (false≢true (and_parts _ false fit).1)

    ending_well : (base : List Cell) (e : Ending) → Leaves program lawful r base e → Sound program lawful round base Any Never (start_ending e)
    unfolding start_ending
    ending_well base (returned os) h = sound_gives program lawful round base Any Never returned_normally (λ cells l. tt)
    ending_well base (signalled name os) h =
        let text = texts program lawful round r base (bytes_eq name failure) name os refl h.0 h.1.1 in
        fails_well base (failure_objects name os) text.0 text.1
    ending_well base (raised name os) h =
        let text = texts program lawful round r base (bytes_eq name failure) name os refl h.0 h.1 in
        sound_takes program lawful round base Any Never _ _ (fails_well base (failure_objects name os) text.0 text.1)
    ending_well base _ h = absurd h.1

    enters_well : (base : List Cell) (i : Instance) (n : ℕ) (m : Computation (Unit {0})) → Sound program lawful round base Done (Leaves program lawful r) m → Sound program lawful round base Done (Leaves program lawful r) (enters i n m)
    unfolding enters
    enters_well base i n m h = record { at = λ turns st t l. h.at turns _ (record { cells = t.cells; frame = t.frame; owns = t.owns }) l }

    no_formals : (formals : List Formal) → is_empty formals ≡ true → all_fit no_types (outward r.given (types_of_formals formals)) ≡ true
    no_formals [] e = refl
    no_formals (f ∷ fs) e = absurd (false≢true e)

    starts_well : ProgramWellTyped program lawful → (n : ℕ) → Fine program r → RoutineWellTyped program lawful r → may_start r.definition ≡ true → (base : List Cell) → Sound program lawful round base Any Never (starts (level program n) r)
    starts_well whole n fine typed may base =
        let most = and_parts (not r.definition.is_iterator && r.definition.parameters == 0 && is_empty r.definition.formals) (is_empty r.definition.results) may in
        let more = and_parts (not r.definition.is_iterator && r.definition.parameters == 0) (is_empty r.definition.formals) most.0 in
        let plain = and_parts (not r.definition.is_iterator) (r.definition.parameters == 0) more.0 in
        sound_need program lawful round base Any Never _ _ may (sound_spends program lawful round base Any Never _ (sound_either_way program lawful round base Done Any (Leaves program lawful r) Never _ _ _
        (enters_well base _ _ _ (procedure_executes program lawful (level program n) (level_goes program lawful whole n) r fine typed (not_true r.definition.is_iterator plain.0) base [] tt (no_formals r.definition.formals more.1)))
        (λ cells l d u. sound_gives program lawful round cells Any Never returned_normally (λ more k. tt))
        (λ cells l e h. ending_well cells e h)))
      where
        not_true : (b : Bool) → not b ≡ true → b ≡ false
        not_true false e = refl
        not_true true e = absurd (false≢true e)

  not_wrong : (r : Running) (base : List Cell) (found : Result Progress) → Well program lawful (in_procedure r) base Any Never found → (seen_of found).progress ≡ went_wrong → ⊥
  not_wrong r base (normal went_wrong turns st) w e = w.2
  not_wrong r base (normal still_running turns st) w e = false≢true (ap is_wrong e)
  not_wrong r base (normal returned_normally turns st) w e = false≢true (ap is_wrong e)
  not_wrong r base (normal (failure_with text) turns st) w e = false≢true (ap is_wrong e)
  not_wrong r base (ended x turns st) w e = w.2
  not_wrong r base (out_of_turns st) w e = false≢true (ap is_wrong e)

  pub never_wrong : ProgramWellTyped program lawful → (start : List ℕ) (r : Running) → defined program (module_routine start no_actuals) ≡ Some r → lawful (module_routine start no_actuals) → may_start r.definition ≡ true → NeverWrong program start
  unfolding needed
  never_wrong whole start r found law may input turns =
      let fine = fine_defined program whole.headings (module_routine start no_actuals) r found in
      let typed = whole.routines (module_routine start no_actuals) r found law in
      let well = (starts_well r whole turns fine typed may []).at turns (first_state input) (first_typed program lawful r input) (longer_refl []) in
      subst (λ o. (seen_of (needed o (starts (level program turns)) turns (first_state input))).progress ≡ went_wrong → ⊥) (sym found) (not_wrong r [] (starts (level program turns) r turns (first_state input)) well)
