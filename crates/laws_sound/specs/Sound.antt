-- Programs whose texts are well typed, what comes of calls in them, and that they never go wrong.
use Rattle.std.specs.Prelude.{◌≡◌, ℕ, Bool, true, false, List, [], Some}
use Rattle.clu_types.specs.CluType.{string_type, CluTypes, Signals, proc_of, no_actuals}
use Rattle.clu_builtin.specs.Operation.{one}
use Rattle.clu_layout.specs.Objects.{Routine, Object, own_types, module_routine}
use Rattle.clu_layout.specs.SameType.{all_fit}
use Rattle.clu_meaning.specs.Programs.{Statements, ClusterDefinition, Program}
use Rattle.clu_meaning.specs.State.{State}
use Rattle.clu_meaning.specs.Computations.{Ending, raised, Result, normal, ended, out_of_turns}
use Rattle.clu_meaning.specs.Binding.{Running}
use Rattle.clu_meaning.specs.Unhandled.{failure}
use Rattle.clu_meaning.specs.Operations.{defined, headed}
use Rattle.clu_meaning.specs.Calls.{Round, setting_up}
use Rattle.clu_meaning.specs.Expressions.{invokes}
use Rattle.clu_meaning.specs.Headings.{HeadingsStand}
use Rattle.clu_meaning.specs.Run.{level, may_start, went_wrong, run}
use Rattle.clu_meaning.specs.Typed.{AllTyped, Typed}
use Rattle.laws_sound.specs.Raises.{Raise, Takes, raised_by}
use Rattle.laws_sound.specs.WellTyped.{Site, AllWellTyped}

-- failure has one string
abbrev pub FailsWithText : List Raise → Type 0
FailsWithText rs = (os : List Object) → Takes rs failure os → all_fit (own_types os) (one string_type) ≡ true

-- outside of loops and handlers
abbrev pub outermost : Bool → List Raise → Site
outermost may_end rs = record { in_loop = false; may_end = may_end; exits = []; raises = rs }

module _ (program : Program) (lawful : Routine → Type 0) where
  -- statements that set up own variables
  pub record SetUpWellTyped (r : Running) (set_up : Statements) : Type 0 where
    pub raises : List Raise
    pub text : FailsWithText raises
    pub body : AllWellTyped program lawful r (outermost false raises) set_up

  pub record RoutineWellTyped (r : Running) : Type 0 where
    pub raises : List Raise
    pub text : FailsWithText raises
    pub set_up : AllWellTyped program lawful r (outermost false raises) r.definition.set_up
    pub body : AllWellTyped program lawful r (outermost true raises) r.definition.body
    pub shared : (cluster : ClusterDefinition) → r.home ≡ Some cluster → SetUpWellTyped (setting_up r cluster) cluster.set_up

  pub record ProgramWellTyped : Type 0 where
    pub headings : HeadingsStand program
    pub routines : (p : Routine) (r : Running) → defined program p ≡ Some r → lawful p → RoutineWellTyped r

  -- ---- what comes of a call: objects of the heading's results, or an exception that it lists, in a state that is typed

  abbrev pub RaisesOf : List Raise → Ending → Type 0
  RaisesOf rs (raised name os) = Takes rs name os
  RaisesOf rs _ = ⊥

  abbrev pub ComesAsHeaded : Round → CluTypes → Signals → Result (List Object) → Type 0
  ComesAsHeaded round results ss (normal os turns st) = Typed program lawful round st × AllTyped program lawful st.world.cells os × (all_fit (own_types os) results ≡ true)
  ComesAsHeaded round results ss (ended e turns st) = Typed program lawful round st × RaisesOf (raised_by ss) e
  ComesAsHeaded round results ss (out_of_turns st) = Unit {0}

-- ---- the laws, with lawful routine objects by a test

abbrev pub LawfulBy : (Routine → Bool) → Routine → Type 0
LawfulBy lawful r = lawful r ≡ true

abbrev pub IsWellTyped : Program → (Routine → Bool) → Type 0
IsWellTyped program lawful = ProgramWellTyped program (LawfulBy lawful)

-- each lawful procedure that is called with objects of its heading's arguments, at each level
abbrev pub CallsComeAsHeaded : Program → (Routine → Bool) → Type 0
CallsComeAsHeaded program lawful = (n : ℕ) (r : Routine) (args results : CluTypes) (ss : Signals) → headed program r ≡ Some (proc_of args results ss) → lawful r ≡ true → (round : Round) (os : List Object) (turns : ℕ) (st : State) →
    Typed program (LawfulBy lawful) round st → AllTyped program (LawfulBy lawful) st.world.cells os → all_fit (own_types os) args ≡ true →
    ComesAsHeaded program (LawfulBy lawful) round results ss (invokes program (level program n) round r os turns st)

abbrev pub NeverWrong : Program → List ℕ → Type 0
NeverWrong program start = (input : List ℕ) (turns : ℕ) → (run program start input turns).progress ≡ went_wrong → ⊥

-- from each lawful module at which a program may begin
abbrev pub NeverGoesWrong : Program → (Routine → Bool) → Type 0
NeverGoesWrong program lawful = (start : List ℕ) (r : Running) → defined program (module_routine start no_actuals) ≡ Some r → lawful (module_routine start no_actuals) ≡ true → may_start r.definition ≡ true → NeverWrong program start
