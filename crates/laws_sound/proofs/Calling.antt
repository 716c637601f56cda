-- Calls of procedures don't go wrong, if what they execute doesn't.
use Rattle.std.proofs.Common.{◌≡◌, ℕ, Bool, true, false, List, [], ◌∷◌, Option, None, Some, refl, inl, cond}
use Rattle.std.specs.Prelude.{bytes_eq, not}
use Rattle.std.proofs.lemmas.Bool.{false≢true}
use Rattle.clu_types.specs.CluType.{string_type, CluTypes, no_types, type_and, Actuals}
use Rattle.clu_layout.specs.Objects.{Routine, Object, string_object, Cell, own_types}
use Rattle.clu_layout.specs.SameType.{all_fit}
use Rattle.clu_layout.specs.Places.{is_empty}
use Rattle.clu_layout.proofs.CellLaws.{Longer, longer_refl}
use Rattle.clu_meaning.specs.Programs.{HeadingType, Declaration, ClusterDefinition, Program}
use Rattle.clu_meaning.specs.State.{Instance, Frame, Stack, State, new_frame}
use Rattle.clu_meaning.specs.Computations.{Ending, broken, continued, returned, signalled, raised, exited, through, wrong, Result, normal, ended, out_of_turns, Computation, gives, continue_either_way, either_way, sees_frame, sees_owns, sees_stack, with_frame, with_owns, enters, leaves}
use Rattle.clu_meaning.specs.Unhandled.{failure, failure_objects, unhandled_text}
use Rattle.clu_meaning.specs.Binding.{Running, outward, types_of_formals, cluster_instance}
use Rattle.clu_meaning.specs.Operations.{signals_of}
use Rattle.clu_meaning.specs.Calls.{Round, in_procedure, here, Level, call_words, without_return, procedure_ending, set_up_ending, setting_up, calls_set_up, once, cluster_set_up, executes, calls}
use Rattle.clu_meaning.specs.Typed.{AllTyped, EndingFits, Typed}
use Rattle.clu_meaning.proofs.TypedFacts.{all_on, frame_on}
use Rattle.clu_meaning.proofs.TypedFine.{Fine}
use Rattle.laws_sound.proofs.Safe.{Well, well_from, Sound, sound_gives, sound_ends, sound_need, sound_either, sound_spends, sound_counts, sound_takes, sound_raises, sound_and_then, AreOf}
use Rattle.laws_sound.specs.Raises.{Raise, Takes, raised_by}
use Rattle.laws_sound.proofs.Moves.{OnlyRaises}
use Rattle.laws_sound.proofs.Handing.{TextFits, sound_opened}

abbrev pub Done : List Cell → Unit {0} → Type 0
Done cells done = Unit {0}

-- ---- from one place to another and back

module _ (program : Program) (lawful : Routine → Type 0) (outer inner : Round) {A B : Type 0} (P : List Cell → A → Type 0) (P' : List Cell → B → Type 0) (Q Q' : List Cell → Ending → Type 0) (g : Frame → Frame) where
  pub left_well : (f : A → Computation B) (u : Ending → Computation B) (base : List Cell) →
      ((now : State) → Typed program lawful inner now → Longer base now.world.cells → Typed program lawful outer (record now { frame = g now.frame })) →
      (r : Result A) → Well program lawful inner base P Q r →
      ((cells : List Cell) → Longer base cells → (a : A) → P cells a → Sound program lawful outer cells P' Q' (f a)) →
      ((cells : List Cell) → Longer base cells → (e : Ending) → Q cells e → Sound program lawful outer cells P' Q' (u e)) →
      Well program lawful outer base P' Q' (continue_either_way (λ a. with_frame g (f a)) (λ e. with_frame g (u e)) r)
  unfolding continue_either_way with_frame
  left_well f u base back (normal a turns st) k h i = well_from program lawful outer P' Q' base st.world.cells (f a turns (record st { frame = g st.frame })) k.1
      ((h st.world.cells k.1 a k.2).at turns (record st { frame = g st.frame }) (back st k.0 k.1) (longer_refl st.world.cells))
  left_well f u base back (ended e turns st) k h i = well_from program lawful outer P' Q' base st.world.cells (u e turns (record st { frame = g st.frame })) k.1
      ((i st.world.cells k.1 e k.2).at turns (record st { frame = g st.frame }) (back st k.0 k.1) (longer_refl st.world.cells))
  left_well f u base back (out_of_turns st) k h i = tt

module _ (program : Program) (lawful : Routine → Type 0) (inner : Round) {A : Type 0} (P : List Cell → A → Type 0) (Q : List Cell → Ending → Type 0) (change : Frame → Frame) (m : Computation A) where
  pub entered_well : (i : Instance) (n turns : ℕ) (st : State) → Typed program lawful inner (record st { frame = change st.frame }) → Sound program lawful inner st.world.cells P Q m →
      Well program lawful inner st.world.cells P Q (enters i n (with_frame change m) turns st)
  unfolding enters with_frame
  entered_well i n turns st t h = h.at turns _ (record { cells = t.cells; frame = t.frame; owns = t.owns }) (longer_refl st.world.cells)

-- ---- how a procedure ends

abbrev pub raises_of : Running → List Raise
raises_of r = raised_by (signals_of r.given r.definition.signals)

-- the body of a procedure leaves it so
abbrev pub LeavesWell : Running → Ending → Type 0
LeavesWell r (returned os) = all_fit (own_types os) (outward r.given r.definition.results) ≡ true
LeavesWell r (signalled name os) = Takes (raises_of r) name os × TextFits name os
LeavesWell r (raised name os) = TextFits name os
LeavesWell r _ = ⊥

abbrev pub Leaves : Program → (Routine → Type 0) → Running → List Cell → Ending → Type 0
Leaves program lawful r cells e = EndingFits program lawful cells e × LeavesWell r e

abbrev pub results_of : Running → CluTypes
results_of r = outward r.given r.definition.results

module _ (program : Program) (lawful : Routine → Type 0) (round : Round) (r : Running) where
  abbrev P : List Cell → List Object → Type 0
  P = AreOf program lawful (results_of r)

  abbrev Q : List Cell → Ending → Type 0
  Q = OnlyRaises program lawful (raises_of r)

  empty_results : (types : List HeadingType) (given : Actuals) → is_empty types ≡ true → all_fit no_types (outward given types) ≡ true
  empty_results [] given e = refl
  empty_results (t ∷ ts) given e = absurd (false≢true e)

  pub fails_well : (os : List Object) → all_fit (own_types os) (type_and string_type no_types) ≡ true → Takes (raises_of r) failure os
  fails_well os h = inl (refl, h)

  pub texts : (cells : List Cell) (b : Bool) (name : List ℕ) (os : List Object) → bytes_eq name failure ≡ b → AllTyped program lawful cells os → TextFits name os →
      AllTyped program lawful cells (cond b os (string_object (unhandled_text name) ∷ [])) × (all_fit (own_types (cond b os (string_object (unhandled_text name) ∷ []))) (type_and string_type no_types) ≡ true)
  texts cells true name os e t h = (t, h e)
  texts cells false name os e t h = ((tt, tt), refl)

  sound_without_return : (base : List Cell) → Sound program lawful round base P Q (without_return r.definition.results)
  sound_without_return base = sound_either program lawful round base P Q _ _ _ (λ e. sound_gives program lawful round base P Q [] (λ cells l. (tt, empty_results r.definition.results r.given e)))
      (λ e. sound_raises program lawful round base P Q _ _ (λ cells l. ((tt, tt), fails_well _ refl)))

  sound_ending : (base : List Cell) (e : Ending) → Leaves program lawful r base e → Sound program lawful round base P Q (procedure_ending e)
  unfolding procedure_ending
  sound_ending base (returned os) h = sound_gives program lawful round base P Q os (λ cells l. (all_on program lawful base cells l os h.0, h.1))
  sound_ending base (signalled name os) h = sound_raises program lawful round base P Q name os (λ cells l. (all_on program lawful base cells l os h.0, h.1.0))
  sound_ending base (raised name os) h =
      let text = texts base (bytes_eq name failure) name os refl h.0 h.1 in
      sound_takes program lawful round base P Q _ _ (sound_counts program lawful round base P Q _ _ (sound_ends program lawful round base P Q (raised failure (failure_objects name os))
      (λ cells l. (all_on program lawful base cells l (failure_objects name os) text.0, fails_well (failure_objects name os) text.1))))
  sound_ending base broken h = absurd h.1
  sound_ending base continued h = absurd h.1
  sound_ending base (exited name os) h = absurd h.1
  sound_ending base (through e) h = absurd h.1
  sound_ending base wrong h = absurd h.1

  pub sound_leaves : (base : List Cell) (stack : Stack) (m : Computation (List Object)) → Sound program lawful round base P Q m → Sound program lawful round base P Q (leaves stack m)
  unfolding leaves
  sound_leaves base stack m h = record { at = λ turns st t l. h.at turns _ (record { cells = t.cells; frame = t.frame; owns = t.owns }) l }

  module _ (low : Level) where
    pub sound_calls : (base : List Cell) (os : List Object) → not r.definition.is_iterator ≡ true →
        ((cells : List Cell) → Longer base cells → Sound program lawful (in_procedure r) cells Done (Leaves program lawful r) (executes low (in_procedure r) os)) → Sound program lawful round base P Q (calls low r os)
    unfolding sees_frame sees_stack either_way
    sound_calls base os proc h = sound_need program lawful round base P Q _ _ proc (sound_spends program lawful round base P Q _ (record {
      at = λ turns st t l. well_from program lawful round P Q base st.world.cells _ l (left_well program lawful round (in_procedure r) Done P (Leaves program lawful r) Q (λ f. st.frame)
          (λ done. leaves st.stack (without_return r.definition.results)) (λ e. leaves st.stack (procedure_ending e)) st.world.cells
          (λ now k longer. record { cells = k.cells; frame = frame_on program lawful st.world.cells now.world.cells longer round st.frame t.frame; owns = k.owns })
          (enters r.instance (call_words r.definition.count) (with_frame (λ f. new_frame) (executes low (in_procedure r) os)) turns st)
          (entered_well program lawful (in_procedure r) Done (Leaves program lawful r) (λ f. new_frame) (executes low (in_procedure r) os) r.instance (call_words r.definition.count) turns st
          (record { cells = t.cells; frame = λ n. tt; owns = t.owns }) (h st.world.cells l))
          (λ cells longer done d. sound_leaves cells _ _ (sound_without_return cells))
          (λ cells longer e f. sound_leaves cells _ _ (sound_ending cells e f)));
    }))

-- ---- own variables are set up

-- a set-up ends so
abbrev pub SetsUp : Ending → Type 0
SetsUp (raised name os) = TextFits name os
SetsUp _ = ⊥

abbrev pub SetsUpWell : Program → (Routine → Type 0) → List Cell → Ending → Type 0
SetsUpWell program lawful cells e = EndingFits program lawful cells e × SetsUp e

module _ (program : Program) (lawful : Routine → Type 0) (round : Round) (base : List Cell) (Q : List Cell → Ending → Type 0) where
  -- failure with one string is among the endings
  abbrev pub MayFail : Type 0
  MayFail = (cells : List Cell) (os : List Object) → AllTyped program lawful cells os → all_fit (own_types os) (type_and string_type no_types) ≡ true → Q cells (raised failure os)

  pub sound_once : (ds : List Declaration) (i : Instance) (set_up : Computation (Unit {0})) → Sound program lawful round base Done Q set_up → Sound program lawful round base Done Q (once ds i set_up)
  unfolding sees_owns with_owns
  sound_once [] i set_up h = sound_gives program lawful round base Done Q tt (λ cells l. tt)
  sound_once (d ∷ ds) i set_up h = record {
    at = λ turns st t l. (sound_either program lawful round base Done Q (st.owns.is_set_up i) _ _ (λ yes. sound_gives program lawful round base Done Q tt (λ cells k. tt))
        (λ no_. record { at = λ n now k more. h.at n _ (record { cells = k.cells; frame = k.frame; owns = k.owns }) more })).at turns st t l;
  }

  pub set_leaves : (stack : Stack) (m : Computation (Unit {0})) → Sound program lawful round base Done Q m → Sound program lawful round base Done Q (leaves stack m)
  unfolding leaves
  set_leaves stack m h = record { at = λ turns st t l. h.at turns _ (record { cells = t.cells; frame = t.frame; owns = t.owns }) l }

module _ (program : Program) (lawful : Routine → Type 0) (round : Round) (r : Running) (Q : List Cell → Ending → Type 0) (fails : (base : List Cell) → MayFail program lawful round base Q) where
  set_up_ends : (base : List Cell) (e : Ending) → SetsUpWell program lawful base e → Sound program lawful round base Done Q (set_up_ending e)
  unfolding set_up_ending
  set_up_ends base (raised name os) h =
      let text = texts program lawful round r base (bytes_eq name failure) name os refl h.0 h.1 in
      sound_takes program lawful round base Done Q _ _ (sound_counts program lawful round base Done Q _ _ (sound_ends program lawful round base Done Q (raised failure (failure_objects name os))
      (λ cells l. fails base cells (failure_objects name os) (all_on program lawful base cells l (failure_objects name os) text.0) text.1)))
  set_up_ends base _ h = absurd h.1

  pub sound_calls_set_up : (low : Level) (base : List Cell) → ((cells : List Cell) → Longer base cells → Sound program lawful (in_procedure r) cells Done (SetsUpWell program lawful) (low (in_procedure r) r.definition.body)) →
      Sound program lawful round base Done Q (calls_set_up low r)
  unfolding sees_frame sees_stack either_way
  sound_calls_set_up low base h = sound_spends program lawful round base Done Q _ (record {
    at = λ turns st t l. well_from program lawful round Done Q base st.world.cells _ l (left_well program lawful round (in_procedure r) Done Done (SetsUpWell program lawful) Q (λ f. st.frame)
        (λ done. leaves st.stack (gives tt)) (λ e. leaves st.stack (set_up_ending e)) st.world.cells
        (λ now k longer. record { cells = k.cells; frame = frame_on program lawful st.world.cells now.world.cells longer round st.frame t.frame; owns = k.owns })
        (enters r.instance (call_words r.definition.count) (with_frame (λ f. new_frame) (low (in_procedure r) r.definition.body)) turns st)
        (entered_well program lawful (in_procedure r) Done (SetsUpWell program lawful) (λ f. new_frame) (low (in_procedure r) r.definition.body) r.instance (call_words r.definition.count) turns st
        (record { cells = t.cells; frame = λ n. tt; owns = t.owns }) (h st.world.cells l))
        (λ cells longer done d. set_leaves program lawful round cells Q _ _ (sound_gives program lawful round cells Done Q tt (λ more k. tt)))
        (λ cells longer e f. set_leaves program lawful round cells Q _ _ (set_up_ends cells e f)));
  })

-- ---- what a call executes

module _ (program : Program) (lawful : Routine → Type 0) (low : Level) (round : Round) (fine : Fine program (here round)) (Q : List Cell → Ending → Type 0) (fails : (base : List Cell) → MayFail program lawful round base Q) where
  sound_shared : (home : Option ClusterDefinition) → (here round).home ≡ home → ((cluster : ClusterDefinition) → (here round).home ≡ Some cluster → (cells : List Cell) →
      Sound program lawful (in_procedure (setting_up (here round) cluster)) cells Done (SetsUpWell program lawful) (low (in_procedure (setting_up (here round) cluster)) cluster.set_up)) →
      (base : List Cell) → Sound program lawful round base Done Q (cluster_set_up low home (here round))
  sound_shared None e h base = sound_gives program lawful round base Done Q tt (λ cells l. tt)
  sound_shared (Some cluster) e h base = sound_once program lawful round base Q cluster.owns (cluster_instance (here round)) _
      (sound_calls_set_up program lawful round (setting_up (here round) cluster) Q fails low base (λ cells l. h cluster e cells))

  pub sound_executes : ((cluster : ClusterDefinition) → (here round).home ≡ Some cluster → (cells : List Cell) →
      Sound program lawful (in_procedure (setting_up (here round) cluster)) cells Done (SetsUpWell program lawful) (low (in_procedure (setting_up (here round) cluster)) cluster.set_up)) →
      ((cells : List Cell) → Sound program lawful round cells Done Q (low round (here round).definition.set_up)) → ((cells : List Cell) → Sound program lawful round cells Done Q (low round (here round).definition.body)) →
      (base : List Cell) (os : List Object) → AllTyped program lawful base os → all_fit (own_types os) (outward (here round).given (types_of_formals (here round).definition.formals)) ≡ true → Sound program lawful round base Done Q (executes low round os)
  sound_executes shared set_up body base os typed fit = sound_opened program lawful round fine base Done Q os _ typed fit
      (sound_and_then program lawful round base Done Done Q _ _ (sound_shared (here round).home refl shared base) (λ cells l done d.
      sound_and_then program lawful round cells Done Done Q _ _ (sound_once program lawful round cells Q (here round).definition.owns (here round).instance _ (set_up cells)) (λ more k finished f. body more)))
