-- Calls, iterators, yields and the setting up of own variables leave a state typed, if the level below does.
use Rattle.std.proofs.Common.{◌≡◌, ℕ, Bool, true, false, List, [], ◌∷◌, Option, None, Some, refl, cond}
use Rattle.std.specs.Prelude.{bytes_eq}
use Rattle.clu_layout.specs.Objects.{Routine, Object, string_object, Cell}
use Rattle.clu_layout.proofs.CellLaws.{Longer, longer_refl}
use Rattle.clu_meaning.specs.Programs.{Variable, Statements, Declaration, HeadingType, ClusterDefinition, Program}
use Rattle.clu_meaning.specs.State.{Instance, Frame, State, new_frame, called_from, caller_of, back_to, with_set_up}
use Rattle.clu_meaning.specs.Computations.{Ending, broken, continued, returned, signalled, raised, exited, through, wrong, Result, normal, ended, out_of_turns, Computation, gives, ends, continue_either_way, either_way, sees_frame, sees_owns, sees_stack, with_frame, with_owns, enters, goes_deeper, leaves}
use Rattle.clu_meaning.specs.Binding.{Running, cluster_instance}
use Rattle.clu_meaning.specs.Unhandled.{failure, failure_objects, unhandled_text}
use Rattle.clu_meaning.specs.Calls.{Round, in_procedure, in_iterator, here, Level, call_words, loop_words, raises_unhandled, without_return, procedure_ending, set_up_ending, loop_ending, body_ending, setting_up, calls_set_up, once, cluster_set_up, routine_set_up, executes, calls, iterates, runs_body, yields}
use Rattle.clu_meaning.specs.Typed.{local_type, AllTyped, EndingFits, Typed}
use Rattle.clu_meaning.proofs.TypedFacts.{all_on, variables_on, frame_on, ending_on}
use Rattle.clu_meaning.proofs.TypedComputing.{Good, Stays, Objects, good_from, stays_gives, stays_ends, stays_wrong, stays_need, stays_either, stays_spends, stays_counts, stays_takes, stays_leaves, stays_raises, stays_fails, stays_and_then, stays_assigned}
use Rattle.clu_meaning.proofs.TypedHeadings.{HomeIs, stays_handed_out, stays_argued}
use Rattle.clu_meaning.proofs.TypedFine.{Fine, Stands, fine_here, set_up_fine}

-- nothing is given
abbrev pub Done : List Cell → Unit {0} → Type 0
Done cells done = Unit {0}

-- ---- from one place to another and back

module _ (program : Program) (lawful : Routine → Type 0) (outer inner : Round) {A B : Type 0} (P : List Cell → A → Type 0) (Q : List Cell → B → Type 0) (g : Frame → Frame) where
  -- back at the outer place, with its frame
  pub left_good : (f : A → Computation B) (u : Ending → Computation B) (base : List Cell) →
      ((now : State) → Typed program lawful inner now → Longer base now.world.cells → Typed program lawful outer (record now { frame = g now.frame })) →
      (r : Result A) → Good program lawful inner base P r →
      ((cells : List Cell) → Longer base cells → (a : A) → P cells a → Stays program lawful outer cells Q (f a)) →
      ((cells : List Cell) → Longer base cells → (e : Ending) → EndingFits program lawful cells e → Stays program lawful outer cells Q (u e)) →
      Good program lawful outer base Q (continue_either_way (λ a. with_frame g (f a)) (λ e. with_frame g (u e)) r)
  unfolding continue_either_way with_frame
  left_good f u base back (normal a turns st) k h i = good_from program lawful outer Q base st.world.cells (f a turns (record st { frame = g st.frame })) k.1
      ((h st.world.cells k.1 a k.2).at turns (record st { frame = g st.frame }) (back st k.0 k.1) (longer_refl st.world.cells))
  left_good f u base back (ended e turns st) k h i = good_from program lawful outer Q base st.world.cells (u e turns (record st { frame = g st.frame })) k.1
      ((i st.world.cells k.1 e k.2).at turns (record st { frame = g st.frame }) (back st k.0 k.1) (longer_refl st.world.cells))
  left_good f u base back (out_of_turns st) k h i = tt

-- at the inner place, with its frame
module _ (program : Program) (lawful : Routine → Type 0) (inner : Round) {A : Type 0} (P : List Cell → A → Type 0) (change : Frame → Frame) (m : Computation A) where
  entered_good : (i : Instance) (n turns : ℕ) (st : State) → Typed program lawful inner (record st { frame = change st.frame }) → Stays program lawful inner st.world.cells P m →
      Good program lawful inner st.world.cells P (enters i n (with_frame change m) turns st)
  unfolding enters with_frame
  entered_good i n turns st t h = h.at turns _ (record { cells = t.cells; frame = t.frame; owns = t.owns }) (longer_refl st.world.cells)

  deeper_good : (n turns : ℕ) (st : State) → Typed program lawful inner (record st { frame = change st.frame }) → Stays program lawful inner st.world.cells P m →
      Good program lawful inner st.world.cells P (goes_deeper n (with_frame change m) turns st)
  unfolding goes_deeper with_frame
  deeper_good n turns st t h = h.at turns _ (record { cells = t.cells; frame = t.frame; owns = t.owns }) (longer_refl st.world.cells)

-- ---- how a routine ends

module _ (program : Program) (lawful : Routine → Type 0) (round : Round) (base : List Cell) where
  chosen_objects : (b : Bool) (name : List ℕ) (os : List Object) → AllTyped program lawful base os → AllTyped program lawful base (cond b os (string_object (unhandled_text name) ∷ []))
  chosen_objects true name os t = t
  chosen_objects false name os t = (tt, tt)

  module _ {A : Type 0} (P : List Cell → A → Type 0) where
    stays_raises_unhandled : (name : List ℕ) (os : List Object) → AllTyped program lawful base os → Stays program lawful round base P (raises_unhandled name os)
    stays_raises_unhandled name os t = stays_takes program lawful round base P _ _ (stays_counts program lawful round base P _ _ (stays_ends program lawful round base P (raised failure (failure_objects name os))
        (λ cells l. all_on program lawful base cells l (failure_objects name os) (chosen_objects (bytes_eq name failure) name os t))))

  stays_without_return : (results : List HeadingType) → Stays program lawful round base (Objects program lawful round) (without_return results)
  stays_without_return results = stays_either program lawful round base (Objects program lawful round) _ _ _ (stays_gives program lawful round base (Objects program lawful round) [] (λ cells l. tt))
      (stays_fails program lawful round base (Objects program lawful round) _)

  stays_procedure_ending : (e : Ending) → EndingFits program lawful base e → Stays program lawful round base (Objects program lawful round) (procedure_ending e)
  unfolding procedure_ending
  stays_procedure_ending (returned os) t = stays_gives program lawful round base (Objects program lawful round) os (λ cells l. all_on program lawful base cells l os t)
  stays_procedure_ending (signalled name os) t = stays_raises program lawful round base (Objects program lawful round) name os t
  stays_procedure_ending (raised name os) t = stays_raises_unhandled (Objects program lawful round) name os t
  stays_procedure_ending _ t = stays_wrong program lawful round base (Objects program lawful round)

  stays_set_up_ending : (e : Ending) → EndingFits program lawful base e → Stays program lawful round base Done (set_up_ending e)
  unfolding set_up_ending
  stays_set_up_ending (raised name os) t = stays_raises_unhandled Done name os t
  stays_set_up_ending _ t = stays_wrong program lawful round base Done

  -- an ending goes on
  pub stays_ends_on : {A : Type 0} (P : List Cell → A → Type 0) (e : Ending) → EndingFits program lawful base e → Stays program lawful round base P (ends e)
  stays_ends_on P e t = stays_ends program lawful round base P e (λ cells l. ending_on program lawful base cells l e t)

  stays_loop_ending : (e : Ending) → EndingFits program lawful base e → Stays program lawful round base Done (loop_ending e)
  unfolding loop_ending
  stays_loop_ending (returned os) t = stays_gives program lawful round base Done tt (λ cells l. tt)
  stays_loop_ending (signalled name os) t = stays_raises program lawful round base Done name os t
  stays_loop_ending (raised name os) t = stays_raises_unhandled Done name os t
  stays_loop_ending (through broken) t = stays_gives program lawful round base Done tt (λ cells l. tt)
  stays_loop_ending (through continued) t = stays_ends_on Done continued t
  stays_loop_ending (through (returned os)) t = stays_ends_on Done (returned os) t
  stays_loop_ending (through (signalled name os)) t = stays_ends_on Done (signalled name os) t
  stays_loop_ending (through (raised name os)) t = stays_ends_on Done (raised name os) t
  stays_loop_ending (through (exited name os)) t = stays_ends_on Done (exited name os) t
  stays_loop_ending (through (through e)) t = stays_ends_on Done (through e) t
  stays_loop_ending (through wrong) t = stays_ends_on Done wrong t
  stays_loop_ending _ t = stays_wrong program lawful round base Done

  stays_body_ending : (e : Ending) → EndingFits program lawful base e → Stays program lawful round base Done (body_ending e)
  unfolding body_ending
  stays_body_ending continued t = stays_gives program lawful round base Done tt (λ cells l. tt)
  stays_body_ending wrong t = stays_wrong program lawful round base Done
  stays_body_ending broken t = stays_ends_on Done (through broken) t
  stays_body_ending (returned os) t = stays_ends_on Done (through (returned os)) t
  stays_body_ending (signalled name os) t = stays_ends_on Done (through (signalled name os)) t
  stays_body_ending (raised name os) t = stays_ends_on Done (through (raised name os)) t
  stays_body_ending (exited name os) t = stays_ends_on Done (through (exited name os)) t
  stays_body_ending (through e) t = stays_ends_on Done (through (through e)) t

-- ---- the level below

-- statements leave a state typed wherever they stand
abbrev pub LevelStays : Program → (Routine → Type 0) → Level → Type 0
LevelStays program lawful low = (round : Round) → Stands program round → (body : Statements) (base : List Cell) → Stays program lawful round base Done (low round body)

module _ (program : Program) (lawful : Routine → Type 0) (low : Level) (lows : LevelStays program lawful low) where
  -- ---- own variables

  stays_once : (round : Round) (base : List Cell) (owns : List Declaration) (i : Instance) (m : Computation (Unit {0})) → Stays program lawful round base Done m →
      Stays program lawful round base Done (once owns i m)
  unfolding sees_owns with_owns
  stays_once round base [] i m h = stays_gives program lawful round base Done tt (λ cells l. tt)
  stays_once round base (d ∷ ds) i m h = record {
    at = λ turns st t l. (stays_either program lawful round base Done (st.owns.is_set_up i) (gives tt) (with_owns (λ o. with_set_up o i) m) (stays_gives program lawful round base Done tt (λ cells k. tt))
        (record { at = λ turns st t l. h.at turns (record st { owns = with_set_up st.owns i }) (record { cells = t.cells; frame = t.frame; owns = t.owns }) l })).at turns st t l;
  }

  module _ (round : Round) (stands : Stands program round) where
    -- ---- the setting up of own variables, as calls

    stays_calls_set_up : (r : Running) → Fine program r → (base : List Cell) → Stays program lawful round base Done (calls_set_up low r)
    unfolding sees_frame sees_stack either_way
    stays_calls_set_up r fine base = stays_spends program lawful round base Done _ (record {
      at = λ turns st t l. good_from program lawful round Done base st.world.cells _ l (left_good program lawful round (in_procedure r) Done Done (λ f. st.frame)
          (λ done. leaves st.stack (gives tt)) (λ e. leaves st.stack (set_up_ending e)) st.world.cells
          (λ now k longer. record { cells = k.cells; frame = frame_on program lawful st.world.cells now.world.cells longer round st.frame t.frame; owns = k.owns })
          (enters r.instance (call_words r.definition.count) (with_frame (λ f. new_frame) (low (in_procedure r) r.definition.body)) turns st)
          (entered_good program lawful (in_procedure r) Done (λ f. new_frame) (low (in_procedure r) r.definition.body) r.instance (call_words r.definition.count) turns st
          (record { cells = t.cells; frame = λ n. tt; owns = t.owns }) (lows (in_procedure r) fine r.definition.body st.world.cells))
          (λ cells longer done d. stays_leaves program lawful round cells Done _ _ (stays_gives program lawful round cells Done tt (λ more k. tt)))
          (λ cells longer e f. stays_leaves program lawful round cells Done _ _ (stays_set_up_ending program lawful round cells e f)));
    })

    stays_cluster_set_up : (r : Running) → HomeIs program r.home → (home : Option ClusterDefinition) → r.home ≡ home → (base : List Cell) →
        Stays program lawful round base Done (cluster_set_up low home r)
    stays_cluster_set_up r h None e base = stays_gives program lawful round base Done tt (λ cells l. tt)
    stays_cluster_set_up r h (Some cluster) e base = stays_once round base cluster.owns (cluster_instance r) _
        (stays_calls_set_up (setting_up r cluster) (set_up_fine program r cluster e h) base)

    stays_routine_set_up : (base : List Cell) → Stays program lawful round base Done (routine_set_up low round)
    stays_routine_set_up base = stays_once round base (here round).definition.owns (here round).instance _ (lows round stands (here round).definition.set_up base)

    pub stays_executes : (base : List Cell) (os : List Object) → AllTyped program lawful base os → Stays program lawful round base Done (executes low round os)
    stays_executes base os typed =
        let fine = fine_here program round stands in
        stays_argued program lawful round fine.home base Done fine.belongs fine.heading.declared fine.heading.formals os _ typed
        (stays_and_then program lawful round base Done Done _ _ (stays_cluster_set_up (here round) fine.home (here round).home refl base) (λ cells l done d.
        stays_and_then program lawful round cells Done Done _ _ (stays_routine_set_up cells) (λ more k finished f.
        lows round stands (here round).definition.body more)))

  -- ---- calls

  pub stays_calls : (round : Round) (r : Running) → Fine program r → (base : List Cell) (os : List Object) → AllTyped program lawful base os →
      Stays program lawful round base (Objects program lawful round) (calls low r os)
  unfolding sees_frame sees_stack either_way
  stays_calls round r fine base os typed = stays_need program lawful round base (Objects program lawful round) _ _ (λ is. stays_spends program lawful round base (Objects program lawful round) _ (record {
    at = λ turns st t l. good_from program lawful round (Objects program lawful round) base st.world.cells _ l (left_good program lawful round (in_procedure r) Done (Objects program lawful round) (λ f. st.frame)
        (λ done. leaves st.stack (without_return r.definition.results)) (λ e. leaves st.stack (procedure_ending e)) st.world.cells
        (λ now k longer. record { cells = k.cells; frame = frame_on program lawful st.world.cells now.world.cells longer round st.frame t.frame; owns = k.owns })
        (enters r.instance (call_words r.definition.count) (with_frame (λ f. new_frame) (executes low (in_procedure r) os)) turns st)
        (entered_good program lawful (in_procedure r) Done (λ f. new_frame) (executes low (in_procedure r) os) r.instance (call_words r.definition.count) turns st
        (record { cells = t.cells; frame = λ n. tt; owns = t.owns }) (stays_executes (in_procedure r) fine st.world.cells os (all_on program lawful base st.world.cells l os typed)))
        (λ cells longer done d. stays_leaves program lawful round cells (Objects program lawful round) _ _ (stays_without_return program lawful round cells r.definition.results))
        (λ cells longer e f. stays_leaves program lawful round cells (Objects program lawful round) _ _ (stays_procedure_ending program lawful round cells e f)));
  }))

  -- ---- iterators

  pub stays_iterates : (round : Round) → Stands program round → (r : Running) → Fine program r → (base : List Cell) (os : List Object) (body : Statements) (declared : ℕ) (xs : List Variable) →
      AllTyped program lawful base os → Stays program lawful round base Done (iterates low r os body declared xs round)
  unfolding sees_stack either_way
  stays_iterates round stands r fine base os body declared xs typed = stays_need program lawful round base Done _ _ (λ is. stays_spends program lawful round base Done _ (record {
    at = λ turns st t l. good_from program lawful round Done base st.world.cells _ l (left_good program lawful round (in_iterator r body declared xs round) Done Done caller_of
        (λ done. leaves st.stack (gives tt)) (λ e. leaves st.stack (loop_ending e)) st.world.cells
        (λ now k longer. record { cells = k.cells; frame = k.frame.1; owns = k.owns })
        (enters r.instance (call_words r.definition.count) (with_frame called_from (executes low (in_iterator r body declared xs round) os)) turns st)
        (entered_good program lawful (in_iterator r body declared xs round) Done called_from (executes low (in_iterator r body declared xs round) os) r.instance (call_words r.definition.count) turns st
        (record { cells = t.cells; frame = ((λ n. tt), t.frame); owns = t.owns })
        (stays_executes (in_iterator r body declared xs round) (fine, stands) st.world.cells os (all_on program lawful base st.world.cells l os typed)))
        (λ cells longer done d. stays_leaves program lawful round cells Done _ _ (stays_gives program lawful round cells Done tt (λ more k. tt)))
        (λ cells longer e f. stays_leaves program lawful round cells Done _ _ (stays_loop_ending program lawful round cells e f)));
  }))

  -- the loop's body, where the for statement stands
  stays_runs_body : (caller : Round) → Stands program caller → (base : List Cell) (os : List Object) (body : Statements) (declared : ℕ) (xs : List Variable) → AllTyped program lawful base os →
      Stays program lawful caller base Done (runs_body low body declared xs caller os)
  stays_runs_body caller stands base os body declared xs typed = stays_counts program lawful caller base Done _ _
      (stays_assigned program lawful caller (fine_here program caller stands).belongs base Done _ (lows caller stands body base) xs os typed)

  pub stays_yields : (round : Round) → Stands program round → (base : List Cell) (os : List Object) → AllTyped program lawful base os → Stays program lawful round base Done (yields low round os)
  unfolding yields sees_frame sees_stack either_way
  stays_yields (in_procedure r) stands base os typed = stays_wrong program lawful (in_procedure r) base Done
  stays_yields (in_iterator r body declared xs caller) stands base os typed =
      let round : Round = in_iterator r body declared xs caller in
      stays_handed_out program lawful round stands.0.home base Done r.definition.results os _ stands.0.heading.results typed (λ handed all.
      stays_spends program lawful round base Done _ (record {
        at = λ turns st t l. good_from program lawful round Done base st.world.cells _ l (left_good program lawful round caller Done Done (back_to st.frame.variables)
            (λ done. leaves st.stack (gives tt)) (λ e. leaves st.stack (body_ending e)) st.world.cells
            (λ now k longer. record {
              cells = k.cells;
              frame = (variables_on program lawful st.world.cells now.world.cells longer (local_type r) st.frame.variables t.frame.0, k.frame);
              owns = k.owns;
            })
            (goes_deeper loop_words (with_frame caller_of (runs_body low body declared xs caller handed)) turns st)
            (deeper_good program lawful caller Done caller_of (runs_body low body declared xs caller handed) loop_words turns st
            (record { cells = t.cells; frame = t.frame.1; owns = t.owns })
            (stays_runs_body caller stands.1 st.world.cells handed body declared xs (all_on program lawful base st.world.cells l handed all)))
            (λ cells longer done d. stays_leaves program lawful round cells Done _ _ (stays_gives program lawful round cells Done tt (λ more k. tt)))
            (λ cells longer e f. stays_leaves program lawful round cells Done _ _ (stays_body_ending program lawful round cells e f)));
      }))
