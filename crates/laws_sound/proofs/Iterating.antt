-- Iterators and yields don't go wrong, if what they execute doesn't. What ends a loop's body passes the iterator: QB says which endings
-- the body has where it stands.
use Rattle.std.proofs.Common.{◌≡◌, ℕ, Bool, true, false, List, refl}
use Rattle.std.specs.Prelude.{bytes_eq}
use Rattle.clu_layout.specs.Objects.{Routine, Object, Cell, own_types}
use Rattle.clu_layout.specs.SameType.{all_fit}
use Rattle.clu_layout.proofs.CellLaws.{Longer, longer_refl}
use Rattle.clu_meaning.specs.Programs.{Variable, Statements, Program}
use Rattle.clu_meaning.proofs.TypedFine.{Fine}
use Rattle.clu_meaning.specs.State.{Frame, Stack, State, called_from, caller_of, back_to}
use Rattle.clu_meaning.specs.Computations.{Ending, broken, continued, returned, signalled, raised, exited, through, wrong, Computation, gives, ends, either_way, sees_frame, sees_stack, with_frame, enters, goes_deeper, leaves}
use Rattle.clu_meaning.specs.Unhandled.{failure, failure_objects}
use Rattle.clu_meaning.specs.Binding.{Running, inward, outward}
use Rattle.clu_meaning.specs.Calls.{Round, in_iterator, Level, call_words, loop_words, loop_ending, body_ending, executes, iterates, runs_body, yields}
use Rattle.clu_meaning.specs.Typed.{local_type, AllTyped, EndingFits, Typed}
use Rattle.clu_meaning.proofs.TypedFacts.{all_on, ending_on, variables_on}
use Rattle.laws_sound.proofs.Safe.{Well, well_from, Sound, sound_gives, sound_ends, sound_need, sound_spends, sound_counts, sound_takes, sound_raises}
use Rattle.laws_sound.specs.Raises.{Takes}
use Rattle.laws_sound.proofs.Handing.{TextFits, sound_handed_out}
use Rattle.laws_sound.proofs.Calling.{Done, raises_of, left_well, entered_well, fails_well, texts}

-- it is the loop's own: break, or continue, at which the iterator goes on
abbrev pub is_own : Ending → Bool
is_own broken = true
is_own continued = true
is_own _ = false

-- what passes an iterator
abbrev pub Passes : (List Cell → Ending → Type 0) → List Cell → Ending → Type 0
Passes QB cells (through continued) = ⊥
Passes QB cells (through broken) = Unit {0}
Passes QB cells (through e) = QB cells e
Passes QB cells _ = ⊥

-- how the body of an iterator leaves it
abbrev pub LeavesIterator : Running → (List Cell → Ending → Type 0) → List Cell → Ending → Type 0
LeavesIterator r QB cells (returned os) = Unit {0}
LeavesIterator r QB cells (signalled name os) = Takes (raises_of r) name os
LeavesIterator r QB cells (raised name os) = TextFits name os
LeavesIterator r QB cells (through e) = Passes QB cells (through e)
LeavesIterator r QB cells _ = ⊥

module _ (program : Program) (lawful : Routine → Type 0) (QB : List Cell → Ending → Type 0) (no_wrong : (cells : List Cell) → QB cells wrong → ⊥) (lift : (a b : List Cell) → Longer a b → (e : Ending) → QB a e → QB b e) where
  abbrev pub IterEnds : Running → List Cell → Ending → Type 0
  IterEnds r cells e = EndingFits program lawful cells e × LeavesIterator r QB cells e

  -- ---- a yield

  abbrev pub YieldEnds : List Cell → Ending → Type 0
  YieldEnds cells e = EndingFits program lawful cells e × Passes QB cells e

  module _ (round : Round) where
    end_passing : (base : List Cell) (e : Ending) → EndingFits program lawful base e → ((cells : List Cell) → Longer base cells → Passes QB cells (through e)) → Sound program lawful round base Done YieldEnds (ends (through e))
    end_passing base e f h = sound_ends program lawful round base Done YieldEnds (through e) (λ cells l. (ending_on program lawful base cells l e f, h cells l))

    sound_body_ending : (base : List Cell) (e : Ending) → EndingFits program lawful base e → QB base e → Sound program lawful round base Done YieldEnds (body_ending e)
    unfolding body_ending
    sound_body_ending base continued f h = sound_gives program lawful round base Done YieldEnds tt (λ cells l. tt)
    sound_body_ending base wrong f h = absurd (no_wrong base h)
    sound_body_ending base broken f h = end_passing base broken f (λ cells l. tt)
    sound_body_ending base (returned os) f h = end_passing base (returned os) f (λ cells l. lift base cells l (returned os) h)
    sound_body_ending base (signalled name os) f h = end_passing base (signalled name os) f (λ cells l. lift base cells l (signalled name os) h)
    sound_body_ending base (raised name os) f h = end_passing base (raised name os) f (λ cells l. lift base cells l (raised name os) h)
    sound_body_ending base (exited name os) f h = end_passing base (exited name os) f (λ cells l. lift base cells l (exited name os) h)
    sound_body_ending base (through e) f h = end_passing base (through e) f (λ cells l. lift base cells l (through e) h)

    leaves_sound : (base : List Cell) (Q : List Cell → Ending → Type 0) (stack : Stack) (m : Computation (Unit {0})) → Sound program lawful round base Done Q m → Sound program lawful round base Done Q (leaves stack m)
    unfolding leaves
    leaves_sound base Q stack m h = record { at = λ turns st t l. h.at turns _ (record { cells = t.cells; frame = t.frame; owns = t.owns }) l }

  deeper_well : (inner : Round) (Q : List Cell → Ending → Type 0) (change : Frame → Frame) (m : Computation (Unit {0})) (n turns : ℕ) (st : State) → Typed program lawful inner (record st { frame = change st.frame }) →
      Sound program lawful inner st.world.cells Done Q m → Well program lawful inner st.world.cells Done Q (goes_deeper n (with_frame change m) turns st)
  unfolding goes_deeper with_frame
  deeper_well inner Q change m n turns st t h = h.at turns _ (record { cells = t.cells; frame = t.frame; owns = t.owns }) (longer_refl st.world.cells)

  module _ (low : Level) (r : Running) (body : Statements) (declared : ℕ) (xs : List Variable) (caller : Round) where
    abbrev inside : Round
    inside = in_iterator r body declared xs caller

    abbrev BodyEnds : List Cell → Ending → Type 0
    BodyEnds cells e = EndingFits program lawful cells e × QB cells e

    -- the objects are of the types that the heading yields, and the loop's body doesn't go wrong where it stands
    pub sound_yields : Fine program r → (base : List Cell) (os : List Object) → AllTyped program lawful base os → all_fit (own_types os) (inward r.given r.definition.results) ≡ true →
        ((cells : List Cell) → Longer base cells → (handed : List Object) → AllTyped program lawful cells handed → all_fit (own_types handed) (outward r.given r.definition.results) ≡ true →
        Sound program lawful caller cells Done BodyEnds (runs_body low body declared xs caller handed)) → Sound program lawful inside base Done YieldEnds (yields low inside os)
    unfolding yields sees_frame sees_stack either_way
    sound_yields fine base os typed fit h = sound_handed_out program lawful inside fine base Done YieldEnds r.definition.results os _ fine.heading.results typed fit (λ handed all same.
        sound_spends program lawful inside base Done YieldEnds _ (record {
          at = λ turns st t l. well_from program lawful inside Done YieldEnds base st.world.cells _ l (left_well program lawful inside caller Done Done BodyEnds YieldEnds (back_to st.frame.variables)
              (λ done. leaves st.stack (gives tt)) (λ e. leaves st.stack (body_ending e)) st.world.cells
              (λ now k longer. record {
                cells = k.cells;
                frame = (variables_on program lawful st.world.cells now.world.cells longer (local_type r) st.frame.variables t.frame.0, k.frame);
                owns = k.owns;
              })
              (goes_deeper loop_words (with_frame caller_of (runs_body low body declared xs caller handed)) turns st)
              (deeper_well caller BodyEnds caller_of (runs_body low body declared xs caller handed) loop_words turns st (record { cells = t.cells; frame = t.frame.1; owns = t.owns })
              (h st.world.cells l handed (all_on program lawful base st.world.cells l handed all) same))
              (λ cells longer done d. leaves_sound inside cells YieldEnds _ _ (sound_gives program lawful inside cells Done YieldEnds tt (λ more k. tt)))
              (λ cells longer e f. leaves_sound inside cells YieldEnds _ _ (sound_body_ending inside cells e f.0 f.1)));
        }))

    -- ---- a for statement, whose endings are QO

    module _ (QO : List Cell → Ending → Type 0) (on_raise : (cells : List Cell) (name : List ℕ) (os : List Object) → AllTyped program lawful cells os → Takes (raises_of r) name os → QO cells (raised name os))
        (on_pass : (cells : List Cell) (e : Ending) → EndingFits program lawful cells e → QB cells e → is_own e ≡ false → QO cells e) where
      ended_on : (base : List Cell) (e : Ending) → EndingFits program lawful base e → QB base e → is_own e ≡ false → Sound program lawful caller base Done QO (ends e)
      ended_on base e f h own = sound_ends program lawful caller base Done QO e (λ cells l. on_pass cells e (ending_on program lawful base cells l e f) (lift base cells l e h) own)

      sound_loop_ending : (base : List Cell) (e : Ending) → IterEnds r base e → Sound program lawful caller base Done QO (loop_ending e)
      unfolding loop_ending
      sound_loop_ending base (returned os) h = sound_gives program lawful caller base Done QO tt (λ cells l. tt)
      sound_loop_ending base (signalled name os) h = sound_raises program lawful caller base Done QO name os (λ cells l. on_raise cells name os (all_on program lawful base cells l os h.0) h.1)
      sound_loop_ending base (raised name os) h =
          let text = texts program lawful caller r base (bytes_eq name failure) name os refl h.0 h.1 in
          sound_takes program lawful caller base Done QO _ _ (sound_counts program lawful caller base Done QO _ _ (sound_ends program lawful caller base Done QO (raised failure (failure_objects name os))
          (λ cells l. on_raise cells failure (failure_objects name os) (all_on program lawful base cells l (failure_objects name os) text.0) (fails_well program lawful caller r (failure_objects name os) text.1))))
      sound_loop_ending base (through broken) h = sound_gives program lawful caller base Done QO tt (λ cells l. tt)
      sound_loop_ending base (through continued) h = absurd h.1
      sound_loop_ending base (through wrong) h = absurd (no_wrong base h.1)
      sound_loop_ending base (through (returned os)) h = ended_on base (returned os) h.0 h.1 refl
      sound_loop_ending base (through (signalled name os)) h = ended_on base (signalled name os) h.0 h.1 refl
      sound_loop_ending base (through (raised name os)) h = ended_on base (raised name os) h.0 h.1 refl
      sound_loop_ending base (through (exited name os)) h = ended_on base (exited name os) h.0 h.1 refl
      sound_loop_ending base (through (through e)) h = ended_on base (through e) h.0 h.1 refl
      sound_loop_ending base broken h = absurd h.1
      sound_loop_ending base continued h = absurd h.1
      sound_loop_ending base (exited name os) h = absurd h.1
      sound_loop_ending base wrong h = absurd h.1

      pub sound_iterates : (base : List Cell) (os : List Object) → r.definition.is_iterator ≡ true → ((cells : List Cell) → Longer base cells → Sound program lawful inside cells Done (IterEnds r) (executes low inside os)) →
          Sound program lawful caller base Done QO (iterates low r os body declared xs caller)
      unfolding sees_stack either_way
      sound_iterates base os iter h = sound_need program lawful caller base Done QO _ _ iter (sound_spends program lawful caller base Done QO _ (record {
        at = λ turns st t l. well_from program lawful caller Done QO base st.world.cells _ l (left_well program lawful caller inside Done Done (IterEnds r) QO caller_of
            (λ done. leaves st.stack (gives tt)) (λ e. leaves st.stack (loop_ending e)) st.world.cells
            (λ now k longer. record { cells = k.cells; frame = k.frame.1; owns = k.owns })
            (enters r.instance (call_words r.definition.count) (with_frame called_from (executes low inside os)) turns st)
            (entered_well program lawful inside Done (IterEnds r) called_from (executes low inside os) r.instance (call_words r.definition.count) turns st
            (record { cells = t.cells; frame = ((λ n. tt), t.frame); owns = t.owns }) (h st.world.cells l))
            (λ cells longer done d. leaves_sound caller cells QO _ _ (sound_gives program lawful caller cells Done QO tt (λ more k. tt)))
            (λ cells longer e f. leaves_sound caller cells QO _ _ (sound_loop_ending cells e f)));
      }))
