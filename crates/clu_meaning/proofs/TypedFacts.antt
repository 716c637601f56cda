-- What fits goes on to fit while cells are only added and keep their types, and while variables name objects that fit.
use Rattle.std.proofs.Common.{◌≡◌, ℕ, Bool, true, false, cond, List, [], ◌∷◌, Option, None, Some, refl, sym, ap, ap₂, subst}
use Rattle.std.proofs.lemmas.Bool.{false≢true, and_parts, eqb-true}
use Rattle.std.specs.Prelude.{◌==◌, bytes_eq}
use Rattle.clu_base.proofs.Lists.{same_bytes}
use Rattle.clu_types.specs.CluType.{CluType}
use Rattle.clu_layout.specs.Objects.{Routine, module_routine, operation_of, force_of, Object, sequence_object, struct_object, oneof_object, routine_object, reference, sealed, Objects, no_objects, object_and, Cell, array_cell, record_cell, variant_cell}
use Rattle.clu_layout.specs.SameType.{same_type, same_actuals, same_routine}
use Rattle.clu_layout.proofs.SameTypeLaws.{types_are, actuals_are}
use Rattle.clu_layout.proofs.CellLaws.{Longer}
use Rattle.clu_meaning.specs.Programs.{Variable, Statements, Program}
use Rattle.clu_meaning.specs.State.{Instance, of_routine, own_set_up, same_instance, Variables, Frame, Owns, with_variable, with_own, new_frame, called_from, caller_of, back_to}
use Rattle.clu_meaning.specs.Computations.{Ending, returned, signalled, raised, exited, through}
use Rattle.clu_meaning.specs.Binding.{Running}
use Rattle.clu_meaning.specs.Calls.{Round, in_procedure, in_iterator, here}
use Rattle.clu_meaning.specs.Typed.{local_type, own_type_of, IsTyped, AreTyped, AllTyped, CellFits, EachFits, SlotFits, VariablesFit, FrameFits, OwnsFit, EndingFits}

-- ---- the same instance by the test

routine_is : (r s : Routine) → same_routine r s ≡ true → r ≡ s
routine_is (module_routine m xs) (module_routine n ys) h =
    let parts = and_parts (bytes_eq m n) (same_actuals xs ys) h in ap₂ module_routine (same_bytes m n parts.0) (actuals_are xs ys parts.1)
routine_is (operation_of t f) (operation_of u g) h =
    let parts = and_parts (same_type t u) (bytes_eq f g) h in ap₂ operation_of (types_are t u parts.0) (same_bytes f g parts.1)
routine_is (force_of t) (force_of u) h = ap force_of (types_are t u h)
routine_is _ _ h = absurd (false≢true h)

instance_is : (i j : Instance) → same_instance i j ≡ true → i ≡ j
instance_is (of_routine r) (of_routine s) h = ap of_routine (routine_is r s h)
instance_is (own_set_up c xs) (own_set_up d ys) h =
    let parts = and_parts (bytes_eq c d) (same_actuals xs ys) h in ap₂ own_set_up (same_bytes c d parts.0) (actuals_are xs ys parts.1)
instance_is _ _ h = absurd (false≢true h)

module _ (program : Program) (lawful : Routine → Type 0) where
  -- ---- while cells keep their types

  module _ (a b : List Cell) (longer : Longer a b) where
    mutual
      pub typed_on : (o : Object) → IsTyped program lawful a o → IsTyped program lawful b o
      typed_on (sequence_object t os) h = (are_on os h.0, h.1)
      typed_on (struct_object fs os) h = (are_on os h.0, h.1)
      typed_on (oneof_object fs tag o) h = (typed_on o h.0, h.1)
      typed_on (routine_object r heading) h = h
      typed_on (reference t c) h = longer.at c t h
      typed_on (sealed cluster given o) h = (typed_on o h.0, h.1)
      typed_on _ h = tt

      pub are_on : (os : Objects) → AreTyped program lawful a os → AreTyped program lawful b os
      are_on no_objects h = tt
      are_on (object_and o os) h = (typed_on o h.0, are_on os h.1)

    pub all_on : (os : List Object) → AllTyped program lawful a os → AllTyped program lawful b os
    all_on [] h = tt
    all_on (o ∷ os) h = (typed_on o h.0, all_on os h.1)

    pub cell_on : (cell : Cell) → CellFits program lawful a cell → CellFits program lawful b cell
    cell_on (array_cell array) h = (all_on array.items h.0, h.1, h.2, h.3)
    cell_on (record_cell fs os) h = (all_on os h.0, h.1)
    cell_on (variant_cell fs tag o) h = (typed_on o h.0, h.1)

    pub each_on : (cells : List Cell) → EachFits program lawful a cells → EachFits program lawful b cells
    each_on [] h = tt
    each_on (cell ∷ rest) h = (cell_on cell h.0, each_on rest h.1)

    pub slot_on : (t : Option CluType) (o : Option Object) → SlotFits program lawful a t o → SlotFits program lawful b t o
    slot_on t (Some o) h = (typed_on o h.0, h.1)
    slot_on t None h = tt

    pub variables_on : (types : ℕ → Option CluType) (variables : Variables) → VariablesFit program lawful a types variables → VariablesFit program lawful b types variables
    variables_on types variables h = λ n. slot_on (types n) (variables n) (h n)

    pub frame_on : (round : Round) (frame : Frame) → FrameFits program lawful a round frame → FrameFits program lawful b round frame
    frame_on (in_procedure r) frame h = variables_on (local_type r) frame.variables h
    frame_on (in_iterator r body declared xs caller) frame h = (variables_on (local_type r) frame.variables h.0, frame_on caller (caller_of frame) h.1)

    pub owns_on : (owns : Owns) → OwnsFit program lawful a owns → OwnsFit program lawful b owns
    owns_on owns h = λ i. variables_on (own_type_of program i) (owns.variables i) (h i)

    pub ending_on : (e : Ending) → EndingFits program lawful a e → EndingFits program lawful b e
    ending_on (returned os) h = all_on os h
    ending_on (signalled name os) h = all_on os h
    ending_on (raised name os) h = all_on os h
    ending_on (exited name os) h = all_on os h
    ending_on (through e) h = ending_on e h
    ending_on _ h = tt

  -- ---- while variables name objects that fit

  module _ (cells : List Cell) where
    chosen_fits : (types : ℕ → Option CluType) (n m : ℕ) (o old : Option Object) (b : Bool) → (m == n) ≡ b → SlotFits program lawful cells (types n) o →
        SlotFits program lawful cells (types m) old → SlotFits program lawful cells (types m) (cond b o old)
    chosen_fits types n m o old true e h k = subst (λ x. SlotFits program lawful cells (types x) o) (sym (eqb-true m n e)) h
    chosen_fits types n m o old false e h k = k

    pub named_fits : (types : ℕ → Option CluType) (variables : Variables) (n : ℕ) (o : Option Object) → VariablesFit program lawful cells types variables →
        SlotFits program lawful cells (types n) o → VariablesFit program lawful cells types (with_variable variables n o)
    named_fits types variables n o h k = λ m. chosen_fits types n m o (variables m) (m == n) refl k (h m)

    -- a variable of the running routine
    pub frame_named : (round : Round) (frame : Frame) (n : ℕ) (o : Option Object) → FrameFits program lawful cells round frame →
        SlotFits program lawful cells (local_type (here round) n) o → FrameFits program lawful cells round (record frame { variables = with_variable frame.variables n o })
    frame_named (in_procedure r) frame n o h k = named_fits (local_type r) frame.variables n o h k
    frame_named (in_iterator r body declared xs caller) frame n o h k = (named_fits (local_type r) frame.variables n o h.0 k, h.1)

    own_chosen : (owns : Owns) (i j : Instance) (n : ℕ) (o : Object) (b : Bool) → same_instance j i ≡ b → OwnsFit program lawful cells owns →
        SlotFits program lawful cells (own_type_of program i n) (Some o) →
        VariablesFit program lawful cells (own_type_of program j) (cond b (with_variable (owns.variables i) n (Some o)) (owns.variables j))
    own_chosen owns i j n o true e h k = subst (λ x. VariablesFit program lawful cells (own_type_of program x) (with_variable (owns.variables i) n (Some o))) (sym (instance_is j i e))
        (named_fits (own_type_of program i) (owns.variables i) n (Some o) (h i) k)
    own_chosen owns i j n o false e h k = h j

    pub own_named : (owns : Owns) (i : Instance) (n : ℕ) (o : Object) → OwnsFit program lawful cells owns → SlotFits program lawful cells (own_type_of program i n) (Some o) →
        OwnsFit program lawful cells (with_own owns i n o)
    own_named owns i n o h k = λ j. own_chosen owns i j n o (same_instance j i) refl h k

    -- ---- frames of routines that begin, of iterators, and of the routines whose loops called these

    pub new_fits : (types : ℕ → Option CluType) → VariablesFit program lawful cells types new_frame.variables
    new_fits types = λ n. tt

    pub called_fits : (r : Running) (body : Statements) (declared : ℕ) (xs : List Variable) (caller : Round) (frame : Frame) → FrameFits program lawful cells caller frame →
        FrameFits program lawful cells (in_iterator r body declared xs caller) (called_from frame)
    called_fits r body declared xs caller frame h = ((λ n. tt), h)

    pub back_fits : (r : Running) (body : Statements) (declared : ℕ) (xs : List Variable) (caller : Round) (variables : Variables) (frame : Frame) →
        VariablesFit program lawful cells (local_type r) variables → FrameFits program lawful cells caller frame →
        FrameFits program lawful cells (in_iterator r body declared xs caller) (back_to variables frame)
    back_fits r body declared xs caller variables frame h k = (h, k)
