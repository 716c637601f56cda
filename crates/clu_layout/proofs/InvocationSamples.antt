-- Samples of force, of constructors and of what binding to type any takes.
use Rattle.std.specs.Prelude.{◌≡◌, refl, ℕ, ℤ, pos, negsuc, List, [], ◌∷◌, codes}
use Rattle.clu_types.specs.CluType.{CluType, int_type, string_type, any_type, array_of, record_of, cluster_of, proc_of, no_types, type_and, Fields, no_fields, field_and, no_signals, signal_and, Actuals, no_actuals, actual_type}
use Rattle.clu_layout.specs.Objects.{Object, sequence_object, struct_object, routine_object, module_routine, inside, reference, sealed, Cell, array_cell, record_cell}
use Rattle.clu_layout.specs.Actions.{World, Outcome, returned, signalled, wrong}
use Rattle.clu_layout.specs.Primitive.{force, force_heading, heading_type, make_array, make_array_with_low, make_sequence, make_struct, make_record}
use Rattle.clu_layout.specs.Computing.{computing}
use Rattle.clu_layout.proofs.Sampling.{one, two, int, string, world, nothing}

-- ---- force[T] binds its argument to type any, also if it signals

abbrev Forces : CluType → Object → ℕ → ℕ → Type 0
Forces t o words work = force t (one o) nothing ≡ returned (one o) (world [] [] [] words work)

abbrev ForcesNot : CluType → Object → Type 0
ForcesNot t o = force t (one o) nothing ≡ signalled (codes "wrong_type") [] (world [] [] [] 2 3)

force_int : Forces int_type (int 3) 2 3
unfolding computing
force_int = refl

force_other : ForcesNot string_type (int 3)
unfolding computing
force_other = refl

-- no object's own type is any
force_any : ForcesNot any_type (int 3)
unfolding computing
force_any = refl

abbrev for_int : Actuals
for_int = actual_type int_type no_actuals

-- a sealed object is of its cluster instance's type, and of no other
force_sealed : Forces (cluster_of (codes "c") for_int) (sealed (codes "c") for_int (int 3)) 2 3
unfolding computing
force_sealed = refl

force_inside : ForcesNot int_type (sealed (codes "c") for_int (int 3))
unfolding computing
force_inside = refl

force_other_instance : ForcesNot (cluster_of (codes "c") (actual_type string_type no_actuals)) (sealed (codes "c") for_int (int 3))
unfolding computing
force_other_instance = refl

-- a routine's own type is that of its heading: force doesn't take the type with more signals
abbrev quiet_type : CluType
quiet_type = proc_of no_types no_types no_signals

abbrev loud_type : CluType
loud_type = proc_of no_types no_types (signal_and (codes "e") no_types no_signals)

abbrev quiet : Object
quiet = routine_object (module_routine (codes "p") no_actuals) quiet_type

force_routine : Forces quiet_type quiet 2 3
unfolding computing
force_routine = refl

force_more_signals : ForcesNot loud_type quiet
unfolding computing
force_more_signals = refl

force_heading_as_a_type : heading_type (force_heading int_type) ≡ proc_of (type_and any_type no_types) (type_and int_type no_types) (signal_and (codes "wrong_type") no_types no_signals)
force_heading_as_a_type = refl

force_nothing : force int_type [] nothing ≡ wrong
unfolding computing
force_nothing = refl

-- ---- constructors: 6 and the elements for an array, 1 and the elements for a sequence, 1 and the components for a struct
-- or record, and 2 for each part of type any; each word is a unit of work

abbrev Constructs : (World → Outcome) → Object → List Cell → ℕ → Type 0
Constructs make o cells words = make nothing ≡ returned (one o) (world cells [] [] words words)

abbrev ints : ℤ → List Object → ℕ → Cell
ints low items room = array_cell (record { element = int_type; low = low; items = items; room = room })

array_constructor : Constructs (make_array int_type (pos 1) (two (int 7) (int 8)))
    (reference (array_of int_type) 0) (ints (pos 1) (two (int 7) (int 8)) 2 ∷ []) 8
unfolding computing
array_constructor = refl

array_of_none : Constructs (make_array int_type (negsuc 4) []) (reference (array_of int_type) 0) (ints (negsuc 4) [] 0 ∷ []) 6
unfolding computing
array_of_none = refl

array_out_of_range : make_array int_type (negsuc 9223372036854775807) [] nothing
    ≡ signalled (codes "failure") (one (string "bounds out of range")) nothing
unfolding computing
array_out_of_range = refl

-- a low bound that is given must be an int
array_from : Constructs (make_array_with_low int_type (int 3) (one (int 7))) (reference (array_of int_type) 0) (ints (pos 3) (one (int 7)) 1 ∷ []) 7
unfolding computing
array_from = refl

array_from_a_string : make_array_with_low int_type (string "3") (one (int 7)) nothing ≡ wrong
unfolding computing
array_from_a_string = refl

array_of_any : Constructs (make_array any_type (pos 1) (one (int 7)))
    (reference (array_of any_type) 0) (array_cell (record { element = any_type; low = pos 1; items = one (int 7); room = 1 }) ∷ []) 9
unfolding computing
array_of_any = refl

-- what binding took stays taken
array_of_any_out_of_range : make_array any_type (pos 9223372036854775807) (two (int 7) (int 8)) nothing
    ≡ signalled (codes "failure") (one (string "bounds out of range")) (world [] [] [] 4 4)
unfolding computing
array_of_any_out_of_range = refl

array_of_others : make_array int_type (pos 1) (one (string "x")) nothing ≡ wrong
unfolding computing
array_of_others = refl

sequence_constructor : Constructs (make_sequence int_type (two (int 7) (int 8)))
    (sequence_object int_type (inside (two (int 7) (int 8)))) [] 3
unfolding computing
sequence_constructor = refl

abbrev fields : Fields
fields = field_and (codes "a") int_type (field_and (codes "b") any_type no_fields)

struct_constructor : Constructs (make_struct fields (two (int 7) (int 8))) (struct_object fields (inside (two (int 7) (int 8)))) [] 5
unfolding computing
struct_constructor = refl

record_constructor : Constructs (make_record fields (two (int 7) (int 8)))
    (reference (record_of fields) 0) (record_cell fields (two (int 7) (int 8)) ∷ []) 5
unfolding computing
record_constructor = refl

component_lacking : make_record fields (one (int 7)) nothing ≡ wrong
unfolding computing
component_lacking = refl

-- a routine with fewer signals may stand where more are listed, and not the other way round
narrower_element : Constructs (make_sequence loud_type (one quiet)) (sequence_object loud_type (inside (one quiet))) [] 2
unfolding computing
narrower_element = refl

wider_element : make_sequence quiet_type (one (routine_object (module_routine (codes "q") no_actuals) loud_type)) nothing ≡ wrong
unfolding computing
wider_element = refl
