-- Samples of the operations of null, routine types and bool.
use Rattle.std.specs.Prelude.{◌≡◌, refl, true, false, codes}
use Rattle.clu_types.specs.CluType.{CluType, null_type, bool_type, int_type, proc_of, iter_of, no_types, no_signals, signal_and, no_actuals, actual_type}
use Rattle.clu_layout.specs.Objects.{Object, null_object, bool_object, routine_object, module_routine, operation_of, force_of}
use Rattle.clu_layout.specs.Actions.{wrong}
use Rattle.clu_layout.specs.Primitive.{prim}
use Rattle.clu_layout.specs.Computing.{computing}
use Rattle.clu_layout.proofs.Sampling.{one, two, int, nothing, Gives}

-- ---- null

null_equal : Gives null_type "equal" (two null_object null_object) (bool_object true) 0 1
unfolding computing
null_equal = refl

null_similar : Gives null_type "similar" (two null_object null_object) (bool_object true) 0 1
unfolding computing
null_similar = refl

null_copy : Gives null_type "copy" (one null_object) null_object 0 1
unfolding computing
null_copy = refl

-- ---- routines

-- proctype (), and the same with a signal
abbrev quiet_type : CluType
quiet_type = proc_of no_types no_types no_signals

abbrev loud_type : CluType
loud_type = proc_of no_types no_types (signal_and (codes "e") no_types no_signals)

abbrev p : Object
p = routine_object (module_routine (codes "p") no_actuals) quiet_type

-- the instance of p for int
abbrev p_int : Object
p_int = routine_object (module_routine (codes "p") (actual_type int_type no_actuals)) quiet_type

abbrev q : Object
q = routine_object (module_routine (codes "q") no_actuals) loud_type

abbrev int_add : Object
int_add = routine_object (operation_of int_type (codes "add")) quiet_type

abbrev int_sub : Object
int_sub = routine_object (operation_of int_type (codes "sub")) quiet_type

abbrev force_bool : Object
force_bool = routine_object (force_of bool_type) quiet_type

abbrev force_int : Object
force_int = routine_object (force_of int_type) quiet_type

same_instance : Gives quiet_type "equal" (two p p) (bool_object true) 0 1
unfolding computing
same_instance = refl

other_actuals : Gives quiet_type "equal" (two p p_int) (bool_object false) 0 1
unfolding computing
other_actuals = refl

-- of the left routine's own type, which doesn't include that of the right one
other_type : Gives quiet_type "equal" (two p q) (bool_object false) 0 1
unfolding computing
other_type = refl

same_operation : Gives quiet_type "similar" (two int_add int_add) (bool_object true) 0 1
unfolding computing
same_operation = refl

other_operation : Gives quiet_type "equal" (two int_add int_sub) (bool_object false) 0 1
unfolding computing
other_operation = refl

operation_and_force : Gives quiet_type "equal" (two int_add force_int) (bool_object false) 0 1
unfolding computing
operation_and_force = refl

same_force : Gives quiet_type "equal" (two force_int force_int) (bool_object true) 0 1
unfolding computing
same_force = refl

other_force : Gives quiet_type "equal" (two force_int force_bool) (bool_object false) 0 1
unfolding computing
other_force = refl

routine_copy : Gives loud_type "copy" (one q) q 0 1
unfolding computing
routine_copy = refl

iterators : Gives (iter_of no_types no_types no_signals) "equal" (two p p) (bool_object true) 0 1
unfolding computing
iterators = refl

-- only routines are taken
no_routine : prim quiet_type (codes "equal") (two p (int 1)) nothing ≡ wrong
unfolding computing
no_routine = refl

-- ---- bool

bool_and : Gives bool_type "and" (two (bool_object true) (bool_object true)) (bool_object true) 0 1
unfolding computing
bool_and = refl

bool_and_not : Gives bool_type "and" (two (bool_object true) (bool_object false)) (bool_object false) 0 1
unfolding computing
bool_and_not = refl

not_and : Gives bool_type "and" (two (bool_object false) (bool_object true)) (bool_object false) 0 1
unfolding computing
not_and = refl

neither_and : Gives bool_type "and" (two (bool_object false) (bool_object false)) (bool_object false) 0 1
unfolding computing
neither_and = refl

bool_or : Gives bool_type "or" (two (bool_object false) (bool_object true)) (bool_object true) 0 1
unfolding computing
bool_or = refl

first_or : Gives bool_type "or" (two (bool_object true) (bool_object false)) (bool_object true) 0 1
unfolding computing
first_or = refl

both_or : Gives bool_type "or" (two (bool_object true) (bool_object true)) (bool_object true) 0 1
unfolding computing
both_or = refl

bool_or_not : Gives bool_type "or" (two (bool_object false) (bool_object false)) (bool_object false) 0 1
unfolding computing
bool_or_not = refl

bool_not : Gives bool_type "not" (one (bool_object true)) (bool_object false) 0 1
unfolding computing
bool_not = refl

bool_not_false : Gives bool_type "not" (one (bool_object false)) (bool_object true) 0 1
unfolding computing
bool_not_false = refl

bool_equal_true : Gives bool_type "equal" (two (bool_object true) (bool_object true)) (bool_object true) 0 1
unfolding computing
bool_equal_true = refl

bool_equal : Gives bool_type "equal" (two (bool_object false) (bool_object false)) (bool_object true) 0 1
unfolding computing
bool_equal = refl

bool_differ : Gives bool_type "equal" (two (bool_object false) (bool_object true)) (bool_object false) 0 1
unfolding computing
bool_differ = refl

bool_similar : Gives bool_type "similar" (two (bool_object true) (bool_object false)) (bool_object false) 0 1
unfolding computing
bool_similar = refl

bool_copy : Gives bool_type "copy" (one (bool_object true)) (bool_object true) 0 1
unfolding computing
bool_copy = refl

-- objects of other types and other numbers of objects are wrong
bool_of_int : prim bool_type (codes "not") (one (int 1)) nothing ≡ wrong
unfolding computing
bool_of_int = refl

bool_of_two : prim bool_type (codes "not") (two (bool_object true) (bool_object true)) nothing ≡ wrong
unfolding computing
bool_of_two = refl

no_operation : prim bool_type (codes "nand") (two (bool_object true) (bool_object true)) nothing ≡ wrong
unfolding computing
no_operation = refl
