-- Samples of what is looked up in objects, constants and routines.
use Rattle.std.specs.Prelude.{◌≡◌, refl, pos, negsuc, true, [], ◌∷◌, None, Some, codes}
use Rattle.clu_base.specs.declared.constants.Const.TheVariants as constant
use Rattle.clu_types.specs.CluType.{int_type, string_type, array_of, variant_of, parameter, Fields, no_fields, field_and, Actuals, no_actuals, actual_type}
use Rattle.clu_builtin.specs.Table.{operation}
use Rattle.clu_layout.specs.Objects.{null_object, bool_object, char_object, oneof_object, routine_object, reference, sealed, module_routine, operation_of, force_of, routine_substituted, object_of, variant_cell}
use Rattle.clu_layout.specs.Openers.{bool_in, int_in, routine_in, unsealed, tagged_in}
use Rattle.clu_layout.specs.Primitive.{force_heading, heading_of, without_text}
use Rattle.clu_layout.proofs.Sampling.{int, below_zero, string}

-- ---- objects

bool_inside : bool_in (bool_object true) ≡ Some true
bool_inside = refl

no_bool : bool_in (int 1) ≡ None
no_bool = refl

int_inside : int_in (int 3) ≡ Some (pos 3)
int_inside = refl

no_int : int_in null_object ≡ None
no_int = refl

routine_inside : routine_in (routine_object (force_of int_type) int_type) ≡ Some (force_of int_type)
routine_inside = refl

abbrev for_int : Actuals
for_int = actual_type int_type no_actuals

unsealed_by_its_instance : unsealed (codes "c") for_int (sealed (codes "c") for_int (int 3)) ≡ Some (int 3)
unsealed_by_its_instance = refl

unsealed_by_another_instance : unsealed (codes "c") (actual_type string_type no_actuals) (sealed (codes "c") for_int (int 3)) ≡ None
unsealed_by_another_instance = refl

unsealed_by_another_cluster : unsealed (codes "d") for_int (sealed (codes "c") for_int (int 3)) ≡ None
unsealed_by_another_cluster = refl

not_sealed : unsealed (codes "c") for_int (int 3) ≡ None
not_sealed = refl

abbrev fields : Fields
fields = field_and (codes "a") int_type no_fields

oneof_tag : tagged_in [] (oneof_object fields (codes "a") (int 7)) ≡ Some (codes "a", int 7)
oneof_tag = refl

variant_tag : tagged_in (variant_cell fields (codes "a") (int 7) ∷ []) (reference (variant_of fields) 0) ≡ Some (codes "a", int 7)
variant_tag = refl

no_tag : tagged_in [] (int 7) ≡ None
no_tag = refl

-- ---- constants

null_constant : object_of constant.Null ≡ null_object
null_constant = refl

int_constant : object_of (constant.Int (negsuc 4)) ≡ below_zero 4
int_constant = refl

char_constant : object_of (constant.Char 97) ≡ char_object 97
char_constant = refl

string_constant : object_of (constant.Str (codes "ab")) ≡ string "ab"
string_constant = refl

-- ---- routines

substituted_module : routine_substituted for_int (module_routine (codes "p") (actual_type (parameter 1) no_actuals)) ≡ module_routine (codes "p") for_int
substituted_module = refl

substituted_operation : routine_substituted for_int (operation_of (array_of (parameter 1)) (codes "addh")) ≡ operation_of (array_of int_type) (codes "addh")
substituted_operation = refl

substituted_force : routine_substituted for_int (force_of (parameter 1)) ≡ force_of int_type
substituted_force = refl

operation_heading : heading_of (operation_of int_type (codes "add")) ≡ operation int_type (codes "add")
operation_heading = refl

heading_of_force : heading_of (force_of int_type) ≡ Some (force_heading int_type)
heading_of_force = refl

-- from_to is defined by a text
with_a_text : without_text (operation_of int_type (codes "from_to")) ≡ None
with_a_text = refl

module_text : without_text (module_routine (codes "p") no_actuals) ≡ None
module_text = refl
