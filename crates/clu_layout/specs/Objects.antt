-- Objects, each of which knows its own type, and the cells of mutable objects.
use Rattle.std.specs.Prelude.{ℕ, ℤ, Bool, List, [], ◌∷◌}
use Rattle.clu_base.specs.declared.constants.Const.{Const}
use Rattle.clu_base.specs.declared.constants.Const.TheVariants as constant
use Rattle.clu_types.specs.CluType.{CluType, null_type, bool_type, int_type, char_type, string_type, stream_type, array_of, sequence_of, record_of, struct_of, oneof_of, variant_of, cluster_of, CluTypes, no_types, type_and, Fields, Actuals}
use Rattle.clu_types.specs.Substituted.{substituted, actuals_substituted}

-- the two streams
pub data Stream : Type 0 where
  input_stream output_stream : Stream

-- what a routine object stands for: the instance of a module's routine, by name and actuals; the operation of this name
-- of a type, primitive, defined by a text or of a cluster instance; force of a type
pub data Routine : Type 0 where
  module_routine : List ℕ → Actuals → Routine
  operation_of : CluType → List ℕ → Routine
  force_of : CluType → Routine

-- the routine with actuals put in for the parameters of the module that names it
abbrev pub routine_substituted : Actuals → Routine → Routine
routine_substituted given (module_routine name actuals) = module_routine name (actuals_substituted given actuals)
routine_substituted given (operation_of t op) = operation_of (substituted given t) op
routine_substituted given (force_of t) = force_of (substituted given t)

mutual
  -- A sequence has the type of its elements, a struct and a oneof have their selectors and tags with types, and a
  -- struct's components stand in this order. A routine has its heading as a type. A reference has the type of the
  -- mutable object in its cell. An object sealed by a cluster instance is of this instance's type.
  pub data Object : Type 0 where
    null_object : Object
    bool_object : Bool → Object
    int_object : ℤ → Object
    char_object : ℕ → Object
    string_object : List ℕ → Object
    stream_object : Stream → Object
    sequence_object : CluType → Objects → Object
    struct_object : Fields → Objects → Object
    oneof_object : Fields → List ℕ → Object → Object
    routine_object : Routine → CluType → Object
    reference : CluType → ℕ → Object
    sealed : List ℕ → Actuals → Object → Object

  -- the elements or components inside an object
  pub data Objects : Type 0 where
    no_objects : Objects
    object_and : Object → Objects → Objects

-- the same objects as a list, and back
abbrev pub listed : Objects → List Object
listed no_objects = []
listed (object_and o os) = o ∷ listed os

abbrev pub inside : List Object → Objects
inside [] = no_objects
inside (o ∷ os) = object_and o (inside os)

-- the object that a constant denotes
abbrev pub object_of : Const → Object
object_of constant.Null = null_object
object_of (constant.Bool b) = bool_object b
object_of (constant.Int n) = int_object n
object_of (constant.Char c) = char_object c
object_of (constant.Str bytes) = string_object bytes

-- an array's state: the type of its elements, its low bound, its elements, and for how many elements it has room
pub record Array : Type 0 where
  pub element : CluType
  pub low : ℤ
  pub items : List Object
  pub room : ℕ

-- a mutable object: an array; a record with its components in the order of its selectors; a variant with tag and value
pub data Cell : Type 0 where
  array_cell : Array → Cell
  record_cell : Fields → List Object → Cell
  variant_cell : Fields → List ℕ → Object → Cell

-- the type of the mutable object in a cell, which never changes
abbrev pub cell_type : Cell → CluType
cell_type (array_cell a) = array_of a.element
cell_type (record_cell fs os) = record_of fs
cell_type (variant_cell fs tag o) = variant_of fs

-- an object's own type
abbrev pub own_type : Object → CluType
own_type null_object = null_type
own_type (bool_object b) = bool_type
own_type (int_object n) = int_type
own_type (char_object c) = char_type
own_type (string_object bytes) = string_type
own_type (stream_object s) = stream_type
own_type (sequence_object t os) = sequence_of t
own_type (struct_object fs os) = struct_of fs
own_type (oneof_object fs tag o) = oneof_of fs
own_type (routine_object r heading) = heading
own_type (reference t cell) = t
own_type (sealed cluster actuals o) = cluster_of cluster actuals

abbrev pub own_types : List Object → CluTypes
own_types [] = no_types
own_types (o ∷ os) = type_and (own_type o) (own_types os)
