-- The table of built-in operations: for each type its operations with arguments, results, signals in ascending
-- order, and needs. T is the type itself, t its element or component type, parts are the types of all components.
use Rattle.std.specs.Prelude.{ℕ, List, [], ◌∷◌, ◌++◌, Option, None, Some, if◌then◌else◌, codes}
use Rattle.std.specs.Str.{bytes_eq}
use Rattle.clu_types.specs.CluType.{CluType, null_type, bool_type, int_type, char_type, string_type, any_type, stream_type, array_of, sequence_of, record_of, struct_of, oneof_of, variant_of, proc_of, iter_of, cluster_of, parameter, CluTypes, no_types, type_and, Fields, no_fields, field_and}
use Rattle.clu_builtin.specs.Operation.{Operation, proc, iter, none, one, two, three, quiet, bad_format, bounds, end_of_file, illegal_char, negative_exponent, negative_size, not_possible, overflow, wrong_tag, zero_divide, needing_equal, needing_similar, needing_copy}

abbrev pub Table : Type 0
Table = List (List ℕ × Operation)

-- null, proctypes and itertypes
abbrev pub plain_operations : CluType → Table
plain_operations T =
    proc (codes "equal") (two T T) (one bool_type) quiet ∷
    proc (codes "similar") (two T T) (one bool_type) quiet ∷
    proc (codes "copy") (one T) (one T) quiet ∷
    []

abbrev pub bool_operations : Table
bool_operations =
    let T = bool_type in
    proc (codes "and") (two T T) (one T) quiet ∷
    proc (codes "or") (two T T) (one T) quiet ∷
    proc (codes "not") (one T) (one T) quiet ∷
    proc (codes "equal") (two T T) (one bool_type) quiet ∷
    proc (codes "similar") (two T T) (one bool_type) quiet ∷
    proc (codes "copy") (one T) (one T) quiet ∷
    []

abbrev pub int_operations : Table
int_operations =
    let T = int_type in
    proc (codes "add") (two T T) (one T) (overflow quiet) ∷
    proc (codes "sub") (two T T) (one T) (overflow quiet) ∷
    proc (codes "mul") (two T T) (one T) (overflow quiet) ∷
    proc (codes "minus") (one T) (one T) (overflow quiet) ∷
    proc (codes "div") (two T T) (one T) (overflow (zero_divide quiet)) ∷
    proc (codes "mod") (two T T) (one T) (zero_divide quiet) ∷
    proc (codes "power") (two T T) (one T) (negative_exponent (overflow quiet)) ∷
    proc (codes "lt") (two T T) (one bool_type) quiet ∷
    proc (codes "le") (two T T) (one bool_type) quiet ∷
    proc (codes "ge") (two T T) (one bool_type) quiet ∷
    proc (codes "gt") (two T T) (one bool_type) quiet ∷
    proc (codes "parse") (one string_type) (one T) (bad_format (overflow quiet)) ∷
    proc (codes "unparse") (one T) (one string_type) quiet ∷
    iter (codes "from_to") (two T T) (one T) quiet ∷
    iter (codes "from_to_by") (three T T T) (one T) quiet ∷
    proc (codes "equal") (two T T) (one bool_type) quiet ∷
    proc (codes "similar") (two T T) (one bool_type) quiet ∷
    proc (codes "copy") (one T) (one T) quiet ∷
    []

abbrev pub char_operations : Table
char_operations =
    let T = char_type in
    proc (codes "i2c") (one int_type) (one T) (illegal_char quiet) ∷
    proc (codes "c2i") (one T) (one int_type) quiet ∷
    proc (codes "lt") (two T T) (one bool_type) quiet ∷
    proc (codes "le") (two T T) (one bool_type) quiet ∷
    proc (codes "ge") (two T T) (one bool_type) quiet ∷
    proc (codes "gt") (two T T) (one bool_type) quiet ∷
    proc (codes "equal") (two T T) (one bool_type) quiet ∷
    proc (codes "similar") (two T T) (one bool_type) quiet ∷
    proc (codes "copy") (one T) (one T) quiet ∷
    []

abbrev pub string_operations : Table
string_operations =
    let T = string_type in
    proc (codes "size") (one T) (one int_type) quiet ∷
    proc (codes "empty") (one T) (one bool_type) quiet ∷
    proc (codes "lt") (two T T) (one bool_type) quiet ∷
    proc (codes "le") (two T T) (one bool_type) quiet ∷
    proc (codes "ge") (two T T) (one bool_type) quiet ∷
    proc (codes "gt") (two T T) (one bool_type) quiet ∷
    proc (codes "c2s") (one char_type) (one T) quiet ∷
    proc (codes "concat") (two T T) (one T) quiet ∷
    proc (codes "append") (two T char_type) (one T) quiet ∷
    proc (codes "fetch") (two T int_type) (one char_type) (bounds quiet) ∷
    proc (codes "rest") (two T int_type) (one T) (bounds quiet) ∷
    proc (codes "substr") (three T int_type int_type) (one T) (bounds (negative_size quiet)) ∷
    proc (codes "indexs") (two T T) (one int_type) quiet ∷
    proc (codes "indexc") (two char_type T) (one int_type) quiet ∷
    proc (codes "s2ac") (one T) (one (array_of char_type)) quiet ∷
    proc (codes "ac2s") (one (array_of char_type)) (one T) quiet ∷
    iter (codes "chars") (one T) (one char_type) quiet ∷
    proc (codes "equal") (two T T) (one bool_type) quiet ∷
    proc (codes "similar") (two T T) (one bool_type) quiet ∷
    proc (codes "copy") (one T) (one T) quiet ∷
    []

abbrev pub array_operations : CluType → Table
array_operations t =
    let T = array_of t in
    let parts = one t in
    proc (codes "create") (one int_type) (one T) quiet ∷
    proc (codes "new") none (one T) quiet ∷
    proc (codes "predict") (two int_type int_type) (one T) quiet ∷
    proc (codes "fill") (three int_type int_type t) (one T) (negative_size quiet) ∷
    proc (codes "size") (one T) (one int_type) quiet ∷
    proc (codes "low") (one T) (one int_type) quiet ∷
    proc (codes "high") (one T) (one int_type) quiet ∷
    proc (codes "empty") (one T) (one bool_type) quiet ∷
    proc (codes "set_low") (two T int_type) none quiet ∷
    proc (codes "fetch") (two T int_type) (one t) (bounds quiet) ∷
    proc (codes "store") (three T int_type t) none (bounds quiet) ∷
    proc (codes "bottom") (one T) (one t) (bounds quiet) ∷
    proc (codes "top") (one T) (one t) (bounds quiet) ∷
    proc (codes "addh") (two T t) none quiet ∷
    proc (codes "addl") (two T t) none quiet ∷
    proc (codes "remh") (one T) (one t) (bounds quiet) ∷
    proc (codes "reml") (one T) (one t) (bounds quiet) ∷
    proc (codes "trim") (three T int_type int_type) none (bounds (negative_size quiet)) ∷
    proc (codes "copy1") (one T) (one T) quiet ∷
    proc (codes "equal") (two T T) (one bool_type) quiet ∷
    needing_similar parts (proc (codes "similar") (two T T) (one bool_type) quiet) ∷
    needing_equal parts (proc (codes "similar1") (two T T) (one bool_type) quiet) ∷
    needing_copy parts (proc (codes "copy") (one T) (one T) quiet) ∷
    iter (codes "elements") (one T) (one t) quiet ∷
    iter (codes "indexes") (one T) (one int_type) quiet ∷
    []

abbrev pub sequence_operations : CluType → Table
sequence_operations t =
    let T = sequence_of t in
    let parts = one t in
    proc (codes "new") none (one T) quiet ∷
    proc (codes "e2s") (one t) (one T) quiet ∷
    proc (codes "fill") (two int_type t) (one T) (negative_size quiet) ∷
    proc (codes "size") (one T) (one int_type) quiet ∷
    proc (codes "empty") (one T) (one bool_type) quiet ∷
    proc (codes "fetch") (two T int_type) (one t) (bounds quiet) ∷
    proc (codes "bottom") (one T) (one t) (bounds quiet) ∷
    proc (codes "top") (one T) (one t) (bounds quiet) ∷
    proc (codes "replace") (three T int_type t) (one T) (bounds quiet) ∷
    proc (codes "addh") (two T t) (one T) quiet ∷
    proc (codes "addl") (two T t) (one T) quiet ∷
    proc (codes "remh") (one T) (one T) (bounds quiet) ∷
    proc (codes "reml") (one T) (one T) (bounds quiet) ∷
    proc (codes "concat") (two T T) (one T) quiet ∷
    proc (codes "subseq") (three T int_type int_type) (one T) (bounds (negative_size quiet)) ∷
    proc (codes "a2s") (one (array_of t)) (one T) quiet ∷
    proc (codes "s2a") (one T) (one (array_of t)) quiet ∷
    needing_equal parts (proc (codes "equal") (two T T) (one bool_type) quiet) ∷
    needing_similar parts (proc (codes "similar") (two T T) (one bool_type) quiet) ∷
    needing_copy parts (proc (codes "copy") (one T) (one T) quiet) ∷
    iter (codes "elements") (one T) (one t) quiet ∷
    iter (codes "indexes") (one T) (one int_type) quiet ∷
    []

abbrev pub stream_operations : Table
stream_operations =
    let T = stream_type in
    proc (codes "primary_input") none (one T) quiet ∷
    proc (codes "primary_output") none (one T) quiet ∷
    proc (codes "getc") (one T) (one char_type) (end_of_file (not_possible quiet)) ∷
    proc (codes "getl") (one T) (one string_type) (end_of_file (not_possible quiet)) ∷
    proc (codes "empty") (one T) (one bool_type) (not_possible quiet) ∷
    proc (codes "putc") (two T char_type) none (not_possible quiet) ∷
    proc (codes "puts") (two T string_type) none (not_possible quiet) ∷
    proc (codes "putl") (two T string_type) none (not_possible quiet) ∷
    proc (codes "equal") (two T T) (one bool_type) quiet ∷
    []

-- structs and oneofs
abbrev pub struct_operations : CluType → CluTypes → Table
struct_operations T parts =
    needing_equal parts (proc (codes "equal") (two T T) (one bool_type) quiet) ∷
    needing_similar parts (proc (codes "similar") (two T T) (one bool_type) quiet) ∷
    needing_copy parts (proc (codes "copy") (one T) (one T) quiet) ∷
    []

-- records and variants
abbrev pub record_operations : CluType → CluTypes → Table
record_operations T parts =
    proc (codes "equal") (two T T) (one bool_type) quiet ∷
    needing_similar parts (proc (codes "similar") (two T T) (one bool_type) quiet) ∷
    needing_equal parts (proc (codes "similar1") (two T T) (one bool_type) quiet) ∷
    needing_copy parts (proc (codes "copy") (one T) (one T) quiet) ∷
    proc (codes "copy1") (one T) (one T) quiet ∷
    []

-- operations whose names are these before the name of a selector of type t
abbrev pub SelectorTable : Type 0
SelectorTable = CluType → Table

abbrev pub struct_selectors : CluType → SelectorTable
struct_selectors T t =
    proc (codes "get_") (one T) (one t) quiet ∷
    proc (codes "replace_") (two T t) (one T) quiet ∷
    []

abbrev pub record_selectors : CluType → SelectorTable
record_selectors T t =
    proc (codes "get_") (one T) (one t) quiet ∷
    proc (codes "set_") (two T t) none quiet ∷
    []

abbrev pub oneof_selectors : CluType → SelectorTable
oneof_selectors T t =
    proc (codes "make_") (one t) (one T) quiet ∷
    proc (codes "is_") (one T) (one bool_type) quiet ∷
    proc (codes "value_") (one T) (one t) (wrong_tag quiet) ∷
    []

abbrev pub variant_selectors : CluType → SelectorTable
variant_selectors T t =
    proc (codes "make_") (one t) (one T) quiet ∷
    proc (codes "is_") (one T) (one bool_type) quiet ∷
    proc (codes "value_") (one T) (one t) (wrong_tag quiet) ∷
    proc (codes "change_") (two T t) none quiet ∷
    []

-- the operation of this name in a table
abbrev pub named : Table → List ℕ → Option Operation
named [] op = None
named ((name, operation) ∷ rest) op = if bytes_eq name op then Some operation else named rest op

-- the first of two answers that is there
abbrev pub or_else : Option Operation → Option Operation → Option Operation
or_else None other = other
or_else (Some operation) other = Some operation

-- the table with the name of a selector after each name
abbrev pub with_selector : List ℕ → Table → Table
with_selector selector [] = []
with_selector selector ((name, operation) ∷ rest) = (name ++ selector, operation) ∷ with_selector selector rest

-- the operation of this name among those of the selectors
abbrev pub of_selectors : SelectorTable → Fields → List ℕ → Option Operation
of_selectors table no_fields op = None
of_selectors table (field_and selector t rest) op = or_else (named (with_selector selector (table t)) op) (of_selectors table rest op)

-- the types of the components, in order
abbrev pub parts_of : Fields → CluTypes
parts_of no_fields = no_types
parts_of (field_and selector t rest) = type_and t (parts_of rest)

-- the built-in operation of this name that a type has
abbrev pub operation : CluType → List ℕ → Option Operation
operation null_type op = named (plain_operations null_type) op
operation bool_type op = named bool_operations op
operation int_type op = named int_operations op
operation char_type op = named char_operations op
operation string_type op = named string_operations op
operation any_type op = None
operation stream_type op = named stream_operations op
operation (array_of t) op = named (array_operations t) op
operation (sequence_of t) op = named (sequence_operations t) op
operation (record_of fs) op = or_else (of_selectors (record_selectors (record_of fs)) fs op) (named (record_operations (record_of fs) (parts_of fs)) op)
operation (struct_of fs) op = or_else (of_selectors (struct_selectors (struct_of fs)) fs op) (named (struct_operations (struct_of fs) (parts_of fs)) op)
operation (oneof_of fs) op = or_else (of_selectors (oneof_selectors (oneof_of fs)) fs op) (named (struct_operations (oneof_of fs) (parts_of fs)) op)
operation (variant_of fs) op = or_else (of_selectors (variant_selectors (variant_of fs)) fs op) (named (record_operations (variant_of fs) (parts_of fs)) op)
operation (proc_of args results signals) op = named (plain_operations (proc_of args results signals)) op
operation (iter_of args results signals) op = named (plain_operations (iter_of args results signals)) op
operation (cluster_of name given) op = None
operation (parameter n) op = None
