-- Samples of the operations of struct and record, with the selectors a of type int and b of type any.
use Rattle.std.specs.Prelude.{◌≡◌, refl, true, false, [], ◌∷◌, codes}
use Rattle.clu_types.specs.CluType.{CluType, int_type, any_type, record_of, struct_of, Fields, no_fields, field_and}
use Rattle.clu_layout.specs.Objects.{Object, bool_object, struct_object, inside, reference, Cell, record_cell}
use Rattle.clu_layout.specs.Actions.{wrong}
use Rattle.clu_layout.specs.Primitive.{prim}
use Rattle.clu_layout.specs.Computing.{computing}
use Rattle.clu_layout.proofs.Sampling.{one, two, int, string, nothing, Gives, Does}

abbrev fields : Fields
fields = field_and (codes "a") int_type (field_and (codes "b") any_type no_fields)

-- ---- struct

abbrev structs : CluType
structs = struct_of fields

abbrev struct : Object → Object → Object
struct a b = struct_object fields (inside (two a b))

struct_get : Gives structs "get_a" (one (struct (int 7) (string "x"))) (int 7) 0 1
unfolding computing
struct_get = refl

-- the result is bound to type any
struct_get_any : Gives structs "get_b" (one (struct (int 7) (string "x"))) (string "x") 2 3
unfolding computing
struct_get_any = refl

struct_replace : Gives structs "replace_a" (two (struct (int 7) (string "x")) (int 8)) (struct (int 8) (string "x")) 3 6
unfolding computing
struct_replace = refl

-- the argument is bound to type any
struct_replace_any : Gives structs "replace_b" (two (struct (int 7) (string "x")) (int 8)) (struct (int 7) (int 8)) 5 8
unfolding computing
struct_replace_any = refl

no_selector : prim structs (codes "get_c") (one (struct (int 7) (string "x"))) nothing ≡ wrong
unfolding computing
no_selector = refl

structs_are_not_set : prim structs (codes "set_a") (two (struct (int 7) (string "x")) (int 8)) nothing ≡ wrong
unfolding computing
structs_are_not_set = refl

-- ---- record

abbrev records : CluType
records = record_of fields

abbrev it : Object
it = reference records 0

abbrev cell : Object → Object → Cell
cell a b = record_cell fields (two a b)

record_get : Does (cell (int 7) (string "x")) records "get_a" (one it) (one (int 7)) (cell (int 7) (string "x") ∷ []) 0 1
unfolding computing
record_get = refl

record_get_any : Does (cell (int 7) (string "x")) records "get_b" (one it) (one (string "x")) (cell (int 7) (string "x") ∷ []) 2 3
unfolding computing
record_get_any = refl

record_set : Does (cell (int 7) (string "x")) records "set_a" (two it (int 8)) [] (cell (int 8) (string "x") ∷ []) 0 1
unfolding computing
record_set = refl

record_set_any : Does (cell (int 7) (string "x")) records "set_b" (two it (int 8)) [] (cell (int 7) (int 8) ∷ []) 2 3
unfolding computing
record_set_any = refl

record_equal : Does (cell (int 7) (string "x")) records "equal" (two it it) (one (bool_object true)) (cell (int 7) (string "x") ∷ []) 0 1
unfolding computing
record_equal = refl

record_differ : Does (cell (int 7) (string "x")) records "equal" (two it (reference records 1)) (one (bool_object false)) (cell (int 7) (string "x") ∷ []) 0 1
unfolding computing
record_differ = refl

record_copy1 : Does (cell (int 7) (string "x")) records "copy1" (one it) (one (reference records 1))
    (cell (int 7) (string "x") ∷ cell (int 7) (string "x") ∷ []) 3 6
unfolding computing
record_copy1 = refl
