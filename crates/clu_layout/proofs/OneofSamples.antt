-- Samples of the operations of oneof and variant, with the tags a of type int and b of type any.
use Rattle.std.specs.Prelude.{◌≡◌, refl, true, false, [], ◌∷◌, codes}
use Rattle.clu_types.specs.CluType.{CluType, int_type, any_type, oneof_of, variant_of, Fields, no_fields, field_and}
use Rattle.clu_layout.specs.Objects.{Object, bool_object, oneof_object, reference, Cell, variant_cell}
use Rattle.clu_layout.specs.Actions.{wrong}
use Rattle.clu_layout.specs.Primitive.{prim}
use Rattle.clu_layout.specs.Computing.{computing}
use Rattle.clu_layout.proofs.Sampling.{one, two, int, string, nothing, Gives, Signals, Makes, Does, Refuses}

abbrev fields : Fields
fields = field_and (codes "a") int_type (field_and (codes "b") any_type no_fields)

-- ---- oneof

abbrev oneofs : CluType
oneofs = oneof_of fields

abbrev a7 : Object
a7 = oneof_object fields (codes "a") (int 7)

oneof_make : Gives oneofs "make_a" (one (int 7)) a7 2 3
unfolding computing
oneof_make = refl

oneof_make_any : Gives oneofs "make_b" (one (int 7)) (oneof_object fields (codes "b") (int 7)) 4 5
unfolding computing
oneof_make_any = refl

oneof_is : Gives oneofs "is_a" (one a7) (bool_object true) 0 1
unfolding computing
oneof_is = refl

oneof_is_not : Gives oneofs "is_b" (one a7) (bool_object false) 0 1
unfolding computing
oneof_is_not = refl

oneof_value : Gives oneofs "value_a" (one a7) (int 7) 0 1
unfolding computing
oneof_value = refl

oneof_value_any : Gives oneofs "value_b" (one (oneof_object fields (codes "b") (int 7))) (int 7) 2 3
unfolding computing
oneof_value_any = refl

oneof_wrong_tag : Signals oneofs "value_b" (one a7) "wrong_tag" 1
unfolding computing
oneof_wrong_tag = refl

other_value : prim oneofs (codes "make_a") (one (string "x")) nothing ≡ wrong
unfolding computing
other_value = refl

-- ---- variant

abbrev variants : CluType
variants = variant_of fields

abbrev it : Object
it = reference variants 0

abbrev cell : Cell
cell = variant_cell fields (codes "a") (int 7)

variant_make : Makes variants "make_a" (one (int 7)) variants cell 3 4
unfolding computing
variant_make = refl

variant_make_any : Makes variants "make_b" (one (int 7)) variants (variant_cell fields (codes "b") (int 7)) 5 6
unfolding computing
variant_make_any = refl

variant_is : Does cell variants "is_a" (one it) (one (bool_object true)) (cell ∷ []) 0 1
unfolding computing
variant_is = refl

variant_is_not : Does cell variants "is_b" (one it) (one (bool_object false)) (cell ∷ []) 0 1
unfolding computing
variant_is_not = refl

variant_value : Does cell variants "value_a" (one it) (one (int 7)) (cell ∷ []) 0 1
unfolding computing
variant_value = refl

variant_wrong_tag : Refuses cell variants "value_b" (one it) "wrong_tag" 1
unfolding computing
variant_wrong_tag = refl

variant_change : Does cell variants "change_b" (two it (string "x")) [] (variant_cell fields (codes "b") (string "x") ∷ []) 2 3
unfolding computing
variant_change = refl

variant_change_value : Does cell variants "change_a" (two it (int 8)) [] (variant_cell fields (codes "a") (int 8) ∷ []) 0 1
unfolding computing
variant_change_value = refl

variant_equal : Does cell variants "equal" (two it it) (one (bool_object true)) (cell ∷ []) 0 1
unfolding computing
variant_equal = refl

variant_differ : Does cell variants "equal" (two it (reference variants 1)) (one (bool_object false)) (cell ∷ []) 0 1
unfolding computing
variant_differ = refl

variant_copy1 : Does cell variants "copy1" (one it) (one (reference variants 1)) (cell ∷ cell ∷ []) 3 4
unfolding computing
variant_copy1 = refl
