-- The code of the operations that are told by their words alone: of null, bool, streams and routines, copies of what never
-- changes, and whether mutable objects are the same.
use Rattle.std.specs.Prelude.{List, [], ◌∷◌, codes}
use Rattle.clu_wir.specs.declared.expression.WOp.TheVariants as op
use Rattle.clu_wir.specs.Plain.{Expr, slot, word, binary}
use Rattle.laws_operations.specs.Rows.{Row, row}

-- both words are equal
abbrev pub equal_code : Expr
equal_code = binary op.Equal (slot 0) (slot 1)

-- the object itself
abbrev pub copy_code : Expr
copy_code = slot 0

abbrev pub equal_similar_copy : List Row
equal_similar_copy = row (codes "equal") equal_code ∷ row (codes "similar") equal_code ∷ row (codes "copy") copy_code ∷ []

-- null, proctypes and itertypes
abbrev pub plain_rows : List Row
plain_rows = equal_similar_copy

abbrev pub bool_rows : List Row
bool_rows =
    row (codes "and") (binary op.And (slot 0) (slot 1)) ∷
    row (codes "or") (binary op.Or (slot 0) (slot 1)) ∷
    row (codes "not") (binary op.Xor (slot 0) (word 1)) ∷
    equal_similar_copy

-- of string, whose other operations look into the words of one
abbrev pub string_rows : List Row
string_rows = row (codes "copy") copy_code ∷ []

abbrev pub stream_rows : List Row
stream_rows = row (codes "primary_input") (word 0) ∷ row (codes "primary_output") (word 1) ∷ row (codes "equal") equal_code ∷ []

-- of arrays, records and variants
abbrev pub same_object_rows : List Row
same_object_rows = row (codes "equal") equal_code ∷ []
