-- The source that `gen` writes.
use Rattle.std.specs.Prelude.{ℕ, zero, suc, List, [], ◌∷◌, ◌++◌, codes, decimal}
use Rattle.clu_driver.specs.declared.generating.Piece.{Piece}
use Rattle.clu_driver.specs.declared.generating.Piece.TheVariants as piece

-- the parts of the source between its numbers
unfoldable pub piece_text : Piece → List ℕ
piece_text piece.Name = codes "m"
piece_text piece.Heading = codes " = proc (x: int) returns (int)\nfor i: int in int$from_to(1, "
piece_text piece.Body = codes ") do\nx := (x * 31 + i) // 1000000\nend\nreturn (x)\nend m"
piece_text piece.Start = codes "start_up = proc ()\nx: int := 1\n"
piece_text piece.Call = codes "x := m"
piece_text piece.End = codes "stream$putl(stream$primary_output(), int$unparse(x))\nend start_up\n"

-- the rest of procedure number k after its heading
abbrev pub end_text : ℕ → List ℕ
end_text k = (piece_text piece.Body ++ decimal k) ++ 10 ∷ []

-- procedure number k
abbrev pub procedure_text : ℕ → List ℕ
procedure_text k = (piece_text piece.Name ++ decimal k) ++ ((piece_text piece.Heading ++ decimal k) ++ end_text k)

-- its call
abbrev pub call_text : ℕ → List ℕ
call_text k = (piece_text piece.Call ++ decimal k) ++ codes "(x)\n"

-- the texts of 1 to n, one after the other
unfoldable pub repeated : (ℕ → List ℕ) → ℕ → List ℕ
repeated text zero = []
repeated text (suc n) = repeated text n ++ text (suc n)

abbrev pub generated_text : ℕ → List ℕ
generated_text n = repeated procedure_text n ++ (piece_text piece.Start ++ (repeated call_text n ++ piece_text piece.End))
