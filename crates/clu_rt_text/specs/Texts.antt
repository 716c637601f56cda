-- The operations of int and string that texts define, in the order of their tables: the name of each and its count.
use Rattle.std.specs.Prelude.{ℕ, List, [], ◌∷◌, map, Option, None, Some, if◌then◌else◌, bytes_eq, codes}
use Rattle.clu_rt_text.specs.declared.code.Derived.{Derived}

-- the names and the counts of a table
abbrev pub names_and_counts : List Derived → List (List ℕ × ℕ)
names_and_counts table = map (λ operation. (operation.name.now, operation.nodes)) table

-- what the first operation of this name counts, if there is one
abbrev pub count_in : List (List ℕ × ℕ) → List ℕ → Option ℕ
count_in [] name = None
count_in (entry ∷ rest) name = if bytes_eq entry.0 name then Some entry.1 else count_in rest name

abbrev pub int_counts : List (List ℕ × ℕ)
int_counts = (codes "from_to", 18) ∷ (codes "from_to_by", 41) ∷ []

abbrev pub string_counts : List (List ℕ × ℕ)
string_counts = (codes "chars", 21) ∷ []
