-- The operations of arrays and sequences that texts define, in the order of their tables: the name of each and its count;
-- and what an operation counts, by the term of its type.
use Rattle.std.specs.Prelude.{ℕ, List, [], ◌∷◌, ◌++◌, Option, None, Some, codes}
use Rattle.clu_types.specs.declared.term.Term.{Term}
use Rattle.clu_types.specs.declared.term.Term.TheVariants as term
use Rattle.clu_rt_text.specs.Texts.{count_in, int_counts, string_counts}

abbrev pub array_iterator_counts : List (List ℕ × ℕ)
array_iterator_counts = (codes "elements", 36) ∷ (codes "indexes", 25) ∷ []

abbrev pub array_procedure_counts : List (List ℕ × ℕ)
array_procedure_counts = (codes "similar", 57) ∷ (codes "similar1", 57) ∷ (codes "copy", 40) ∷ []

abbrev pub array_counts : List (List ℕ × ℕ)
array_counts = array_iterator_counts ++ array_procedure_counts

abbrev pub sequence_iterator_counts : List (List ℕ × ℕ)
sequence_iterator_counts = (codes "elements", 19) ∷ (codes "indexes", 21) ∷ []

abbrev pub sequence_procedure_counts : List (List ℕ × ℕ)
sequence_procedure_counts = (codes "equal", 45) ∷ (codes "similar", 45) ∷ (codes "copy", 39) ∷ []

abbrev pub sequence_counts : List (List ℕ × ℕ)
sequence_counts = sequence_iterator_counts ++ sequence_procedure_counts

-- what the operation of this name counts, if a text defines it
abbrev pub text_count : Term → List ℕ → Option ℕ
text_count term.Int name = count_in int_counts name
text_count term.Str name = count_in string_counts name
text_count (term.Array of) name = count_in array_counts name
text_count (term.Sequence of) name = count_in sequence_counts name
text_count _ name = None

-- the same of a type that may be there
abbrev pub text_count_of : Option Term → List ℕ → Option ℕ
text_count_of (Some t) name = text_count t name
text_count_of None name = None
