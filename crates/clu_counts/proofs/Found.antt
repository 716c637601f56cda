-- The tables of code have the names and the counts of the texts, in order; so what is found in one is found in the other.
use Rattle.std.proofs.Common.{◌≡◌, refl, subst}
use Rattle.std.specs.Prelude.{ℕ, Bool, true, false, List, [], ◌∷◌, map, Option, None, Some, cond, bytes_eq}
use Rattle.std.specs.Option.{option_map}
use Rattle.clu_types.specs.CluType.{CluType}
use Rattle.clu_types.specs.declared.term.Term.{Term}
use Rattle.clu_types.specs.declared.term.Term.TheVariants as term
use Rattle.clu_types.specs.Arena.{type_of}
use Rattle.clu_syntax.specs.Syntax.{Routine}
use Rattle.clu_rt_text.specs.Texts.{count_in, int_counts, string_counts}
use Rattle.clu_rt_data.specs.Texts.{array_counts, sequence_counts, text_count}
use Rattle.clu_meaning.specs.Counting.{routine_count}
use Rattle.clu_meaning.specs.Texts.{int_texts, string_texts, array_texts, sequence_texts, texts_of, text_named}

-- each text's name, and what it counts
abbrev counts : List Routine → List (List ℕ × ℕ)
counts texts = map (λ r. (r.name, routine_count r)) texts

chosen : (b : Bool) (r : Routine) (n : Option ℕ) (found : Option Routine) → n ≡ option_map routine_count found →
    cond b (Some (routine_count r)) n ≡ option_map routine_count (cond b (Some r) found)
chosen true r n found e = refl
chosen false r n found e = e

found : (texts : List Routine) (op : List ℕ) → count_in (counts texts) op ≡ option_map routine_count (text_named texts op)
found [] op = refl
found (r ∷ rs) op = chosen (bytes_eq r.name op) r (count_in (counts rs) op) (text_named rs op) (found rs op)

ints : counts int_texts ≡ int_counts
ints = refl

strings : counts string_texts ≡ string_counts
strings = refl

arrays : counts array_texts ≡ array_counts
arrays = refl

sequences : counts sequence_texts ≡ sequence_counts
sequences = refl

in_table : (texts : List Routine) (table : List (List ℕ × ℕ)) (op : List ℕ) → counts texts ≡ table → count_in table op ≡ option_map routine_count (text_named texts op)
in_table texts table op e = subst (λ entries. count_in entries op ≡ option_map routine_count (text_named texts op)) e (found texts op)

pub same_texts : (types : List CluType) (t : Term) (op : List ℕ) → text_count t op ≡ option_map routine_count (text_named (texts_of (type_of types t)) op)
same_texts types term.Int op = in_table int_texts int_counts op ints
same_texts types term.Str op = in_table string_texts string_counts op strings
same_texts types (term.Array of) op = in_table array_texts array_counts op arrays
same_texts types (term.Sequence of) op = in_table sequence_texts sequence_counts op sequences
same_texts types _ op = refl
