-- Words are equal just where objects are, of types whose objects are told apart by their words.
use Rattle.std.proofs.Common.{◌≡◌, ℕ, true, sym, ap, ◌∙◌, arith, ℤ, pos, negsuc}
use Rattle.std.specs.Int.{cast_signed, cast_unsigned, w64}
use Rattle.std.proofs.lemmas.Int.{to_z-of_z}
use Rattle.clu_types.specs.CluType.{CluType}
use Rattle.clu_layout.specs.Places.{is_int}
use Rattle.clu_representation.specs.Layout.{IsReference, Layout, Owner, of_cell}
use Rattle.clu_representation.specs.Shown.{IsInt}

-- ---- words are equal just where objects are, for types whose objects are told apart by words

-- two references show the same word just where they are to the same cell
pub same_word_cell : (map : Layout) (s t : CluType) (c d w v : ℕ) → IsReference map s c w → IsReference map t d v → w ≡ v → c ≡ d
same_word_cell map s t c d w v q r e = number_in (sym q.whose ∙ ap map.owner e ∙ r.whose)
  where
    number : Owner → ℕ
    number (of_cell n) = n
    number _ = 0

    number_in : of_cell c ≡ of_cell d → c ≡ d
    number_in e = ap number e

pub same_cell_word : (map : Layout) (s t : CluType) (c d w v : ℕ) → IsReference map s c w → IsReference map t d v → c ≡ d → w ≡ v
same_cell_word map s t c d w v q r e = q.at ∙ ap map.address e ∙ sym r.at

-- ints
pub same_int : (m n : ℤ) (w v : ℕ) → IsInt m w → IsInt n v → w ≡ v → m ≡ n
same_int m n w v r s e = sym (fits m r.is_one) ∙ ap (cast_signed w64) (sym r.word_is ∙ e ∙ s.word_is) ∙ fits n s.is_one
  where
    fits : (z : ℤ) → is_int z ≡ true → cast_signed w64 (cast_unsigned w64 z) ≡ z
    fits (pos a) h = to_z-of_z w64 (pos a) (record { sfits = grind arith })
    fits (negsuc a) h = to_z-of_z w64 (negsuc a) (record { sfits = grind arith })

pub same_number : (m n : ℤ) (w v : ℕ) → IsInt m w → IsInt n v → m ≡ n → w ≡ v
same_number m n w v r s e = r.word_is ∙ ap (cast_unsigned w64) e ∙ sym s.word_is
