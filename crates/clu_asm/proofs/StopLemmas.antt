-- Texts that no image's text goes on from.

use Rattle.std.proofs.Common.{◌≡◌, ◌≢◌, ◌↔◌, ◌⊎◌, ℕ, zero, suc, ◌+◌, ◌-◌, ◌*◌, ◌/◌, ◌%◌, ◌^◌, ◌<◌, ◌≤◌, Bool, IsTrue, List, [], ◌∷◌, ◌++◌, length, take, drop, codes, decimal, flat_map, get_or, None, refl, sym, ap, subst, ◌∙◌, arith, inl, inr, append_assoc, append-nil, length-append}
use Rattle.std.proofs.lemmas.Bool.{cases_lt}
use Rattle.std.proofs.lemmas.List.{take_all, nil_from_length}
use Rattle.hex.specs.Hex.{encode_lower}
use Rattle.rv_isa.specs.Image.{Contents, contents, IsImage, AreWords, AreBytes, max_words, max_bytes}
use Rattle.clu_asm.specs.AssemblyText.{line, code_text, code_line, entry_line, row_line, row_lines, some_row_lines, fixed_word, data_word, asm_text}
use Rattle.clu_asm.specs.Places.{place, before, after, IsFree, IsFront}
use Rattle.clu_asm.specs.Candidates.{guessed}
use Rattle.clu_asm.specs.Lines.{NoCode, NoRow}
use Rattle.clu_asm.specs.Faults.{GoesOn, AreLines, first_line, IsBadLineAt, IsFaultAt}
use Rattle.clu_asm.specs.CutLines.{CodeBegins, DigitsBegin, LineBegins}
use Rattle.clu_asm.proofs.PlaceLemmas.{place_splits, before_free, place_after, free_append}
use Rattle.clu_asm.proofs.RowLemmas.{first_of, none_of}
use Rattle.clu_asm.proofs.LineLemmas.{line_is, cancel, no_line, code_free, row_free, fixed_free, data_free}
use Rattle.clu_asm.proofs.FrontLemmas.{front_all, front_split}
use Rattle.clu_asm.proofs.DigitLemmas.{row_digits}
use Rattle.clu_asm.proofs.Unique.{Read, image_same, rows_no_code, data_first, fixed_unread, data_unread, bytes_take, eights}
use Rattle.clu_asm.proofs.ImageLemmas.{text_of, AreParts, behind_four}

-- ---- a cut line

-- a text that begins as a line does, without a byte 10, begins as the line's text
pub free_front : (cut t y : List ℕ) → IsFree 10 cut → IsFree 10 t → IsFront cut (line t ++ y) → IsFront cut t
free_front cut t y f g x = elim (front_split cut t (10 ∷ y) (x.0, sym (line_is t y) ∙ x.1)) [
  | inl h ↦ h
  | inr h ↦ past h.0 h.1 h.2
]
  where
    past : (left : List ℕ) → cut ≡ t ++ left → IsFront left (10 ∷ y) → IsFront cut t
    past [] e h = subst (λ (s : List ℕ). IsFront s t) (sym (e ∙ append-nil t)) (front_all t)
    past (b ∷ left) e h =
        let ten : b ≡ 10 = sym (cc (h.1)) in
        let whole : cut ≡ line t ++ left = e ∙ ap (λ (c : ℕ). t ++ c ∷ left) ten ∙ sym (line_is t left) in
        absurd (no_line cut t left f g whole)

pub cut_no_code : (cut more : List ℕ) → IsFree 10 cut → (CodeBegins cut → ⊥) → NoCode (cut ++ more)
unfolding CodeBegins
cut_no_code cut more f none w y lt e = none (w, lt, free_front cut (code_text w) y f (code_free w lt) (more, sym e))

pub cut_no_row : (word cut more : List ℕ) → IsFree 10 word → IsFree 10 cut → (DigitsBegin word 16 cut → ⊥) → NoRow word (cut ++ more)
cut_no_row word cut more g f none row y eight are e =
    none (row_digits word cut row eight are (free_front cut (word ++ encode_lower row) y f (row_free word row g are) (more, sym e)))

-- ---- a whole line

pub line_no_code : (t x y : List ℕ) → IsFree 10 t → NoCode (line t ++ x) → NoCode (line t ++ y)
line_no_code t x y f none w z lt e =
    let same = cancel t (code_text w) y z f (code_free w lt) e in
    none w x lt (ap (λ (s : List ℕ). line s ++ x) same.0)

pub line_no_row : (word t x y : List ℕ) → IsFree 10 word → IsFree 10 t → NoRow word (line t ++ x) → NoRow word (line t ++ y)
line_no_row word t x y g f none row z eight are e =
    let same = cancel t (word ++ encode_lower row) y z f (row_free word row g are) e in
    none row x eight are (ap (λ (s : List ℕ). line s ++ x) same.0)

-- ---- what stands after lines that were read

-- after rows comes no code
rows_end_code : (n : ℕ) (word : List ℕ) (b : ℕ) (more : List ℕ) → word ≡ b ∷ more → b ≢ 119 → IsFree 10 word → ((digits : List ℕ) → guessed (word ++ digits) ≡ None)
    → (xs y : List ℕ) → length xs ≡ 8 * suc n → AreBytes xs → NoCode (some_row_lines (suc n) word xs ++ y)
rows_end_code n word b more begins other f unread xs y e are =
    let long : 8 ≤ length xs = omega (arith, e) in
    rw (first_of n word xs, append_assoc)
    (rows_no_code word b more begins other f unread (take 8 xs) (some_row_lines n word (drop 8 xs) ++ y) (bytes_take xs long are))

fixed_end_code : (n : ℕ) (xs y : List ℕ) → length xs ≡ 8 * suc n → AreBytes xs → NoCode (some_row_lines (suc n) fixed_word xs ++ y)
fixed_end_code n xs y e are = rows_end_code n fixed_word 102 (codes "ixed ") refl (λ h. absurd (omega (arith, h))) fixed_free fixed_unread xs y e are

data_end_code : (n : ℕ) (xs y : List ℕ) → length xs ≡ 8 * suc n → AreBytes xs → NoCode (some_row_lines (suc n) data_word xs ++ y)
data_end_code n xs y e are = rows_end_code n data_word 100 (codes "ata ") refl (λ h. absurd (omega (arith, h))) data_free data_unread xs y e are

-- after the code
code_end : (n k : ℕ) (fixed area x : List ℕ) (S : Type 0) → length fixed ≡ 8 * n → length area ≡ 8 * k → AreBytes fixed → AreBytes area → (fixed ≡ [] → area ≡ [] → S ⊎ NoCode x)
    → S ⊎ NoCode (some_row_lines n fixed_word fixed ++ (some_row_lines k data_word area ++ x))
code_end zero zero fixed area x S e g are of h =
    subst (λ (t : List ℕ). S ⊎ NoCode t) (sym (ap (λ (l : List ℕ). l ++ (some_row_lines 0 data_word area ++ x)) (none_of fixed_word fixed) ∙ ap (λ (l : List ℕ). l ++ x) (none_of data_word area)))
    (h (nil_from_length fixed (omega (arith, e))) (nil_from_length area (omega (arith, g))))
code_end zero (suc k) fixed area x S e g are of h =
    inr (subst NoCode (sym (ap (λ (l : List ℕ). l ++ (some_row_lines (suc k) data_word area ++ x)) (none_of fixed_word fixed))) (data_end_code k area x g of))
code_end (suc n) k fixed area x S e g are of h = inr (fixed_end_code n fixed (some_row_lines k data_word area ++ x) e are)

-- after the fixed part
data_no_fixed : (n : ℕ) (xs y : List ℕ) → NoRow fixed_word (some_row_lines (suc n) data_word xs ++ y)
data_no_fixed n xs y row z eight are e =
    let h : ◌≡◌ {A = ℕ} 100 102 = ap (λ (l : List ℕ). get_or l 0 0) (sym (ap (λ (l : List ℕ). l ++ y) (first_of n data_word xs)) ∙ e) in
    absurd (omega (arith, h))

fixed_end : (k : ℕ) (area x : List ℕ) (S : Type 0) → length area ≡ 8 * k → (area ≡ [] → S ⊎ NoRow fixed_word x) → S ⊎ NoRow fixed_word (some_row_lines k data_word area ++ x)
fixed_end zero area x S g h =
    subst (λ (t : List ℕ). S ⊎ NoRow fixed_word t) (sym (ap (λ (l : List ℕ). l ++ x) (none_of data_word area))) (h (nil_from_length area (omega (arith, g))))
fixed_end (suc k) area x S g h = inr (data_no_fixed k area x)

-- ---- no image's text goes on so

-- nothing can stand after these parts but what can come next
pub stuck : (entry : ℕ) (code fixed area : List ℕ) (room : ℕ) (x : List ℕ) → AreParts entry code fixed area room → (entry < length code → room ≡ max_bytes)
    → (fixed ≡ [] → area ≡ [] → (length code ≡ max_words) ⊎ NoCode x)
    → (area ≡ [] → (room < length fixed + 8) ⊎ NoRow fixed_word x)
    → (room - length fixed < length area + 8) ⊎ NoRow data_word x
    → (i : Contents) → IsImage i → text_of entry code fixed area ++ x ≡ asm_text i → x ≡ []
stuck entry code fixed area room x p room_is code_stops fixed_stops area_stops i is e =
    let after_fixed = row_lines data_word area ++ x in
    let after_code = row_lines fixed_word fixed ++ after_fixed in
    let b = flat_map code_line code ++ after_code in
    let read : Read entry code fixed area b room x = record {
      small = p.small;
      words = p.words;
      fixed_bytes = p.fixed_bytes;
      area_bytes = p.area_bytes;
      after_code = after_code;
      after_fixed = after_fixed;
      code_lines = refl;
      code_stops = code_end (length fixed / 8) (length area / 8) fixed area x (length code ≡ max_words) (eights fixed p.fixed_whole) (eights area p.area_whole) p.fixed_bytes p.area_bytes code_stops;
      room_is = room_is;
      fixed_lines = refl;
      fixed_whole = p.fixed_whole;
      fixed_stops = fixed_end (length area / 8) area x (room < length fixed + 8) (eights area p.area_whole) fixed_stops;
      area_lines = refl;
      area_whole = p.area_whole;
      area_stops = area_stops;
    } in
    let whole : entry_line entry ++ b ≡ text_of entry code fixed area ++ x =
    behind_four (entry_line entry) (flat_map code_line code) (row_lines fixed_word fixed) (row_lines data_word area) x in
    (image_same entry code fixed area b room x i read is (whole ∙ e)).1
