-- Texts that go on to the text of an image.

use Rattle.std.proofs.Common.{◌≡◌, ◌⊎◌, ℕ, zero, suc, ◌+◌, ◌-◌, ◌*◌, ◌/◌, ◌%◌, ◌^◌, ◌<◌, ◌≤◌, List, [], ◌∷◌, ◌++◌, length, replicate, take, drop, codes, decimal, All, flat_map, refl, sym, ap, subst, ◌∙◌, arith, inl, inr, append_assoc, append-nil, length-append}
use Rattle.std.proofs.lemmas.Bool.{cases_lt}
use Rattle.std.proofs.lemmas.List.{length-replicate, nil_from_length, append_cancel_left}
use Rattle.std.proofs.lemmas.List.Elements.{All-nil, All-append, All-replicate, All-push}
use Rattle.std.proofs.lemmas.List.Concat.{flat_map-append}
use Rattle.hex.specs.Hex.{encode_lower}
use Rattle.rv_isa.specs.Image.{Contents, contents, IsImage, AreWords, AreBytes, max_words, max_bytes}
use Rattle.clu_asm.specs.AssemblyText.{line, code_text, code_line, entry_line, row_line, row_lines, some_row_lines, fixed_word, data_word, asm_text}
use Rattle.clu_asm.specs.Places.{IsFront}
use Rattle.clu_asm.specs.Faults.{GoesOn, AreLines}
use Rattle.clu_asm.specs.CutLines.{EntryBegins, CodeBegins, DigitsBegin}
use Rattle.clu_asm.proofs.RowLemmas.{rows_none, rows_last}
use Rattle.clu_asm.proofs.FrontLemmas.{front_all, front_nil, front_more, front_of, front_past, front_behind}
use Rattle.clu_asm.proofs.DigitLemmas.{digits_row}
use Rattle.clu_asm.proofs.Unique.{regroup_text}

-- the lines of these parts
abbrev pub text_of : ℕ → List ℕ → List ℕ → List ℕ → List ℕ
text_of entry code fixed area = entry_line entry ++ (flat_map code_line code ++ (row_lines fixed_word fixed ++ row_lines data_word area))

-- parts as they are read, with so much room for the fixed part and the data together
pub record AreParts (entry : ℕ) (code fixed area : List ℕ) (room : ℕ) : Type 0 where
  pub small : entry < max_words
  pub words : AreWords code
  pub few : length code ≤ max_words
  pub fixed_bytes : AreBytes fixed
  pub area_bytes : AreBytes area
  pub fixed_whole : length fixed % 8 ≡ 0
  pub area_whole : length area % 8 ≡ 0
  pub within : length fixed + length area ≤ room
  pub bound : room ≤ max_bytes
  pub entered : 0 < room → entry < length code

pub behind_three : (a b c x : List ℕ) → a ++ (b ++ (c ++ x)) ≡ (a ++ (b ++ c)) ++ x
behind_three a b c x = simp append_assoc

pub behind_four : (a b c d x : List ℕ) → a ++ (b ++ (c ++ (d ++ x))) ≡ (a ++ (b ++ (c ++ d))) ++ x
behind_four a b c d x = simp append_assoc

pub goes_on_front : (cut text : List ℕ) → IsFront cut text → GoesOn text → GoesOn cut
goes_on_front cut text f g = (g.0, g.1, front_of cut text (asm_text g.0) f g.2)

goes_on_same : (s t : List ℕ) → s ≡ t → GoesOn t → GoesOn s
goes_on_same s t e g = subst GoesOn (sym e) g

image_goes_on : (entry : ℕ) (code fixed area : List ℕ) → IsImage (contents entry code fixed area) → GoesOn (text_of entry code fixed area)
image_goes_on entry code fixed area is =
    let same = regroup_text (entry_line entry) (flat_map code_line code) (row_lines fixed_word fixed) (row_lines data_word area) in
    (contents entry code fixed area, is, ([], same ∙ sym (append-nil (text_of entry code fixed area))))

zero_words : (n : ℕ) → AreWords (replicate n 0)
zero_words n = All-replicate (λ k. k < 2 ^ 32) n 0 (omega arith)

pub no_rows : (word : List ℕ) → row_lines word [] ≡ []
no_rows word = rows_none word [] (omega arith)

-- code that ends before the entry goes on with more words
code_goes_on : (entry : ℕ) (code : List ℕ) → entry < max_words → AreWords code → length code ≤ entry → GoesOn (text_of entry code [] [])
code_goes_on entry code small words short =
    let n = suc entry - length code in
    let more = code ++ replicate n 0 in
    let long : length more ≡ suc entry = omega (arith, length-append code (replicate n 0), length-replicate {A = ℕ} n 0, short) in
    let is : IsImage (contents entry more [] []) = record {
      entry = omega (arith, long);
      code = omega (arith, long, small);
      fixed = refl;
      area = refl;
      room = omega arith;
      code_words = All-append (λ k. k < 2 ^ 32) code (replicate n 0) words (zero_words n);
      fixed_bytes = All-nil (λ k. k < 2 ^ 8);
      area_bytes = All-nil (λ k. k < 2 ^ 8);
    } in
    let lines : flat_map code_line more ≡ flat_map code_line code ++ flat_map code_line (replicate n 0) = flat_map-append code_line code (replicate n 0) in
    goes_on_front (text_of entry code [] []) (text_of entry more [] []) (
      flat_map code_line (replicate n 0),
      rw (no_rows fixed_word, no_rows data_word, append-nil (flat_map code_line more), append-nil (flat_map code_line code), lines)
          (sym (append_assoc (entry_line entry) (flat_map code_line code) (flat_map code_line (replicate n 0)))),
    ) (image_goes_on entry more [] [] is)

-- parts that were read go on to an image
pub parts_go_on : (entry : ℕ) (code fixed area : List ℕ) (room : ℕ) → AreParts entry code fixed area room → GoesOn (text_of entry code fixed area)
parts_go_on entry code fixed area room p = elim (cases_lt entry (length code)) [
  | inl in_code ↦ image_goes_on entry code fixed area (record {
    entry = in_code;
    code = p.few;
    fixed = p.fixed_whole;
    area = p.area_whole;
    room = omega (arith, p.within, p.bound);
    code_words = p.words;
    fixed_bytes = p.fixed_bytes;
    area_bytes = p.area_bytes;
  })
  | inr short ↦ (let none : room ≡ 0 = no_room room p.entered short in
      let no_fixed : fixed ≡ [] = nil_from_length fixed (omega (arith, p.within, none)) in
      let no_area : area ≡ [] = nil_from_length area (omega (arith, p.within, none)) in
      rw (no_fixed, no_area) (code_goes_on entry code p.small p.words short))
]
  where
    no_room : (n : ℕ) → (0 < n → entry < length code) → length code ≤ entry → n ≡ 0
    no_room zero h short = refl
    no_room (suc n) h short = let lt : entry < length code = h (omega arith) in absurd (omega (arith, lt, short))

-- ---- a cut line that can come next

push_code : (entry : ℕ) (code : List ℕ) (w : ℕ) → text_of entry (code ++ w ∷ []) [] [] ≡ text_of entry code [] [] ++ code_line w
push_code entry code w =
    let lines : flat_map code_line (code ++ w ∷ []) ≡ flat_map code_line code ++ code_line w =
    flat_map-append code_line code (w ∷ []) ∙ ap (λ (t : List ℕ). flat_map code_line code ++ t) (append-nil (code_line w)) in
    rw (no_rows fixed_word, no_rows data_word, append-nil (flat_map code_line (code ++ w ∷ [])), append-nil (flat_map code_line code), lines)
    (sym (append_assoc (entry_line entry) (flat_map code_line code) (code_line w)))

pub code_comes : (entry : ℕ) (code : List ℕ) (room : ℕ) (cut : List ℕ) → AreParts entry code [] [] room → length code < max_words → CodeBegins cut → GoesOn (text_of entry code [] [] ++ cut)
unfolding CodeBegins
code_comes entry code room cut p few b =
    let w = b.0 in
    let more = code ++ w ∷ [] in
    let long : length more ≡ suc (length code) = omega (arith, length-append code (w ∷ [])) in
    let words : AreWords more = All-push (λ k. k < 2 ^ 32) code w p.words b.1 in
    let goes : GoesOn (text_of entry more [] []) = parts_go_on entry more [] [] 0 (record {
      small = p.small;
      words = words;
      few = omega (arith, long, few);
      fixed_bytes = p.fixed_bytes;
      area_bytes = p.area_bytes;
      fixed_whole = refl;
      area_whole = refl;
      within = omega arith;
      bound = omega arith;
      entered = λ lt. absurd (omega (arith, lt));
    }) in
    let f : IsFront (text_of entry code [] [] ++ cut) (text_of entry code [] [] ++ code_line w) = front_behind (text_of entry code [] []) cut (code_line w) (front_more cut (code_text w) (10 ∷ []) b.2) in
    goes_on_front (text_of entry code [] [] ++ cut) (text_of entry code [] [] ++ code_line w) f (subst GoesOn (push_code entry code w) goes)

push_fixed : (entry : ℕ) (code fixed row : List ℕ) → length fixed % 8 ≡ 0 → length row ≡ 8 → text_of entry code (fixed ++ row) [] ≡ text_of entry code fixed [] ++ row_line fixed_word row
push_fixed entry code fixed row whole eight =
    rw (rows_last fixed_word fixed row whole eight, no_rows data_word, append-nil (row_lines fixed_word fixed ++ row_line fixed_word row), append-nil (row_lines fixed_word fixed))
    (behind_three (entry_line entry) (flat_map code_line code) (row_lines fixed_word fixed) (row_line fixed_word row))

push_area : (entry : ℕ) (code fixed area row : List ℕ) → length area % 8 ≡ 0 → length row ≡ 8 → text_of entry code fixed (area ++ row) ≡ text_of entry code fixed area ++ row_line data_word row
push_area entry code fixed area row whole eight = rw (rows_last data_word area row whole eight)
    (behind_four (entry_line entry) (flat_map code_line code) (row_lines fixed_word fixed) (row_lines data_word area) (row_line data_word row))

pub fixed_comes : (entry : ℕ) (code fixed : List ℕ) (room : ℕ) (cut : List ℕ) → AreParts entry code fixed [] room → length fixed + 8 ≤ room → DigitsBegin fixed_word 16 cut
    → GoesOn (text_of entry code fixed [] ++ cut)
fixed_comes entry code fixed room cut p few b =
    let row = digits_row fixed_word cut b in
    let long : length (fixed ++ row.0) ≡ length fixed + 8 = omega (arith, length-append fixed row.0, row.1) in
    let goes : GoesOn (text_of entry code (fixed ++ row.0) []) = parts_go_on entry code (fixed ++ row.0) [] room (record {
      small = p.small;
      words = p.words;
      few = p.few;
      fixed_bytes = All-append (λ k. k < 2 ^ 8) fixed row.0 p.fixed_bytes row.2;
      area_bytes = p.area_bytes;
      fixed_whole = omega (arith, long, p.fixed_whole);
      area_whole = refl;
      within = omega (arith, long, few);
      bound = p.bound;
      entered = p.entered;
    }) in
    let f : IsFront (text_of entry code fixed [] ++ cut) (text_of entry code fixed [] ++ row_line fixed_word row.0) =
    front_behind (text_of entry code fixed []) cut (row_line fixed_word row.0) (front_more cut (fixed_word ++ encode_lower row.0) (10 ∷ []) row.3) in
    goes_on_front (text_of entry code fixed [] ++ cut) (text_of entry code fixed [] ++ row_line fixed_word row.0) f (subst GoesOn (push_fixed entry code fixed row.0 p.fixed_whole row.1) goes)

pub area_comes : (entry : ℕ) (code fixed area : List ℕ) (room : ℕ) (cut : List ℕ) → AreParts entry code fixed area room → length fixed + length area + 8 ≤ room → DigitsBegin data_word 16 cut
    → GoesOn (text_of entry code fixed area ++ cut)
area_comes entry code fixed area room cut p few b =
    let row = digits_row data_word cut b in
    let long : length (area ++ row.0) ≡ length area + 8 = omega (arith, length-append area row.0, row.1) in
    let goes : GoesOn (text_of entry code fixed (area ++ row.0)) = parts_go_on entry code fixed (area ++ row.0) room (record {
      small = p.small;
      words = p.words;
      few = p.few;
      fixed_bytes = p.fixed_bytes;
      area_bytes = All-append (λ k. k < 2 ^ 8) area row.0 p.area_bytes row.2;
      fixed_whole = p.fixed_whole;
      area_whole = omega (arith, long, p.area_whole);
      within = omega (arith, long, few);
      bound = p.bound;
      entered = p.entered;
    }) in
    let f : IsFront (text_of entry code fixed area ++ cut) (text_of entry code fixed area ++ row_line data_word row.0) =
    front_behind (text_of entry code fixed area) cut (row_line data_word row.0) (front_more cut (data_word ++ encode_lower row.0) (10 ∷ []) row.3) in
    goes_on_front (text_of entry code fixed area ++ cut) (text_of entry code fixed area ++ row_line data_word row.0) f (subst GoesOn (push_area entry code fixed area row.0 p.area_whole row.1) goes)

-- the bytes that an entry's line goes on from
pub entry_goes_on : (cut : List ℕ) → EntryBegins cut → GoesOn cut
unfolding EntryBegins
entry_goes_on cut b =
    let goes : GoesOn (text_of b.0 [] [] []) = code_goes_on b.0 [] b.1 (All-nil (λ k. k < 2 ^ 32)) (omega arith) in
    let f : IsFront cut (entry_line b.0) = front_more cut (codes "entry " ++ decimal b.0) (10 ∷ []) b.2 in
    goes_on_front cut (text_of b.0 [] [] []) (front_more cut (entry_line b.0) _ f) goes
