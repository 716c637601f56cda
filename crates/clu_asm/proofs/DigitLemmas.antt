-- Hexadecimal digits: which texts are those of bytes, and of words that are no instruction.

use Rattle.std.proofs.Common.{◌≡◌, ℕ, zero, suc, ◌+◌, ◌-◌, ◌*◌, ◌/◌, ◌%◌, ◌^◌, ◌<◌, ◌≤◌, ◌≢◌, ◌↔◌, ◌⊎◌, ◌&&◌, ◌||◌, nat_le, Bool, true, false, IsTrue, List, [], ◌∷◌, ◌++◌, length, replicate, slice_index, get_or, All, codes, Option, Some, None, IfSome, refl, sym, ap, ◌∙◌, arith, inl, inr, append_assoc, length-append}
use Rattle.std.specs.List.{list_all}
use Rattle.std.specs.Int.{w32, to_be_bytes, from_be_bytes}
use Rattle.std.proofs.lemmas.Bool.{and_parts, leb-true, cases_lt}
use Rattle.std.proofs.lemmas.List.{length-replicate, get_or_at, nil_from_length, append_cancel_left}
use Rattle.std.proofs.lemmas.List.Folds.{list_all-append}
use Rattle.std.proofs.lemmas.List.Elements.{All-nil, All-cons, All-replicate}
use Rattle.std.proofs.lemmas.Nat.{be_bytes_4}
use Rattle.hex.specs.Hex.{IsBytes, encode_with, encode_lower, lower_digits, hex_digit_value}
use Rattle.hex.proofs.HexLemmas.{length-encode_with, IsDigits-lower_digits}
use Rattle.rv_isa.specs.Image.{AreBytes}
use Rattle.rv_isa.specs.Decoded.{decoded}
use Rattle.clu_asm.specs.Places.{IsFront}
use Rattle.clu_asm.specs.AssemblyText.{word_text}
use Rattle.clu_asm.specs.CutLines.{is_digit, are_digits, DigitsBegin, WordBegins}
use Rattle.clu_asm.proofs.HexTexts.{bytes_from, word_bytes}
use Rattle.clu_asm.proofs.WordLemmas.{zero_none}
use Rattle.clu_asm.proofs.FrontLemmas.{front_more, front_past, front_split, front_length, front_whole}

-- ---- digits

low_digit : (k : ℕ) → k < 10 → slice_index lower_digits k ≡ 48 + k
low_digit zero h = refl
low_digit (suc zero) h = refl
low_digit (suc (suc zero)) h = refl
low_digit (suc (suc (suc zero))) h = refl
low_digit (suc (suc (suc (suc zero)))) h = refl
low_digit (suc (suc (suc (suc (suc zero))))) h = refl
low_digit (suc (suc (suc (suc (suc (suc zero)))))) h = refl
low_digit (suc (suc (suc (suc (suc (suc (suc zero))))))) h = refl
low_digit (suc (suc (suc (suc (suc (suc (suc (suc zero)))))))) h = refl
low_digit (suc (suc (suc (suc (suc (suc (suc (suc (suc zero))))))))) h = refl
low_digit (suc (suc (suc (suc (suc (suc (suc (suc (suc (suc k)))))))))) h = absurd (omega (arith, h))

high_digit : (k : ℕ) → k < 6 → slice_index lower_digits (k + 10) ≡ 97 + k
high_digit zero h = refl
high_digit (suc zero) h = refl
high_digit (suc (suc zero)) h = refl
high_digit (suc (suc (suc zero))) h = refl
high_digit (suc (suc (suc (suc zero)))) h = refl
high_digit (suc (suc (suc (suc (suc zero))))) h = refl
high_digit (suc (suc (suc (suc (suc (suc k)))))) h = absurd (omega (arith, h))

two_ranges : (p q r s : Bool) → IsTrue (p && q || r && s) → ((p ≡ true) × (q ≡ true)) ⊎ ((r ≡ true) × (s ≡ true))
two_ranges true true r s h = inl (refl, refl)
two_ranges true false true true h = inr (refl, refl)
two_ranges true false true false h = absurd (cc (h))
two_ranges true false false s h = absurd (cc (h))
two_ranges false q true true h = inr (refl, refl)
two_ranges false q true false h = absurd (cc (h))
two_ranges false q false s h = absurd (cc (h))

-- a digit is that of a number below 16
digit_of : (b : ℕ) → IsTrue (is_digit b) → (k : ℕ) × (k < 16) × (slice_index lower_digits k ≡ b)
digit_of b h = elim (two_ranges (nat_le 48 b) (nat_le b 57) (nat_le 97 b) (nat_le b 102) h) [
  | inl r ↦
      let low : 48 ≤ b = leb-true 48 b r.0 in
      let high : b ≤ 57 = leb-true b 57 r.1 in
      (b - 48, omega (arith, low, high), low_digit (b - 48) (omega (arith, low, high)) ∙ omega (arith, low, high))
  | inr r ↦
      let low : 97 ≤ b = leb-true 97 b r.0 in
      let high : b ≤ 102 = leb-true b 102 r.1 in
      ((b - 97) + 10, omega (arith, low, high), high_digit (b - 97) (omega (arith, low, high)) ∙ omega (arith, low, high))
]

digit_is : (k : ℕ) → k < 16 → is_digit (slice_index lower_digits k) ≡ true
digit_is zero h = refl
digit_is (suc zero) h = refl
digit_is (suc (suc zero)) h = refl
digit_is (suc (suc (suc zero))) h = refl
digit_is (suc (suc (suc (suc zero)))) h = refl
digit_is (suc (suc (suc (suc (suc zero))))) h = refl
digit_is (suc (suc (suc (suc (suc (suc zero)))))) h = refl
digit_is (suc (suc (suc (suc (suc (suc (suc zero))))))) h = refl
digit_is (suc (suc (suc (suc (suc (suc (suc (suc zero)))))))) h = refl
digit_is (suc (suc (suc (suc (suc (suc (suc (suc (suc zero))))))))) h = refl
digit_is (suc (suc (suc (suc (suc (suc (suc (suc (suc (suc k)))))))))) h = letter_is k (omega (arith, h))
  where
    letter_is : (k : ℕ) → k < 6 → is_digit (slice_index lower_digits (suc (suc (suc (suc (suc (suc (suc (suc (suc (suc k))))))))))) ≡ true
    letter_is zero h = refl
    letter_is (suc zero) h = refl
    letter_is (suc (suc zero)) h = refl
    letter_is (suc (suc (suc zero))) h = refl
    letter_is (suc (suc (suc (suc zero)))) h = refl
    letter_is (suc (suc (suc (suc (suc zero))))) h = refl
    letter_is (suc (suc (suc (suc (suc (suc k)))))) h = absurd (omega (arith, h))

encode_nil : encode_lower [] ≡ []
unfolding encode_with
encode_nil = refl

encode_cons : (b : ℕ) (rest : List ℕ) → encode_lower (b ∷ rest) ≡ slice_index lower_digits (b / 16) ∷ slice_index lower_digits (b % 16) ∷ encode_lower rest
unfolding encode_with
encode_cons b rest = refl

both_true : (p q : Bool) → p ≡ true → q ≡ true → p && q ≡ true
both_true p q e f = rw (e, f) refl

-- the digits of bytes are digits
hex_digits : (bytes : List ℕ) → IsBytes bytes → are_digits (encode_lower bytes) ≡ true
hex_digits [] h = rw encode_nil refl
hex_digits (b ∷ rest) h =
    let fits : b < 256 = h 0 in
    let high = digit_is (b / 16) (omega (arith, fits)) in
    let low = digit_is (b % 16) (omega arith) in
    let others = hex_digits rest (λ i. h (suc i)) in
    rw (encode_cons b rest)
    (both_true (is_digit (slice_index lower_digits (b / 16))) (is_digit (slice_index lower_digits (b % 16)) && are_digits (encode_lower rest)) high
    (both_true (is_digit (slice_index lower_digits (b % 16))) (are_digits (encode_lower rest)) low others))

-- digits, two for each byte, are those of some bytes
pub digits_bytes : (n : ℕ) (ds : List ℕ) → length ds ≡ 2 * n → IsTrue (are_digits ds) → (bytes : List ℕ) × (length bytes ≡ n) × AreBytes bytes × (encode_lower bytes ≡ ds)
digits_bytes zero [] e h = ([], refl, All-nil (λ b. b < 2 ^ 8), encode_nil)
digits_bytes zero (a ∷ ds) e h = absurd (omega (arith, e))
digits_bytes (suc n) [] e h = absurd (omega (arith, e))
digits_bytes (suc n) (a ∷ []) e h = absurd (omega (arith, e))
digits_bytes (suc n) (a ∷ b ∷ ds) e h =
    let p = and_parts (is_digit a) (is_digit b && are_digits ds) h in
    let q = and_parts (is_digit b) (are_digits ds) p.1 in
    let x = digit_of a p.0 in
    let y = digit_of b q.0 in
    let rest = digits_bytes n ds (omega (arith, e)) q.1 in
    let high : (x.0 * 16 + y.0) / 16 ≡ x.0 = omega (arith, y.1) in
    let low : (x.0 * 16 + y.0) % 16 ≡ y.0 = omega (arith, y.1) in
    let first : slice_index lower_digits ((x.0 * 16 + y.0) / 16) ≡ a = ap (slice_index lower_digits) high ∙ x.2 in
    let second : slice_index lower_digits ((x.0 * 16 + y.0) % 16) ≡ b = ap (slice_index lower_digits) low ∙ y.2 in (
      (x.0 * 16 + y.0) ∷ rest.0,
      ap suc rest.1,
      All-cons (λ k. k < 2 ^ 8) (x.0 * 16 + y.0) rest.0 (omega (arith, x.1, y.1)) rest.2,
      encode_cons (x.0 * 16 + y.0) rest.0
          ∙ ap (λ (c : ℕ). c ∷ slice_index lower_digits ((x.0 * 16 + y.0) % 16) ∷ encode_lower rest.0) first
          ∙ ap (λ (c : ℕ). a ∷ c ∷ encode_lower rest.0) second
          ∙ ap (λ (l : List ℕ). a ∷ b ∷ l) rest.3,
    )

zeros : (m : ℕ) → are_digits (replicate m 48) ≡ true
zeros zero = refl
zeros (suc m) = zeros m

padded : (m : ℕ) (ds : List ℕ) → IsTrue (are_digits ds) → are_digits (ds ++ replicate m 48) ≡ true
padded m ds h = list_all-append is_digit ds (replicate m 48) ∙ both_true (are_digits ds) (are_digits (replicate m 48)) h (zeros m)

-- a front of digits is made of digits
front_digits : (cut text : List ℕ) → IsFront cut text → are_digits text ≡ true → IsTrue (are_digits cut)
front_digits cut text f h = (and_parts (are_digits cut) (are_digits f.0) (sym (list_all-append is_digit cut f.0) ∙ sym (ap are_digits f.1) ∙ h)).0

-- ---- a word, and then digits

-- after the whole word
pub row_past : (word : List ℕ) (count : ℕ) (cut digits : List ℕ) → cut ≡ word ++ digits → ((length digits ≤ count) × IsTrue (are_digits digits)) ↔ DigitsBegin word count cut
unfolding DigitsBegin
row_past word count cut digits e = (λ h. inr (digits, e, h.0, h.1), λ d. back d)
  where
    back : IsFront cut word ⊎ ((ds : List ℕ) × (cut ≡ word ++ ds) × (length ds ≤ count) × IsTrue (are_digits ds)) → (length digits ≤ count) × IsTrue (are_digits digits)
    back (inl f) =
        let short : length cut ≤ length word = front_length cut word f in
        let none : digits ≡ [] = nil_from_length digits (omega (arith, short, ap length e, length-append word digits)) in
        (omega (arith, ap length none), rw none refl)
    back (inr d) =
        let same : digits ≡ d.0 = append_cancel_left word digits d.0 (sym e ∙ d.1) in
        (omega (arith, ap length same, d.2), ap are_digits same ∙ d.3)

-- within the word
pub row_within : (word : List ℕ) (count : ℕ) (cut : List ℕ) → ((left : List ℕ) → cut ≢ word ++ left) → IsFront cut word ↔ DigitsBegin word count cut
unfolding DigitsBegin
row_within word count cut none = (λ f. inl f, λ d. back d)
  where
    back : IsFront cut word ⊎ ((ds : List ℕ) × (cut ≡ word ++ ds) × (length ds ≤ count) × IsTrue (are_digits ds)) → IsFront cut word
    back (inl f) = f
    back (inr d) = absurd (none d.0 d.1)

-- ---- rows

pub digits_row : (word cut : List ℕ) → DigitsBegin word 16 cut → (row : List ℕ) × (length row ≡ 8) × AreBytes row × IsFront cut (word ++ encode_lower row)
unfolding DigitsBegin
digits_row word cut (inl f) = (replicate 8 0, refl, All-replicate (λ b. b < 2 ^ 8) 8 0 (omega arith), front_more cut word (encode_lower (replicate 8 0)) f)
digits_row word cut (inr d) =
    let pad = replicate (16 - length d.0) 48 in
    let long : length (d.0 ++ pad) ≡ 16 = omega (arith, length-append d.0 pad, length-replicate {A = ℕ} (16 - length d.0) 48, d.2) in
    let found = digits_bytes 8 (d.0 ++ pad) long (padded (16 - length d.0) d.0 d.3) in
    (found.0, found.1, found.2, front_past cut word d.0 (encode_lower found.0) d.1 (pad, found.3))

pub row_digits : (word cut row : List ℕ) → length row ≡ 8 → AreBytes row → IsFront cut (word ++ encode_lower row) → DigitsBegin word 16 cut
unfolding DigitsBegin
row_digits word cut row eight are f = elim (front_split cut word (encode_lower row) f) [
  | inl g ↦ inl g
  | inr g ↦
      let long : length (encode_lower row) ≡ 2 * length row = length-encode_with lower_digits row in
      let few : length g.0 ≤ length (encode_lower row) = front_length g.0 (encode_lower row) g.2 in
      inr (g.0, g.1, omega (arith, long, few, eight), front_digits g.0 (encode_lower row) g.2 (hex_digits row (bytes_from row are)))
]

-- ---- words that are no instruction

digit_zero : (k : ℕ) → k < 16 → slice_index lower_digits k ≡ 48 → k ≡ 0
digit_zero k lt e =
    let one : hex_digit_value (slice_index lower_digits k) ≡ Some 0 = ap hex_digit_value e in
    let two : hex_digit_value (slice_index lower_digits k) ≡ Some k = IsDigits-lower_digits k lt in
    cc (one, two)

-- the last digit of four bytes
last_digit : (a b c d : ℕ) → get_or (encode_lower (a ∷ b ∷ c ∷ d ∷ [])) 7 0 ≡ slice_index lower_digits (d % 16)
unfolding encode_with
last_digit a b c d = refl

-- the word of four bytes
word_of : (a b c d : ℕ) → AreBytes (a ∷ b ∷ c ∷ d ∷ []) → (w : ℕ) × (w < 2 ^ 32) × (to_be_bytes w32 w ≡ a ∷ b ∷ c ∷ d ∷ []) × (w % 16 ≡ d % 16)
word_of a b c d h =
    let fa : a < 2 ^ 8 = h 0 0 (omega arith) in
    let fb : b < 2 ^ 8 = h 1 0 (omega arith) in
    let fc : c < 2 ^ 8 = h 2 0 (omega arith) in
    let fd : d < 2 ^ 8 = h 3 0 (omega arith) in
    let value : from_be_bytes w32 (a ∷ b ∷ c ∷ d ∷ []) ≡ a * 2 ^ 24 + b * 2 ^ 16 + c * 2 ^ 8 + d = omega arith in (
      from_be_bytes w32 (a ∷ b ∷ c ∷ d ∷ []),
      omega (arith, value, fa, fb, fc, fd),
      be_bytes_4 (a ∷ b ∷ c ∷ d ∷ []) (from_be_bytes w32 (a ∷ b ∷ c ∷ d ∷ [])) refl (bytes_from (a ∷ b ∷ c ∷ d ∷ []) h) refl,
      omega (arith, value),
    )

-- eight digits of which the last is 0 are those of a word that is no instruction
word_with : (bytes front : List ℕ) → length bytes ≡ 4 → AreBytes bytes → length front ≡ 7 → encode_lower bytes ≡ front ++ 48 ∷ [] → (w : ℕ) × (w < 2 ^ 32) × (decoded w ≡ None) × (encode_lower (to_be_bytes w32 w) ≡ encode_lower bytes)
word_with [] front e h l f = absurd (omega (arith, e))
word_with (a ∷ []) front e h l f = absurd (omega (arith, e))
word_with (a ∷ b ∷ []) front e h l f = absurd (omega (arith, e))
word_with (a ∷ b ∷ c ∷ []) front e h l f = absurd (omega (arith, e))
word_with (a ∷ b ∷ c ∷ d ∷ []) front e h l f =
    let w = word_of a b c d h in
    let last : slice_index lower_digits (d % 16) ≡ 48 = sym (last_digit a b c d) ∙ ap (λ (t : List ℕ). get_or t 7 0) f ∙ get_or_at front 48 [] 0 7 l in
    let none : d % 16 ≡ 0 = digit_zero (d % 16) (omega arith) last in
    (w.0, w.1, zero_none w.0 w.1 (w.3 ∙ none), ap encode_lower w.2)
word_with (a ∷ b ∷ c ∷ d ∷ x ∷ bytes) front e h l f = absurd (omega (arith, e))

-- fewer than eight digits always go on to such a word
pub digits_word : (cut : List ℕ) → DigitsBegin (codes "word ") 7 cut → WordBegins cut
unfolding DigitsBegin WordBegins
digits_word cut (inl f) = (0, omega arith, zero_none 0 (omega arith) refl, front_more cut (codes "word ") (encode_lower (to_be_bytes w32 0)) f)
digits_word cut (inr d) =
    let pad = replicate (7 - length d.0) 48 in
    let seven : length (d.0 ++ pad) ≡ 7 = omega (arith, length-append d.0 pad, length-replicate {A = ℕ} (7 - length d.0) 48, d.2) in
    let all : are_digits ((d.0 ++ pad) ++ 48 ∷ []) ≡ true =
    list_all-append is_digit (d.0 ++ pad) (48 ∷ []) ∙ both_true (are_digits (d.0 ++ pad)) (are_digits (48 ∷ [])) (padded (7 - length d.0) d.0 d.3) refl in
    let found = digits_bytes 4 ((d.0 ++ pad) ++ 48 ∷ []) (omega (arith, length-append (d.0 ++ pad) (48 ∷ []), seven)) all in
    let w = word_with found.0 (d.0 ++ pad) found.1 found.2 seven found.3 in
    let digits : encode_lower (to_be_bytes w32 w.0) ≡ d.0 ++ (pad ++ 48 ∷ []) = w.3 ∙ found.3 ∙ append_assoc d.0 pad (48 ∷ []) in
    (w.0, w.1, w.2, front_past cut (codes "word ") d.0 (encode_lower (to_be_bytes w32 w.0)) d.1 (pad ++ 48 ∷ [], digits))

word_long : (w : ℕ) → length (encode_lower (to_be_bytes w32 w)) ≡ 8
word_long w = length-encode_with lower_digits (to_be_bytes w32 w)

-- a front of a word's text has fewer than eight digits, or is all of it
pub word_digits : (cut : List ℕ) (w : ℕ) → IsFront cut (word_text w) → DigitsBegin (codes "word ") 7 cut ⊎ (cut ≡ word_text w)
unfolding DigitsBegin
word_digits cut w f = elim (front_split cut (codes "word ") (encode_lower (to_be_bytes w32 w)) f) [
  | inl g ↦ inl (inl g)
  | inr g ↦ by g.0 g.1 g.2
]
  where
    by : (left : List ℕ) → cut ≡ codes "word " ++ left → IsFront left (encode_lower (to_be_bytes w32 w)) → DigitsBegin (codes "word ") 7 cut ⊎ (cut ≡ word_text w)
    by left e g = elim (cases_lt 7 (length left)) [
      | inr few ↦ inl (inr (left, e, few, front_digits left (encode_lower (to_be_bytes w32 w)) g (hex_digits (to_be_bytes w32 w) (word_bytes w))))
      | inl many ↦ inr (e ∙ ap (λ (t : List ℕ). codes "word " ++ t) (front_whole left (encode_lower (to_be_bytes w32 w)) g (omega (arith, word_long w, many))))
    ]
