-- Names, numbers and constants: what was read is of the grammar, and spelled by the bytes that were read.
use Rattle.std.proofs.Common.{◌≡◌, ℕ, zero, suc, ◌+◌, ◌-◌, ◌*◌, ◌/◌, ◌%◌, ◌^◌, ◌<◌, ◌≤◌, ℤ, pos, negsuc, Bool, true, false, not, ◌&&◌, ◌⊎◌, ◌==◌, nat_lt, nat_le, List, [], ◌∷◌, ◌++◌, length, take, codes, decimal, map, Option, Some, None, Result, Ok, Err, if◌then◌else◌, refl, sym, ap, subst, ◌∙◌, arith, append_assoc, append-nil, flat_map, inl, inr}
use Rattle.std.specs.Fmt.{signed_decimal}
use Rattle.std.specs.Char.{is_ascii_digit}
use Rattle.std.specs.Str.{bytes_eq}
use Rattle.std.proofs.lemmas.Bool.{ltb-false, leb-true, eqb-true, not-true, not-false, and_parts, and_from, le-leb, lt-ltb, le-ltb, both_ways, cases_Bool}
use Rattle.std.proofs.lemmas.List.{take-append-drop}
use Rattle.std.proofs.lemmas.Fmt.{decimal_step, decimal_digit}
use Rattle.std.proofs.lemmas.Option.{same_Some}
use Rattle.clu_base.specs.declared.constants.Const.{Const}
use Rattle.clu_base.specs.declared.constants.Const.TheVariants as const
use Rattle.clu_base.proofs.Lists.{same_bytes}
use Rattle.clu_specs.specs.declared.keywords.Simple.TheVariants as simple
use Rattle.clu_specs.specs.declared.keywords.Listing.TheVariants as listing
use Rattle.clu_specs.specs.declared.keywords.Selecting.TheVariants as selecting
use Rattle.clu_specs.specs.declared.keywords.Keyword.{Keyword}
use Rattle.clu_specs.specs.declared.keywords.Keyword.TheVariants as keyword
use Rattle.clu_specs.specs.declared.keywords.TheConstants.{KEYWORDS}
use Rattle.clu_specs.specs.declared.scope.Sort.{Sort}
use Rattle.clu_specs.specs.declared.scope.Scope.{Scope}
use Rattle.clu_specs.specs.Reading.{◌>>=◌, Read, behind}
use Rattle.clu_specs.specs.Names.{goes_on_name, word_len, first_word, behind_word, is_named, is_reserved, is_before, name_after}
use Rattle.clu_specs.specs.Keywords.{keyword_in, keyword_of}
use Rattle.clu_specs.specs.Numbers.{digits_from, digits_at}
use Rattle.clu_specs.specs.Scopes.{names, last_in, accepted, left_of_number, number_at, parameter_at}
use Rattle.clu_specs.specs.Constants.{hex_digit, hex_byte, hex_value, digit_by, digit_at, byte_at, string_step, string_at, negative_at, integer_at, constant_text, word_constant}
use Rattle.clu_specs.specs.Grammar.{IsName, IsParameter, IsInteger, IsConstant, AreBytes}
use Rattle.clu_specs.proofs.Outcomes.{SameRead, and_then, ok_same, not_refused, passed, found, either, behind_spelled}
use Rattle.clu_specs.proofs.Words.{take_all}

-- words
pub first_goes_on : (bytes : List ℕ) → word_len (first_word bytes) ≡ length (first_word bytes)
first_goes_on [] = refl
first_goes_on (b ∷ bytes) = elim (cases_Bool (goes_on_name b)) [
  | inl holds ↦ rw holds (rw holds (ap suc (first_goes_on bytes)))
  | inr fails ↦ rw fails refl
]

pub word_spelled : (bytes : List ℕ) → bytes ≡ first_word bytes ++ behind_word bytes
word_spelled bytes = sym (take-append-drop (word_len bytes) bytes)

-- names
pub record NameRead (previous : List ℕ) (limit : ℕ) (bytes name rest : List ℕ) : Type 0 where
  pub is : IsName limit name
  pub after : is_before previous name ≡ true
  pub word : first_word bytes ≡ name
  pub spelled : bytes ≡ name ++ rest

name_parts : (previous : List ℕ) (limit : ℕ) (bytes name rest : List ℕ) → name_after previous limit bytes ≡ Ok (name, rest)
    → (is_named (first_word bytes) ≡ true) × (is_before previous (take limit (first_word bytes)) ≡ true) × (nat_lt limit (length (first_word bytes)) ≡ false) × (is_reserved (first_word bytes) ≡ false) × (first_word bytes ≡ name) × (behind_word bytes ≡ rest)
unfolding name_after
name_parts previous limit bytes name rest e =
    let a = not_refused (not (is_named (first_word bytes))) _ _ _ e in
    let b = not_refused (not (is_before previous (take limit (first_word bytes)))) _ _ _ a.1 in
    let c = not_refused (nat_lt limit (length (first_word bytes))) _ _ _ b.1 in
    let d = not_refused (is_reserved (first_word bytes)) _ _ _ c.1 in
    let same : (first_word bytes, behind_word bytes) ≡ (name, rest) = cc in
    (not-false (is_named (first_word bytes)) a.0, not-false (is_before previous (take limit (first_word bytes))) b.0, c.0, d.0, ap (λ (x : List ℕ × List ℕ). x.0) same, ap (λ (x : List ℕ × List ℕ). x.1) same)

pub name_read : (previous : List ℕ) (limit : ℕ) (bytes name rest : List ℕ) → name_after previous limit bytes ≡ Ok (name, rest) → NameRead previous limit bytes name rest
name_read previous limit bytes name rest e =
    let p = name_parts previous limit bytes name rest e in
    let short : length (first_word bytes) ≤ limit = ltb-false limit (length (first_word bytes)) p.2 in
    let whole : take limit (first_word bytes) ≡ first_word bytes = take_all limit (first_word bytes) short in
    let first : NameRead previous limit bytes (first_word bytes) (behind_word bytes) = record {
      is = record { begins = p.0; goes_on = first_goes_on bytes; short = short; free = p.3 };
      after = rw whole at p.1;
      word = refl;
      spelled = word_spelled bytes;
    } in
    subst (λ (x : List ℕ). NameRead previous limit bytes x rest) p.4 (subst (λ (x : List ℕ). NameRead previous limit bytes (first_word bytes) x) p.5 first)

-- digits
pub digit_bounds : (b : ℕ) → is_ascii_digit b ≡ true → (48 ≤ b) × (b ≤ 57)
digit_bounds b e =
    let p = and_parts (nat_le 48 b) (nat_le b 57) e in
    (leb-true 48 b p.0, leb-true b 57 p.1)

digit_within : (b : ℕ) → 48 ≤ b → b ≤ 57 → is_ascii_digit b ≡ true
digit_within b low high = and_from (nat_le 48 b) (nat_le b 57) (le-leb 48 b low) (le-leb b 57 high)

pub digit_choice : {A : Type 0} (stop fits : Bool) (x : A) (more : Result A ℕ) (left : ℕ) (y : A) → (if stop then Ok x else if fits then more else Err left) ≡ Ok y
    → ((stop ≡ true) × (x ≡ y)) ⊎ ((stop ≡ false) × (fits ≡ true) × (more ≡ Ok y))
digit_choice true fits x more left y e = inl (refl, cc)
digit_choice false true x more left y e = inr (refl, refl, e)
digit_choice false false x more left y e = absurd (cc)

pub record NumberRead (limit : ℕ) (whole : List ℕ) (n : ℕ) (rest : List ℕ) : Type 0 where
  pub spelled : whole ≡ decimal n ++ rest
  pub some : 0 < n
  pub small : n ≤ limit

pub one_more : (read b : ℕ) (bytes : List ℕ) → 0 < read → 10 * read + (b - 48) < 2 ^ 64 → 48 ≤ b → b ≤ 57 → decimal read ++ b ∷ bytes ≡ decimal (10 * read + (b - 48)) ++ bytes
one_more read b bytes some fits low high =
    let m : ℕ = 10 * read + (b - 48) in
    let front : m / 10 ≡ read = omega (arith, low, high) in
    let last : 48 + m % 10 ≡ b = omega (arith, low, high) in
    let step : decimal m ≡ decimal (m / 10) ++ (48 + m % 10) ∷ [] = decimal_step m (omega (arith, some)) fits in
    sym (ap (λ (x : List ℕ). x ++ bytes) (step ∙ rw (front, last) refl) ∙ append_assoc (decimal read) (b ∷ []) bytes)

digits_spelled : (limit : ℕ) (bytes : List ℕ) (read n : ℕ) (rest : List ℕ) → limit ≤ 2 ^ 63 → 0 < read → read ≤ limit → digits_from limit read bytes ≡ Ok (n, rest) → NumberRead limit (decimal read ++ bytes) n rest
digits_spelled limit [] read n rest small some le e =
    let same : (read, []) ≡ (n, rest) = cc in
    subst (λ (x : ℕ × List ℕ). NumberRead limit (decimal read ++ []) x.0 x.1) same (record { spelled = refl; some = some; small = le })
digits_spelled limit (b ∷ bytes) read n rest small some le e =
    let m : ℕ = 10 * read + (b - 48) in
    elim (digit_choice (not (is_ascii_digit b)) (nat_le m limit) (read, b ∷ bytes) (digits_from limit m bytes) (suc (length bytes)) (n, rest) e) [
      | inl h ↦ subst (λ (x : ℕ × List ℕ). NumberRead limit (decimal read ++ b ∷ bytes) x.0 x.1) h.1 (record { spelled = refl; some = some; small = le })
      | inr h ↦ (let digit = digit_bounds b (not-false (is_ascii_digit b) h.0) in
          let fits : m ≤ limit = leb-true m limit h.1 in
          let more = digits_spelled limit bytes m n rest small (omega (arith, some)) fits h.2 in
          record { spelled = one_more read b bytes some (omega (arith, fits, small)) digit.0 digit.1 ∙ more.spelled; some = more.some; small = more.small })
    ]

pub number_read : (limit : ℕ) (bytes : List ℕ) (n : ℕ) (rest : List ℕ) → limit ≤ 2 ^ 63 → digits_at limit bytes ≡ Ok (n, rest) → NumberRead limit bytes n rest
unfolding digits_at
number_read limit [] n rest small e = absurd (cc)
number_read limit (b ∷ bytes) n rest small e =
    let h = passed (nat_le 49 b && nat_le b 57) (suc (length bytes)) (digits_from limit 0 (b ∷ bytes)) (n, rest) e in
    let p = and_parts (nat_le 49 b) (nat_le b 57) h.0 in
    let low : 49 ≤ b = leb-true 49 b p.0 in
    let high : b ≤ 57 = leb-true b 57 p.1 in
    let m : ℕ = 10 * 0 + (b - 48) in
    let value : m ≡ b - 48 = omega arith in
    let text : decimal m ≡ b ∷ [] = decimal_digit m (omega (arith, low, high)) ∙ ap (λ (x : ℕ). x ∷ []) (omega (arith, low)) in
    elim (digit_choice (not (is_ascii_digit b)) (nat_le m limit) (0, b ∷ bytes) (digits_from limit m bytes) (suc (length bytes)) (n, rest) h.1) [
      | inl q ↦ absurd (both_ways (is_ascii_digit b) (not-true (is_ascii_digit b) q.0) (digit_within b (omega (arith, low)) high))
      | inr q ↦ (let more = digits_spelled limit bytes m n rest small (omega (arith, low)) (leb-true m limit q.1) q.2 in
          record { spelled = sym (ap (λ (x : List ℕ). x ++ bytes) text) ∙ more.spelled; some = more.some; small = more.small })
    ]

-- parameters
pub record ParameterRead (scope : Scope) (of : Sort) (least : ℕ) (bytes : List ℕ) (n : ℕ) (rest : List ℕ) : Type 0 where
  pub is : IsParameter scope of n
  pub after : least ≤ n
  pub spelled : bytes ≡ decimal n ++ rest

pub accepted_ok : (scope : Scope) (of : Sort) (least : ℕ) (read : Result (ℕ × List ℕ) ℕ) (left : ℕ) (y : ℕ × List ℕ) → accepted scope of least read left ≡ Ok y → (read ≡ Ok y) × (nat_le least y.0 ≡ true) × (names scope of y.0 ≡ true)
accepted_ok scope of least (Ok x) left y e =
    let h = passed (nat_le least x.0 && names scope of x.0) left (Ok x) y e in
    let p = and_parts (nat_le least x.0) (names scope of x.0) h.0 in
    let same : x ≡ y = cc in
    (h.1, subst (λ (z : ℕ × List ℕ). nat_le least z.0 ≡ true) same p.0, subst (λ (z : ℕ × List ℕ). names scope of z.0 ≡ true) same p.1)
accepted_ok scope of least (Err at) left y e = absurd (cc)

pub parameter_number : (scope : Scope) (of : Sort) (least : ℕ) (bytes : List ℕ) (n : ℕ) (rest : List ℕ) → number_at scope of least bytes ≡ Ok (n, rest) → ParameterRead scope of least bytes n rest
unfolding number_at
parameter_number scope of least bytes n rest e =
    let h = accepted_ok scope of least (digits_at 4294967295 bytes) (left_of_number scope of least 0 bytes) (n, rest) e in
    let number = number_read 4294967295 bytes n rest (omega arith) h.0 in
    record { is = record { named = h.2; small = number.small }; after = leb-true least n h.1; spelled = number.spelled }

pub parameter_read : (scope : Scope) (of : Sort) (bytes behind_mark : List ℕ) (n : ℕ) (rest : List ℕ) → parameter_at scope of bytes behind_mark ≡ Ok (n, rest) → ParameterRead scope of 1 behind_mark n rest
unfolding parameter_at
parameter_read scope of bytes behind_mark n rest e =
    let h = passed (nat_le 1 (last_in scope of)) (length bytes) (number_at scope of 1 behind_mark) (n, rest) e in
    parameter_number scope of 1 behind_mark n rest h.1

-- hexadecimal digits
hex_choice : (digit letter : Bool) (x y v : ℕ) → (if digit then Some x else if letter then Some y else None) ≡ Some v → ((digit ≡ true) × (x ≡ v)) ⊎ ((letter ≡ true) × (y ≡ v))
hex_choice true letter x y v e = inl (refl, cc)
hex_choice false true x y v e = inr (refl, cc)
hex_choice false false x y v e = absurd (cc)

value_spelled : (b v : ℕ) → hex_value b ≡ Some v → (hex_digit v ≡ b) × (v < 16)
value_spelled b v e = elim (hex_choice (is_ascii_digit b) (nat_le 97 b && nat_le b 102) (b - 48) (b - 97 + 10) v e) [
  | inl h ↦ (let digit = digit_bounds b h.0 in
      let low : v < 10 = omega (arith, h.1, digit.1) in
      let back : 48 + v ≡ b = omega (arith, h.1, digit.0) in
      (rw (lt-ltb v 10 low) back, omega (arith, low)))
  | inr h ↦ (let p = and_parts (nat_le 97 b) (nat_le b 102) h.0 in
      let low : 97 ≤ b = leb-true 97 b p.0 in
      let high : b ≤ 102 = leb-true b 102 p.1 in
      let large : 10 ≤ v = omega (arith, h.1) in
      let back : 97 + (v - 10) ≡ b = omega (arith, h.1, low) in
      (rw (le-ltb v 10 large) back, omega (arith, h.1, low, high)))
]

digit_made : (o : Option ℕ) (b : ℕ) (bytes : List ℕ) (v : ℕ) (rest : List ℕ) → digit_by o b bytes ≡ Ok (v, rest) → (o ≡ Some v) × (bytes ≡ rest)
digit_made None b bytes v rest e = absurd (cc)
digit_made (Some value) b bytes v rest e =
    let same : (value, bytes) ≡ (v, rest) = cc in
    (ap (λ (x : ℕ × List ℕ). Some x.0) same, ap (λ (x : ℕ × List ℕ). x.1) same)

pub digit_spelled : (bytes : List ℕ) (v : ℕ) (rest : List ℕ) → digit_at bytes ≡ Ok (v, rest) → (bytes ≡ hex_digit v ∷ rest) × (v < 16)
digit_spelled [] v rest e = absurd (cc)
digit_spelled (b ∷ bytes) v rest e =
    let h = digit_made (hex_value b) b bytes v rest e in
    let value = value_spelled b v h.0 in
    (rw (value.0, h.1) refl, value.1)

pub hex_made : (high low : ℕ) (rest : List ℕ) → high < 16 → low < 16 → hex_digit high ∷ hex_digit low ∷ rest ≡ hex_byte (16 * high + low) ++ rest
hex_made high low rest h l =
    let first : (16 * high + low) / 16 ≡ high = omega (arith, h, l) in
    let second : (16 * high + low) % 16 ≡ low = omega (arith, h, l) in
    ap (λ (x : ℕ). hex_digit x ∷ hex_digit low ∷ rest) (sym first) ∙ ap (λ (x : ℕ). hex_digit ((16 * high + low) / 16) ∷ hex_digit x ∷ rest) (sym second)

pub byte_spelled : (bytes : List ℕ) (b : ℕ) (rest : List ℕ) → byte_at bytes ≡ Ok (b, rest) → (bytes ≡ hex_byte b ++ rest) × (b < 256)
unfolding byte_at
byte_spelled bytes b rest e =
    let one = and_then (digit_at bytes) (λ (high : ℕ × List ℕ). digit_at high.1 >>= λ low. Ok (16 * high.0 + low.0, low.1)) (b, rest) e in
    let two = and_then (digit_at one.0.1) (λ (low : ℕ × List ℕ). Ok (16 * one.0.0 + low.0, low.1)) (b, rest) one.2 in
    let h = digit_spelled bytes one.0.0 one.0.1 one.1 in
    let l = digit_spelled one.0.1 two.0.0 two.0.1 two.1 in
    let same : (16 * one.0.0 + two.0.0, two.0.1) ≡ (b, rest) = cc in
    let text : bytes ≡ hex_byte (16 * one.0.0 + two.0.0) ++ two.0.1 = h.0 ∙ ap (λ (x : List ℕ). hex_digit one.0.0 ∷ x) l.0 ∙ hex_made one.0.0 two.0.0 two.0.1 h.1 l.1 in
    let small : 16 * one.0.0 + two.0.0 < 256 = omega (arith, h.1, l.1) in
    subst (λ (x : ℕ × List ℕ). (bytes ≡ hex_byte x.0 ++ x.1) × (x.0 < 256)) same (text, small)

-- strings
pub record StringRead (made bytes text rest : List ℕ) : Type 0 where
  pub more : List ℕ
  pub whole : text ≡ made ++ more
  pub are : AreBytes more
  pub spelled : bytes ≡ flat_map hex_byte more ++ 34 ∷ rest

string_choice : (o : Option (List ℕ)) (made : List ℕ) (more : Read (List ℕ)) (text rest : List ℕ) → string_step o made more ≡ Ok (text, rest)
    → ((o ≡ Some rest) × (made ≡ text)) ⊎ (more ≡ Ok (text, rest))
string_choice None made more text rest e = inr e
string_choice (Some after) made more text rest e =
    let same : (made, after) ≡ (text, rest) = cc in
    inl (ap (λ (x : List ℕ × List ℕ). Some x.1) same, ap (λ (x : List ℕ × List ℕ). x.0) same)

pub string_spelled : (n : ℕ) (made bytes text rest : List ℕ) → string_at n made bytes ≡ Ok (text, rest) → StringRead made bytes text rest
unfolding string_at
string_spelled zero made bytes text rest e = absurd (cc)
string_spelled (suc n) made bytes text rest e =
    elim (string_choice (behind 34 bytes) made (byte_at bytes >>= λ x. string_at n (made ++ x.0 ∷ []) x.1) text rest e) [
      | inl h ↦ record { more = []; whole = sym h.1 ∙ sym (append-nil made); are = tt; spelled = behind_spelled 34 bytes rest h.0 }
      | inr h ↦ (let one = and_then (byte_at bytes) (λ (x : ℕ × List ℕ). string_at n (made ++ x.0 ∷ []) x.1) (text, rest) h in
          let byte = byte_spelled bytes one.0.0 one.0.1 one.1 in
          let s = string_spelled n (made ++ one.0.0 ∷ []) one.0.1 text rest one.2 in
          record {
            more = one.0.0 ∷ s.more;
            whole = s.whole ∙ append_assoc made (one.0.0 ∷ []) s.more;
            are = (byte.1, s.are);
            spelled = byte.0 ∙ ap (λ (x : List ℕ). hex_byte one.0.0 ++ x) s.spelled ∙ sym (append_assoc (hex_byte one.0.0) (flat_map hex_byte s.more) (34 ∷ rest));
          })
    ]

-- integers
pub record IntegerRead (bytes : List ℕ) (n : ℤ) (rest : List ℕ) : Type 0 where
  pub is : IsInteger n
  pub spelled : bytes ≡ signed_decimal n ++ rest

negative_read : (bytes : List ℕ) (n : ℤ) (rest : List ℕ) → negative_at bytes ≡ Ok (n, rest) → IntegerRead (45 ∷ bytes) n rest
unfolding negative_at
negative_read bytes n rest e =
    let h = and_then (digits_at 9223372036854775808 bytes) (λ (x : ℕ × List ℕ). Ok (negsuc (x.0 - 1), x.1)) (n, rest) e in
    let number = number_read 9223372036854775808 bytes h.0.0 h.0.1 (omega arith) h.1 in
    let same : (negsuc (h.0.0 - 1), h.0.1) ≡ (n, rest) = cc in
    let back : suc (h.0.0 - 1) ≡ h.0.0 = omega (arith, number.some) in
    subst (λ (x : ℤ × List ℕ). IntegerRead (45 ∷ bytes) x.0 x.1) same
    (record { is = omega (arith, number.small, number.some); spelled = ap (λ (x : List ℕ). 45 ∷ x) (number.spelled ∙ ap (λ (x : ℕ). decimal x ++ h.0.1) (sym back)) })

abbrev pub positive_at : List ℕ → Read ℤ
positive_at bytes = digits_at 9223372036854775807 bytes >>= λ x. Ok (pos x.0, x.1)

positive_read : (bytes : List ℕ) (n : ℤ) (rest : List ℕ) → positive_at bytes ≡ Ok (n, rest) → IntegerRead bytes n rest
positive_read bytes n rest e =
    let h = and_then (digits_at 9223372036854775807 bytes) (λ (x : ℕ × List ℕ). Ok (pos x.0, x.1)) (n, rest) e in
    let number = number_read 9223372036854775807 bytes h.0.0 h.0.1 (omega arith) h.1 in
    let same : (pos h.0.0, h.0.1) ≡ (n, rest) = cc in
    subst (λ (x : ℤ × List ℕ). IntegerRead bytes x.0 x.1) same (record { is = omega (arith, number.small); spelled = number.spelled })

zero_read : (b : ℕ) (bytes : List ℕ) (n : ℤ) (rest : List ℕ) → b ≡ 48 → SameRead ℤ (pos 0, bytes) (n, rest) → IntegerRead (b ∷ bytes) n rest
zero_read b bytes n rest z same =
    subst (λ (x : ℤ × List ℕ). IntegerRead (b ∷ bytes) x.0 x.1) same
    (record { is = omega arith; spelled = ap (λ (x : ℕ). x ∷ bytes) z ∙ sym (ap (λ (x : List ℕ). x ++ bytes) (decimal_digit 0 (omega arith))) })

pub integer_read : (bytes : List ℕ) (n : ℤ) (rest : List ℕ) → integer_at bytes ≡ Ok (n, rest) → IntegerRead bytes n rest
unfolding integer_at
integer_read [] n rest e = absurd (cc)
integer_read (b ∷ bytes) n rest e =
    elim (either (b == 48) (Ok (pos 0, bytes)) (if b == 45 then negative_at bytes else positive_at (b ∷ bytes)) (Ok (n, rest)) e) [
      | inl h ↦ (let is : b ≡ 48 = eqb-true b 48 h.0 in let same : (pos 0, bytes) ≡ (n, rest) = ok_same (Ok (pos 0, bytes)) (pos 0, bytes) (n, rest) refl h.1 in zero_read b bytes n rest is same)
      | inr h ↦ elim (either (b == 45) (negative_at bytes) (positive_at (b ∷ bytes)) (Ok (n, rest)) h.1) [
        | inl q ↦ subst (λ (x : ℕ). IntegerRead (x ∷ bytes) n rest) (sym (eqb-true b 45 q.0)) (negative_read bytes n rest q.1)
        | inr q ↦ positive_read (b ∷ bytes) n rest q.1
      ]
    ]

-- the words of constants and types
abbrev pub ConstantRead : List ℕ → Const → Type 0
ConstantRead text c = IsConstant c × (text ≡ constant_text c)

shown : (text : List ℕ) (x c : Const) → Some x ≡ Some c → ConstantRead text x → ConstantRead text c
shown text x c same h = subst (ConstantRead text) (same_Some x c same) h

pub constant_word : (text : List ℕ) (c : Const) → word_constant text ≡ Some c → ConstantRead text c
unfolding word_constant
constant_word text c e =
    elim (either (bytes_eq text (codes "nil")) (Some const.Null) (if bytes_eq text (codes "true") then Some (const.Bool true) else if bytes_eq text (codes "false") then Some (const.Bool false) else None) (Some c) e) [
      | inl h ↦ shown text const.Null c h.1 (tt, same_bytes text (codes "nil") h.0)
      | inr h ↦ elim (either (bytes_eq text (codes "true")) (Some (const.Bool true)) (if bytes_eq text (codes "false") then Some (const.Bool false) else None) (Some c) h.1) [
        | inl q ↦ shown text (const.Bool true) c q.1 (tt, same_bytes text (codes "true") q.0)
        | inr q ↦ (let r = found (bytes_eq text (codes "false")) (const.Bool false) c q.1 in shown text (const.Bool false) c (ap Some r.1) (tt, same_bytes text (codes "false") r.0))
      ]
    ]

abbrev pub keyword_text : Keyword → List ℕ
keyword_text (keyword.Simple simple.Null) = codes "null"
keyword_text (keyword.Simple simple.Bool) = codes "bool"
keyword_text (keyword.Simple simple.Int) = codes "int"
keyword_text (keyword.Simple simple.Char) = codes "char"
keyword_text (keyword.Simple simple.Str) = codes "string"
keyword_text (keyword.Simple simple.Any) = codes "any"
keyword_text (keyword.Simple simple.Stream) = codes "stream"
keyword_text (keyword.Listing listing.Array) = codes "array"
keyword_text (keyword.Listing listing.Sequence) = codes "sequence"
keyword_text (keyword.Selecting selecting.Record) = codes "record"
keyword_text (keyword.Selecting selecting.Struct) = codes "struct"
keyword_text (keyword.Selecting selecting.Oneof) = codes "oneof"
keyword_text (keyword.Selecting selecting.Variant) = codes "variant"
keyword_text (keyword.Routine false) = codes "proctype"
keyword_text (keyword.Routine true) = codes "itertype"

abbrev AllSpelled : List (List ℕ × Keyword) → Type 0
AllSpelled [] = Unit {0}
AllSpelled (entry ∷ table) = (entry.0 ≡ keyword_text entry.1) × AllSpelled table

keyword_found : (table : List (List ℕ × Keyword)) (text : List ℕ) (k : Keyword) → AllSpelled table → keyword_in table text ≡ Some k → text ≡ keyword_text k
keyword_found [] text k all e = absurd (cc)
keyword_found (entry ∷ table) text k all e = elim (either (bytes_eq entry.0 text) (Some entry.1) (keyword_in table text) (Some k) e) [
  | inl h ↦ (let same : entry.1 ≡ k = same_Some entry.1 k h.1 in sym (same_bytes entry.0 text h.0) ∙ all.0 ∙ ap keyword_text same)
  | inr h ↦ keyword_found table text k all.1 h.1
]

pub keyword_spelled : (text : List ℕ) (k : Keyword) → keyword_of text ≡ Some k → text ≡ keyword_text k
unfolding keyword_of
keyword_spelled text k e = keyword_found (map (λ entry. (entry.0.now, entry.1)) KEYWORDS) text k (refl, (refl, (refl, (refl, (refl, (refl, (refl, (refl, (refl, (refl, (refl, (refl, (refl, (refl, (refl, tt))))))))))))))) e
