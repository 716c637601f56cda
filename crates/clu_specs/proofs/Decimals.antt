-- Numbers and constants at the front of a text: what is written of them is read again.
use Rattle.std.proofs.Common.{◌≡◌, ℕ, zero, suc, ◌+◌, ◌-◌, ◌*◌, ◌/◌, ◌%◌, ◌^◌, ◌<◌, ◌≤◌, ℤ, pos, negsuc, Bool, true, false, not, ◌&&◌, ◌==◌, nat_le, List, [], ◌∷◌, ◌++◌, length, decimal, Some, None, Ok, Err, refl, sym, ap, ◌∙◌, arith, append_assoc, append-nil, flat_map, inl, inr}
use Rattle.std.specs.Fmt.{signed_decimal}
use Rattle.std.specs.Char.{is_ascii_digit}
use Rattle.std.proofs.lemmas.Bool.{lt-ltb, le-ltb, le-leb, lt-leb, and_from, and_right, ne_eqb, cases_lt, cond-true}
use Rattle.std.proofs.lemmas.Fmt.{decimal_by_steps, decimal_digit}
use Rattle.clu_specs.specs.declared.scope.Sort.{Sort}
use Rattle.clu_specs.specs.declared.scope.Scope.{Scope}
use Rattle.clu_specs.specs.Reading.{Read, behind}
use Rattle.clu_specs.specs.Names.{word_len}
use Rattle.clu_specs.specs.Numbers.{digits_from, digits_at}
use Rattle.clu_specs.specs.Scopes.{names, last_in, number_at, parameter_at}
use Rattle.clu_specs.specs.Constants.{hex_digit, hex_byte, hex_value, digit_at, byte_at, string_at, negative_at, integer_at}
use Rattle.clu_specs.specs.Grammar.{IsParameter, IsInteger, AreBytes}

-- no digit comes first
abbrev pub ends_number : List ℕ → Bool
ends_number [] = true
ends_number (b ∷ bytes) = not (is_ascii_digit b)

pub ended : (rest : List ℕ) → word_len rest ≡ 0 → ends_number rest ≡ true
ended [] e = refl
ended (b ∷ rest) e = grind arith

digit_of : (n : ℕ) → n < 10 → is_ascii_digit (48 + n) ≡ true
digit_of n lt = and_from (nat_le 48 (48 + n)) (nat_le (48 + n) 57) (le-leb 48 (48 + n) (omega arith)) (le-leb (48 + n) 57 (omega arith))

-- one digit more
digit_on : (limit read d : ℕ) (rest : List ℕ) → d < 10 → 10 * read + d ≤ limit → digits_from limit read ((48 + d) ∷ rest) ≡ digits_from limit (10 * read + d) rest
digit_on limit read d rest lt le =
    let back : 48 + d - 48 ≡ d = omega arith in
    rw (digit_of d lt, back, le-leb (10 * read + d) limit le) refl

abbrev Digits : ℕ → List ℕ → Type 0
Digits n ds = (limit : ℕ) (rest : List ℕ) → n ≤ limit → digits_from limit 0 (ds ++ rest) ≡ digits_from limit n rest

digits_one : (n : ℕ) → n < 10 → Digits n ((48 + n) ∷ [])
digits_one n lt limit rest le =
    let value : 10 * 0 + n ≡ n = omega arith in
    digit_on limit 0 n rest lt (omega (arith, le)) ∙ ap (λ (m : ℕ). digits_from limit m rest) value

digits_more : (n : ℕ) (ds : List ℕ) → 10 ≤ n → Digits (n / 10) ds → Digits n (ds ++ (48 + n % 10) ∷ [])
digits_more n ds ten h limit rest le =
    let whole : 10 * (n / 10) + n % 10 ≡ n = omega arith in
    let last : digits_from limit (n / 10) ((48 + n % 10) ∷ rest) ≡ digits_from limit (10 * (n / 10) + n % 10) rest = digit_on limit (n / 10) (n % 10) rest (omega arith) (omega arith) in
    ap (digits_from limit 0) (append_assoc ds ((48 + n % 10) ∷ []) rest) ∙ h limit ((48 + n % 10) ∷ rest) (omega arith) ∙ last ∙ ap (λ (m : ℕ). digits_from limit m rest) whole

digits_read : (n : ℕ) → n < 2 ^ 64 → Digits n (decimal n)
digits_read n lt = decimal_by_steps Digits digits_one digits_more n lt

digits_end : (limit n : ℕ) (rest : List ℕ) → ends_number rest ≡ true → digits_from limit n rest ≡ Ok (n, rest)
digits_end limit n [] e = refl
digits_end limit n (b ∷ rest) e = rw e refl

-- the first digit of a number that isn't 0
abbrev pub IsLed : ℕ → List ℕ → Type 0
IsLed n ds = 0 < n → (first : ℕ) × (more : List ℕ) × (ds ≡ first ∷ more) × (49 ≤ first) × (first ≤ 57)

led_one : (n : ℕ) → n < 10 → IsLed n ((48 + n) ∷ [])
led_one n lt some = (48 + n, [], refl, omega arith, omega arith)

led_more : (n : ℕ) (ds : List ℕ) → 10 ≤ n → IsLed (n / 10) ds → IsLed n (ds ++ (48 + n % 10) ∷ [])
led_more n ds ten h some =
    let p = h (omega arith) in
    (p.0, p.1 ++ (48 + n % 10) ∷ [], ap (λ (x : List ℕ). x ++ (48 + n % 10) ∷ []) p.2, p.3, p.4)

pub led : (n : ℕ) → n < 2 ^ 64 → IsLed n (decimal n)
led n lt = decimal_by_steps IsLed led_one led_more n lt

digits_by : (limit n first : ℕ) (more rest bytes : List ℕ) → bytes ≡ first ∷ more → 49 ≤ first → first ≤ 57 → digits_from limit 0 bytes ≡ Ok (n, rest) → digits_at limit bytes ≡ Ok (n, rest)
unfolding digits_at
digits_by limit n first more rest bytes e low high d =
    let back : digits_from limit 0 (first ∷ more) ≡ Ok (n, rest) = ap (digits_from limit 0) (sym e) ∙ d in
    rw e (cond-true (nat_le 49 first && nat_le first 57) (digits_from limit 0 (first ∷ more)) (Err (suc (length more))) (and_from (nat_le 49 first) (nat_le first 57) (le-leb 49 first low) (le-leb first 57 high)) ∙ back)

pub digits_again : (limit n : ℕ) (rest : List ℕ) → 0 < n → n ≤ limit → n < 2 ^ 64 → ends_number rest ≡ true → digits_at limit (decimal n ++ rest) ≡ Ok (n, rest)
digits_again limit n rest some le lt e =
    let p = led n lt some in
    digits_by limit n p.0 (p.1 ++ rest) rest (decimal n ++ rest) (ap (λ (x : List ℕ). x ++ rest) p.2) p.3 p.4 (digits_read n lt limit rest le ∙ digits_end limit n rest e)

-- parameters
named_some : (scope : Scope) (of : Sort) (n : ℕ) → names scope of n ≡ true → 0 < n
named_some scope of zero e = absurd (cc)
named_some scope of (suc n) e = omega arith

pub number_by : (scope : Scope) (of : Sort) (n least : ℕ) (bytes rest : List ℕ) → digits_at 4294967295 bytes ≡ Ok (n, rest) → nat_le least n ≡ true → names scope of n ≡ true → number_at scope of least bytes ≡ Ok (n, rest)
unfolding number_at
number_by scope of n least bytes rest d le e = rw (d, le, e) refl

pub number_again : (scope : Scope) (of : Sort) (n least : ℕ) (rest : List ℕ) → IsParameter scope of n → least ≤ n → ends_number rest ≡ true → number_at scope of least (decimal n ++ rest) ≡ Ok (n, rest)
number_again scope of n least rest p le e =
    number_by scope of n least (decimal n ++ rest) rest (digits_again 4294967295 n rest (named_some scope of n p.named) p.small (omega (arith, p.small)) e) (le-leb least n le) p.named

pub parameter_again : (scope : Scope) (of : Sort) (n : ℕ) (bytes rest : List ℕ) → IsParameter scope of n → nat_le 1 (last_in scope of) ≡ true → ends_number rest ≡ true
    → parameter_at scope of bytes (decimal n ++ rest) ≡ Ok (n, rest)
unfolding parameter_at
parameter_again scope of n bytes rest p some e =
    rw some (number_again scope of n 1 rest p (named_some scope of n p.named) e)

-- hexadecimal digits
value_of : (n : ℕ) → n < 16 → hex_value (hex_digit n) ≡ Some n
value_of n lt = elim (cases_lt n 10) [
  | inl low ↦ (let text : hex_digit n ≡ 48 + n = rw (lt-ltb n 10 low) refl in
      let back : 48 + n - 48 ≡ n = omega arith in
      ap hex_value text ∙ rw (digit_of n low, back) refl)
  | inr high ↦ (let letter : ℕ = 97 + (n - 10) in
      let text : hex_digit n ≡ letter = rw (le-ltb n 10 high) refl in
      let back : letter - 97 + 10 ≡ n = omega (arith, high) in
      let other : is_ascii_digit letter ≡ false = and_right (nat_le 48 letter) (nat_le letter 57) (lt-leb letter 57 (omega arith)) in
      ap hex_value text ∙ rw (other, le-leb 97 letter (omega arith), le-leb letter 102 (omega (arith, lt)), back) refl)
]

digit_again : (n : ℕ) (rest : List ℕ) → n < 16 → digit_at (hex_digit n ∷ rest) ≡ Ok (n, rest)
digit_again n rest lt = rw (value_of n lt) refl

byte_by : (high low : ℕ) (bytes behind_high rest : List ℕ) → digit_at bytes ≡ Ok (high, behind_high) → digit_at behind_high ≡ Ok (low, rest) → byte_at bytes ≡ Ok (16 * high + low, rest)
unfolding byte_at
byte_by high low bytes behind_high rest h l = rw (h, l) refl

pub byte_again : (b : ℕ) (rest : List ℕ) → b < 256 → byte_at (hex_byte b ++ rest) ≡ Ok (b, rest)
byte_again b rest lt =
    let whole : 16 * (b / 16) + b % 16 ≡ b = omega arith in
    byte_by (b / 16) (b % 16) (hex_byte b ++ rest) (hex_digit (b % 16) ∷ rest) rest (digit_again (b / 16) (hex_digit (b % 16) ∷ rest) (omega arith)) (digit_again (b % 16) rest (omega arith))
    ∙ ap (λ (n : ℕ). Ok (n, rest)) whole

digit_large : (n : ℕ) → n < 16 → 48 ≤ hex_digit n
digit_large n lt = elim (cases_lt n 10) [ inl low ↦ rw (lt-ltb n 10 low) (omega arith) | inr high ↦ rw (le-ltb n 10 high) (omega arith) ]

-- a digit is no quotation mark
no_mark : (n : ℕ) → n < 16 → (hex_digit n == 34) ≡ false
no_mark n lt = ne_eqb (hex_digit n) 34 (λ e. let h = digit_large n lt in absurd (omega (arith, h, e)))

string_on : (n b : ℕ) (made bytes rest : List ℕ) (total : Read (List ℕ)) → behind 34 bytes ≡ None → byte_at bytes ≡ Ok (b, rest) → string_at n (made ++ b ∷ []) rest ≡ total → string_at (suc n) made bytes ≡ total
unfolding string_at
string_on n b made bytes rest total m d t = rw (m, d) t

string_done : (n : ℕ) (made bytes rest : List ℕ) → behind 34 bytes ≡ Some rest → string_at (suc n) made bytes ≡ Ok (made, rest)
unfolding string_at
string_done n made bytes rest m = rw m refl

pub string_again : (bytes made rest : List ℕ) (n : ℕ) → AreBytes bytes → length bytes < n → string_at n made (flat_map hex_byte bytes ++ 34 ∷ rest) ≡ Ok (made ++ bytes, rest)
string_again bytes made rest zero h lt = absurd (omega (arith, lt))
string_again [] made rest (suc n) h lt = string_done n made (34 ∷ rest) rest refl ∙ ap (λ (x : List ℕ). Ok (x, rest)) (sym (append-nil made))
string_again (b ∷ bytes) made rest (suc n) h lt =
    let text : List ℕ = flat_map hex_byte bytes ++ 34 ∷ rest in
    let mark : behind 34 (hex_byte b ++ text) ≡ None = rw (no_mark (b / 16) (omega (arith, h.0))) refl in
    let more : string_at n (made ++ b ∷ []) text ≡ Ok ((made ++ b ∷ []) ++ bytes, rest) = string_again bytes (made ++ b ∷ []) rest n h.1 (omega (arith, lt)) in
    string_on n b made (hex_byte b ++ text) text (Ok (made ++ b ∷ bytes, rest)) mark (byte_again b text h.0) (more ∙ ap (λ (x : List ℕ). Ok (x, rest)) (append_assoc made (b ∷ []) bytes))

-- integers
negative_by : (n : ℕ) (bytes rest : List ℕ) → digits_at 9223372036854775808 bytes ≡ Ok (suc n, rest) → negative_at bytes ≡ Ok (negsuc n, rest)
unfolding negative_at
negative_by n bytes rest d =
    let back : suc n - 1 ≡ n = omega arith in
    rw d (ap (λ (m : ℕ). Ok (negsuc m, rest)) back)

integer_by : (n first : ℕ) (more rest bytes : List ℕ) → bytes ≡ first ∷ more → 49 ≤ first → digits_at 9223372036854775807 bytes ≡ Ok (n, rest) → integer_at bytes ≡ Ok (pos n, rest)
unfolding integer_at
integer_by n first more rest bytes e low d =
    let back : digits_at 9223372036854775807 (first ∷ more) ≡ Ok (n, rest) = ap (digits_at 9223372036854775807) (sym e) ∙ d in
    rw (e, ne_eqb first 48 (λ e. absurd (omega (arith, e, low))), ne_eqb first 45 (λ e. absurd (omega (arith, e, low))), back) refl

pub integer_again : (n : ℤ) (rest : List ℕ) → IsInteger n → ends_number rest ≡ true → integer_at (signed_decimal n ++ rest) ≡ Ok (n, rest)
unfolding integer_at
integer_again (pos zero) rest h e = ap (λ (x : List ℕ). integer_at (x ++ rest)) (decimal_digit 0 (omega arith))
integer_again (pos (suc n)) rest h e =
    let p = led (suc n) (omega (arith, h)) (omega arith) in
    integer_by (suc n) p.0 (p.1 ++ rest) rest (decimal (suc n) ++ rest) (ap (λ (x : List ℕ). x ++ rest) p.2) p.3 (digits_again 9223372036854775807 (suc n) rest (omega arith) (omega (arith, h)) (omega (arith, h)) e)
integer_again (negsuc n) rest h e = negative_by n (decimal (suc n) ++ rest) rest (digits_again 9223372036854775808 (suc n) rest (omega arith) (omega (arith, h)) (omega (arith, h)) e)
