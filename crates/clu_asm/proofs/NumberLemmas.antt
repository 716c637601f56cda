-- The number that a text is: what is written of a number is read as that number, and nothing else is.

use Rattle.std.proofs.Common.{◌≡◌, ℕ, zero, suc, ◌+◌, ◌/◌, ◌%◌, ◌^◌, ◌<◌, ◌≤◌, ◌==◌, ◌&&◌, ◌≢◌, ◌⊎◌, nat_lt, Bool, true, false, cond, ℤ, pos, negsuc, List, [], ◌∷◌, ◌++◌, length, codes, decimal, Option, Some, None, refl, sym, ap, ◌∙◌, arith, inl, inr}
use Rattle.std.specs.Fmt.{signed_decimal}
use Rattle.std.specs.Prelude.{IfSome}
use Rattle.std.specs.Str.{bytes_eq}
use Rattle.std.specs.Str.Parse.{digits_value}
use Rattle.std.proofs.lemmas.Bool.{lt-ltb, ltb-true, ne_eqb}
use Rattle.std.proofs.lemmas.Fmt.{decimal_by_steps, decimal_is_IsNumeral}
use Rattle.std.proofs.lemmas.List.{append_cancel_left}
use Rattle.std.proofs.lemmas.Slice.Eq.{bytes_eq-Decides}
use lib.Signed.{mag}
use lib.IntN.{neg_ℤ}
use Rattle.clu_asm.specs.Candidates.{checked, value_of, number_of}

-- the first byte of a decimal is a digit
abbrev IsLed : ℕ → List ℕ → Type 0
IsLed n ds = (first : ℕ) × (more : List ℕ) × (ds ≡ first ∷ more) × (48 ≤ first) × (first ≤ 57)

led_one : (n : ℕ) → n < 10 → IsLed n ((48 + n) ∷ [])
led_one n lt = (48 + n, [], refl, omega arith, omega arith)

led_more : (n : ℕ) (ds : List ℕ) → 10 ≤ n → IsLed (n / 10) ds → IsLed n (ds ++ (48 + n % 10) ∷ [])
led_more n ds ten p = (p.0, p.1 ++ (48 + n % 10) ∷ [], ap (λ (x : List ℕ). x ++ (48 + n % 10) ∷ []) p.2, p.3, p.4)

led : (n : ℕ) → n < 2 ^ 64 → IsLed n (decimal n)
led n lt = decimal_by_steps IsLed led_one led_more n lt

plain_value : (ds : List ℕ) (first : ℕ) (more : List ℕ) → ds ≡ first ∷ more → 48 ≤ first → value_of ds ≡ pos (digits_value 10 ds)
plain_value ds first more e low =
    let other : (first == 45) ≡ false = ne_eqb first 45 (λ h. omega (arith, h, low)) in
    rw e (rw other refl)

value_again : (z : ℤ) → mag z < 2 ^ 31 → value_of (signed_decimal z) ≡ z
value_again (pos n) h =
    let p = led n (omega (arith, h)) in
    plain_value (decimal n) p.0 p.1 p.2 p.3 ∙ ap pos (decimal_is_IsNumeral n (omega (arith, h))).1
value_again (negsuc n) h = ap (λ (m : ℕ). neg_ℤ (pos m)) (decimal_is_IsNumeral (suc n) (omega (arith, h))).1

checked_same : (z : ℤ) → mag z < 2 ^ 31 → checked z (signed_decimal z) ≡ Some z
checked_same z h = rw (lt-ltb (mag z) (2 ^ 31) h, (bytes_eq-Decides (signed_decimal z) (signed_decimal z)).1 refl) refl

-- what is written of a number is read as that number
pub number_again : (z : ℤ) → mag z < 2 ^ 31 → number_of (signed_decimal z) ≡ Some z
unfolding number_of
number_again z h = ap (λ (v : ℤ). checked v (signed_decimal z)) (value_again z h) ∙ checked_same z h

-- a number that the text isn't of
checked_none : (z : ℤ) (text : List ℕ) → (mag z < 2 ^ 31 → text ≡ signed_decimal z → ⊥) → checked z text ≡ None
checked_none z text wrong = by (nat_lt (mag z) (2 ^ 31)) (bytes_eq (signed_decimal z) text) (ltb-true (mag z) (2 ^ 31)) (λ h. sym ((bytes_eq-Decides (signed_decimal z) text).0 h))
  where
    by : (s t : Bool) → (s ≡ true → mag z < 2 ^ 31) → (t ≡ true → text ≡ signed_decimal z) → cond (s && t) (Some z) None ≡ None
    by false t f g = refl
    by true false f g = refl
    by true true f g = absurd (wrong (f refl) (g refl))

-- no number has the text
pub number_none : (text : List ℕ) → ((z : ℤ) → mag z < 2 ^ 31 → text ≡ signed_decimal z → ⊥) → number_of text ≡ None
unfolding number_of
number_none text wrong = checked_none (value_of text) text (wrong (value_of text))

-- the only number that can have the text is the one that is read
pub checked_is : (n : ℤ) (text : List ℕ) → mag n < 2 ^ 31 → ((z : ℤ) → mag z < 2 ^ 31 → text ≡ signed_decimal z → n ≡ z) → checked n text ≡ number_of text
checked_is n text fits only = by (bytes_eq (signed_decimal n) text) (bytes_eq-Decides (signed_decimal n) text)
  where
    by : (t : Bool) → ((t ≡ true → signed_decimal n ≡ text) × (signed_decimal n ≡ text → t ≡ true)) → checked n text ≡ number_of text
    by true d = let e : signed_decimal n ≡ text = d.0 refl in rw (← e) (checked_same n fits ∙ sym (number_again n fits))
    by false d =
        let wrong : (z : ℤ) → mag z < 2 ^ 31 → text ≡ signed_decimal z → ⊥ = λ z h e. absurd (cc (d.1 (ap signed_decimal (only z h e) ∙ sym e))) in
        checked_none n text (wrong n) ∙ sym (number_none text wrong)

checked_some : (v z : ℤ) (text : List ℕ) → checked v text ≡ Some z → (text ≡ signed_decimal z) × (mag z < 2 ^ 31)
checked_some v z text e = by (nat_lt (mag v) (2 ^ 31)) (bytes_eq (signed_decimal v) text) (ltb-true (mag v) (2 ^ 31)) (λ h. sym ((bytes_eq-Decides (signed_decimal v) text).0 h)) e
  where
    by : (s t : Bool) → (s ≡ true → mag v < 2 ^ 31) → (t ≡ true → text ≡ signed_decimal v) → cond (s && t) (Some v) None ≡ Some z → (text ≡ signed_decimal z) × (mag z < 2 ^ 31)
    by false t f g e = absurd cc
    by true false f g e = absurd cc
    by true true f g e = let same : v ≡ z = cc in rw (← same) (g refl, f refl)

-- the text of the number that is read
pub number_is : (text : List ℕ) (z : ℤ) → number_of text ≡ Some z → (text ≡ signed_decimal z) × (mag z < 2 ^ 31)
unfolding number_of
number_is text z e = checked_some (value_of text) z text e

-- the text of an entry
pub entry_text : (o : Option ℕ) (z : ℤ) (text digits : List ℕ) → IfSome o (λ m. z ≡ pos m) → Some z ≡ number_of digits → text ≡ codes "entry " ++ digits
    → IfSome o (λ m. text ≡ codes "entry " ++ decimal m)
entry_text None z text digits e n t = tt
entry_text (Some m) z text digits e n t = t ∙ ap (λ (d : List ℕ). codes "entry " ++ d) ((number_is digits z (sym n)).0 ∙ ap signed_decimal e)

digits_are : (text digits : List ℕ) (n : ℕ) → text ≡ codes "entry " ++ digits → n < 16793600 → text ≡ codes "entry " ++ decimal n → number_of digits ≡ Some (pos n)
digits_are text digits n t lt e =
    let same : digits ≡ decimal n = append_cancel_left (codes "entry ") digits (decimal n) (sym t ∙ e) in
    ap number_of same ∙ number_again (pos n) (omega (arith, lt))

-- the number of an entry's text
pub entry_number_is : (z : ℤ) (text digits : List ℕ) (n : ℕ) → Some z ≡ number_of digits → text ≡ codes "entry " ++ digits → n < 16793600 → text ≡ codes "entry " ++ decimal n → z ≡ pos n
entry_number_is z text digits n read t lt e = let again = digits_are text digits n t lt e in cc (read, again)

pub entry_number_none : (text digits : List ℕ) (n : ℕ) → None ≡ number_of digits → text ≡ codes "entry " ++ digits → n < 16793600 → text ≡ codes "entry " ++ decimal n → ⊥
entry_number_none text digits n read t lt e = let again = digits_are text digits n t lt e in absurd (cc (read, again))
