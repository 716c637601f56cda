-- Registers by their numbers, and those that an evaluation leaves as they are.
use Rattle.std.proofs.Common.{◌≡◌, ◌∙◌, ◌≢◌, ℕ, ◌^◌, ◌<◌, ◌==◌, Bool, true, false, [], ◌∷◌, get_or, refl, ap, sym, subst, arith}
use Rattle.std.specs.Prelude.{bit_and, bit_or}
use Rattle.std.proofs.Common.{true≢false}
use Rattle.std.proofs.lemmas.Bool.Decides.{nat_tests}
use Rattle.std.proofs.lemmas.Bool.{eqb-true}
use Rattle.std.proofs.lemmas.Nat.{and_or_self, and_or_apart, pow_apart}
use Rattle.rv_select.specs.declared.register.Register.{Register}
use Rattle.rv_select.specs.declared.register.Register.TheVariants as register
use Rattle.rv_select.specs.Registers.{register_number}
use Rattle.rv_select.specs.Operands.{bit}
use Rattle.laws_selection.specs.Registers.{has_bit, is_far, is_work, stays, stays_by}

abbrev register_at : ℕ → Register
register_at n = get_or (register.Zero ∷ register.Back ∷ register.Top ∷ register.Store ∷ register.StoreEnd ∷ register.First ∷ register.Second ∷ register.Caller ∷ register.StackEnd ∷ register.Table ∷ register.Value ∷ register.Words ∷ register.A2 ∷ register.A3 ∷ register.A4 ∷ register.A5 ∷ register.A6 ∷ register.Service ∷ register.Frame ∷ register.S3 ∷ register.S4 ∷ register.S5 ∷ register.S6 ∷ register.S7 ∷ register.S8 ∷ register.S9 ∷ register.S10 ∷ register.S11 ∷ register.T3 ∷ register.T4 ∷ register.T5 ∷ register.Far ∷ []) n register.Far

at_number : (r : Register) → register_at (register_number r) ≡ r
at_number register.Zero = refl
at_number _ = refl

pub number_same : (q r : Register) → register_number q ≡ register_number r → q ≡ r
number_same q r e = sym (at_number q) ∙ ap register_at e ∙ at_number r

pub number_small : (r : Register) → register_number r < 32
number_small register.Zero = omega arith
number_small _ = omega arith

-- Sets of registers.

bit_is : (r : Register) → bit r ≡ 2 ^ register_number r
bit_is register.Zero = refl
bit_is _ = refl

bit_some : (r : Register) → (bit r == 0) ≡ false
bit_some register.Zero = refl
bit_some _ = refl

pub has_own : (kept : ℕ) (r : Register) → has_bit (bit_or kept (bit r)) r ≡ true
has_own kept r = rw (and_or_self (bit r) kept, bit_some r) refl

has_more_by : (kept : ℕ) (q r : Register) → (b : Bool) → (register_number q == register_number r) ≡ b → has_bit kept q ≡ true → has_bit (bit_or kept (bit r)) q ≡ true
has_more_by kept q r true e h = subst (λ (x : Register). has_bit (bit_or kept (bit r)) x ≡ true) (sym (number_same q r (eqb-true _ _ e))) (has_own kept r)
has_more_by kept q r false e h =
    let apart : register_number r ≢ register_number q = λ same. true≢false (sym (grind (arith, nat_tests, same)) ∙ e) in
    let zero : bit_and (bit r) (bit q) ≡ 0 = rw (bit_is r, bit_is q) (pow_apart (register_number r) (register_number q) apart) in
    rw (and_or_apart (bit q) kept (bit r) zero) h

pub has_more : (kept : ℕ) (q r : Register) → has_bit kept q ≡ true → has_bit (bit_or kept (bit r)) q ≡ true
has_more kept q r h = has_more_by kept q r (register_number q == register_number r) refl h

stays_more_by : (kept : ℕ) (q r : Register) (b c : Bool) → stays_by b c (has_bit kept q) ≡ true → stays_by b c (has_bit (bit_or kept (bit r)) q) ≡ true
stays_more_by kept q r true c h = has_more kept q r h
stays_more_by kept q r false c h = h

pub stays_more : (kept : ℕ) (q r : Register) → stays kept q ≡ true → stays (bit_or kept (bit r)) q ≡ true
unfolding stays
stays_more kept q r h = stays_more_by kept q r (is_work q) (is_far q) h

stays_own_by : (kept : ℕ) (r : Register) (b c : Bool) → c ≡ false → stays_by b c (has_bit (bit_or kept (bit r)) r) ≡ true
stays_own_by kept r true c e = has_own kept r
stays_own_by kept r false c e = rw e refl

pub stays_own : (kept : ℕ) (r : Register) → is_far r ≡ false → stays (bit_or kept (bit r)) r ≡ true
unfolding stays
stays_own kept r e = stays_own_by kept r (is_work r) (is_far r) e

-- more registers of a set of none stay
pub stays_none : (kept : ℕ) (q : Register) → stays kept q ≡ true → stays (bit_or kept 0) q ≡ true
unfolding stays
stays_none kept q h = rw (and_or_apart (bit q) kept 0 (search arith)) h

stays_any_by : (kept : ℕ) (r : Register) (b c : Bool) → stays_by b c (has_bit 0 r) ≡ true → stays_by b c (has_bit kept r) ≡ true
stays_any_by kept r true c h = absurd (true≢false (sym h ∙ none r))
  where
    none : (r : Register) → has_bit 0 r ≡ false
    none register.Zero = refl
    none _ = refl
stays_any_by kept r false c h = h

-- what stays if nothing is kept stays in any case
pub stays_any : (kept : ℕ) (r : Register) → stays 0 r ≡ true → stays kept r ≡ true
unfolding stays
stays_any kept r h = stays_any_by kept r (is_work r) (is_far r) h
