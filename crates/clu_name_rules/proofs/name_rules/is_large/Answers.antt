use Rattle.std.proofs.Common.{◌≡◌, ◌∙◌, ◌⊎◌, ℕ, suc, ◌+◌, ◌-◌, ◌*◌, ◌<◌, ◌≤◌, min, nat_lt, Bool, true, List, [], ◌∷◌, drop, get_or, inl, inr, refl, sym, ap, arith, add-one}
use Rattle.std.proofs.Math.Seq.{drop-cons}
use Rattle.std.proofs.lemmas.Bool.{cases_lt, lt-ltb, ltb-true}
use Rattle.clu_name_rules.specs.NameRules.{number_after, is_large}
use Rattle.clu_name_rules.proofs.name_rules.is_large.Goals as goal

-- more digits make no number smaller
stays_above : (most n : ℕ) (digits : List ℕ) → most < n → nat_lt most (number_after n digits) ≡ true
stays_above most n [] above = lt-ltb most n above
stays_above most n (digit ∷ digits) above = stays_above most (10 * n + (digit - 48)) digits (omega (arith, above))

capped : (most cap n : ℕ) (digits : List ℕ) → most < cap → nat_lt most (number_after (min n cap) digits) ≡ nat_lt most (number_after n digits)
capped most cap n digits less = by (cases_lt n cap)
  where
    by : (n < cap) ⊎ (cap ≤ n) → nat_lt most (number_after (min n cap) digits) ≡ nat_lt most (number_after n digits)
    by (inl below) = let same : min n cap ≡ n = omega arith in ap (λ (k : ℕ). nat_lt most (number_after k digits)) same
    by (inr above) =
        let same : min n cap ≡ cap = omega arith in
        ap (λ (k : ℕ). nat_lt most (number_after k digits)) same ∙ stays_above most cap digits less ∙ sym (stays_above most n digits (omega arith))

pub loop-digit-preserved : goal.loop-digit-preserved
loop-digit-preserved c =
    let digits : List ℕ = c.args.digits.now in
    let at : ℕ = c.loop-digit.digit-index in
    let rest : List ℕ = drop (at + 1) digits in
    let step : drop at digits ≡ get_or digits at 0 ∷ rest = drop-cons digits at 0 c.loop-digit-test.true ∙ ap (λ (k : ℕ). get_or digits at 0 ∷ drop k digits) (sym (add-one at)) in
    ap (λ (k : ℕ). is_large (number_after k rest)) c.with_digit-number.ensures
    ∙ capped 9223372036854775807 18446744073709551615 (10 * c.loop-digit.number + (get_or digits at 0 - 48)) rest (ltb-true 9223372036854775807 18446744073709551615 refl)
    ∙ ap (λ (xs : List ℕ). is_large (number_after c.loop-digit.number xs)) (sym step)
    ∙ c.loop-digit.invariant
