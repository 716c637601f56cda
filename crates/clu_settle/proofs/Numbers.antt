-- More digits make no smaller number.
use Rattle.std.proofs.Common.{◌≡◌, ℕ, ◌+◌, ◌-◌, ◌*◌, ◌≤◌, List, [], ◌∷◌, length, get_or, arith}
use Rattle.clu_meaning.specs.Constants.{number_after}

pub no_smaller : (n : ℕ) (digits : List ℕ) → n ≤ number_after n digits
no_smaller n [] = omega arith
no_smaller n (digit ∷ digits) =
    let more : 10 * n + (digit - 48) ≤ number_after (10 * n + (digit - 48)) digits = no_smaller (10 * n + (digit - 48)) digits in
    omega (arith, more)

-- a number that is too large with its next digit is so with all
pub too_large : (n : ℕ) (digits : List ℕ) (bound total : ℕ) → 1 ≤ length digits → number_after n digits ≡ total → bound ≤ 10 * n + (get_or digits 0 0 - 48) → bound ≤ total
too_large n [] bound total l e h = absurd (omega (arith, l))
too_large n (digit ∷ digits) bound total l e h =
    let more : 10 * n + (digit - 48) ≤ number_after (10 * n + (digit - 48)) digits = no_smaller (10 * n + (digit - 48)) digits in
    omega (arith, more, e, h)
