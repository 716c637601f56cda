-- What `parse` says of numerals.
use Rattle.std.proofs.Common.{◌≡◌, ◌<◌, ◌^◌, ℕ, Bool, true, List, [], ◌∷◌, Result, Ok, Err, length, rules, arith}
use Rattle.std.proofs.lemmas.Str.Parse.{IsNumeralModel, numerals_by_fold, parse_digits}
use Rattle.std.specs.Char.{is_ascii_digit}
use Rattle.std.specs.List.{list_all}
use Rattle.std.specs.Result.{OkIff}
use Rattle.std.specs.Str.Parse.{ParsesUnsigned}
use Rattle.clu_words.specs.Number.{is_numeral, number_after}

pub own : IsNumeralModel (λ ds. list_all is_ascii_digit ds ≡ true) (number_after 0)
own = numerals_by_fold _ (search rules) number_after (search rules)

-- a numeral parses to its number where that fits
pub numeral_parses : {E : Type 0} (text : List ℕ) (r : Result ℕ E) → ParsesUnsigned 64 10 text r → is_numeral text ≡ true → OkIff r (number_after 0 text < 2 ^ 64) (number_after 0 text)
numeral_parses {E} [] r parses numeral = absurd (cc)
numeral_parses {E} (digit ∷ digits) (Ok n) parses numeral = let h = parse_digits own {E = E} 64 (digit ∷ digits) (Ok n) parses numeral in (h.0.1, h.1)
numeral_parses {E} (digit ∷ digits) (Err e) parses numeral = λ fits. parse_digits own {E = E} 64 (digit ∷ digits) (Err e) parses numeral (omega arith, fits)

-- where there is a digit, a numeral is digits alone
pub numeral_of_some : (text : List ℕ) (digits : Bool) → 0 < length text → digits ≡ list_all is_ascii_digit text → digits ≡ is_numeral text
numeral_of_some [] digits some all = absurd (omega arith)
numeral_of_some (digit ∷ rest) digits some all = all
