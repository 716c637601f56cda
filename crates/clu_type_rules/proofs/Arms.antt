-- No arm has a name that no node has.
use Rattle.std.proofs.Common.{◌≡◌, ◌∙◌, ℕ, zero, suc, Option, Some, None, refl, ap}
use Rattle.clu_syntax.specs.Rounds.{round_at}
use Rattle.clu_type_rules.specs.declared.known.Known.{Known}
use Rattle.clu_type_rules.specs.ExceptionRules.{arm_from}

none_from : (k : Known) (guard : Option ℕ) (left : ℕ) → arm_from k None guard left ≡ None
none_from k None left = refl
none_from k (Some e) zero = refl
none_from k (Some e) (suc left) = none_from k (round_at k.tables.file.rounds.now e).guard left

pub arm_of_none : (k : Known) (word guard : Option ℕ) (left : ℕ) → word ≡ None → arm_from k word guard left ≡ None
arm_of_none k word guard left is = ap (λ (w : Option ℕ). arm_from k w guard left) is ∙ none_from k guard left
