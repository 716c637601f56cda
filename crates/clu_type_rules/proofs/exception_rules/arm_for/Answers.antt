use Rattle.std.proofs.Common.{◌≡◌, ◌∙◌, ℕ, ◌≤◌, List, [], ◌∷◌, length, get_or, ap, arith}
use Rattle.clu_syntax.specs.Rounds.{round_at}
use Rattle.clu_type_rules.specs.declared.known.Known.{Known}
use Rattle.clu_type_rules.specs.ExceptionRules.{number_of, arm_from, arm_named}
use Rattle.clu_type_rules.proofs.exception_rules.arm_for.Goals as goal

by_first : (k : Known) (n : ℕ) (names : List (List ℕ)) (name : List ℕ) → 1 ≤ length names → name ≡ get_or names 0 name
    → arm_from k (number_of k name) (round_at k.tables.file.rounds.now n).guard (length k.tables.file.rounds.now) ≡ arm_named k n names
by_first k n [] name some is = absurd (omega (arith, some))
by_first k n (x ∷ rest) name some is = ap (λ (its : List ℕ). arm_from k (number_of k its) (round_at k.tables.file.rounds.now n).guard (length k.tables.file.rounds.now)) is

pub returns-in-len1-up : goal.returns-in-len1-up
returns-in-len1-up c =
    c.arm_named.ensures
    ∙ by_first c.args.k.now c.args.n c.names.result.now c.name-item.result c.in-len1-up.len_at_least c.name-item.is
    ∙ ap (λ (names : List (List ℕ)). arm_named c.args.k.now c.args.n names) c.names.ensures
