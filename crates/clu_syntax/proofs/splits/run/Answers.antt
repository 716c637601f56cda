use Rattle.std.proofs.Common.{◌≡◌, ◌∙◌, ℕ, List, take, ap, sym, subst}
use Rattle.std.specs.Prelude.{All}
use Rattle.clu_syntax.specs.Kinds.{kind_at}
use Rattle.clu_syntax.proofs.Runs.{leading_kinds}
use Rattle.clu_syntax.proofs.splits.run.Goals as goal

pub returns-clause-kinds : goal.returns-clause-kinds
returns-clause-kinds c =
    subst (λ (cs : List ℕ). All (λ n. kind_at c.args.tree.now n ≡ c.args.kind) cs)
    (sym (c.split_at.ensures.front ∙ ap (λ (m : ℕ). take m c.args.children.now) c.leading.ensures.count))
    (leading_kinds c.args.tree.now c.args.kind c.args.children.now)
