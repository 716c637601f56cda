use Rattle.std.proofs.Common.{◌≡◌, ◌∙◌, List, Option, ap}
use Rattle.std.specs.Prelude.{find, is_some}
use Rattle.clu_base.specs.declared.rules.Rule.{Rule}
use Rattle.clu_tree.specs.declared.node.Node.{Node}
use Rattle.clu_syntax.specs.Kinds.{kind_at}
use Rattle.clu_type_rules.specs.Asked.{rules_at}
use Rattle.clu_check_mod.specs.Asking.{is_violated}
use Rattle.clu_check_mod.specs.Bad.{fault_of_all}
use Rattle.clu_check_mod.proofs.Ascending.{ascend_same}
use Rattle.clu_check_mod.proofs.bad.is_wrong.Goals as goal

pub returns : goal.returns
unfolding fault_of_all
returns c items values ascend =
    let nodes : List Node = c.args.k.now.tables.file.syntax.now in
    let same : c.rules_at.result.now ≡ rules_at (kind_at nodes c.args.n) = c.rules_at.ensures ∙ ap rules_at c.kind.ensures in
    let found : c.least.result ≡ find (is_violated c.args.k.now c.args.bad.now items c.args.n) (rules_at (kind_at nodes c.args.n)) =
    c.least.ensures.exact items values (ascend_same c.args.k.now c.args.n c.rules_at.result.now (rules_at (kind_at nodes c.args.n)) same ascend)
    ∙ ap (find (is_violated c.args.k.now c.args.bad.now items c.args.n)) same in
    c.is_some.ensures ∙ ap (λ (o : Option Rule). is_some o) found
