use Rattle.std.proofs.Common.{◌≡◌, ◌∙◌, Bool, List, ap, sym}
use Rattle.std.specs.Prelude.{find}
use Rattle.clu_base.specs.declared.rules.Rule.{Rule}
use Rattle.clu_tree.specs.declared.node.Node.{Node}
use Rattle.clu_tree.specs.declared.node.NodeKind.{NodeKind}
use Rattle.clu_syntax.specs.declared.round.Round.{Round}
use Rattle.clu_syntax.specs.Kinds.{kind_at, kind_of}
use Rattle.clu_syntax.specs.Rounds.{round_at}
use Rattle.clu_check_mod.specs.Asking.{is_violated}
use Rattle.clu_check_mod.specs.Walks.{rules_of}
use Rattle.clu_check_mod.proofs.Ascending.{ascend_same}
use Rattle.clu_check_mod.proofs.walk.fault_at.Goals as goal

pub returns-clause-exact : goal.returns-clause-exact
returns-clause-exact c items values ascend =
    let nodes : List Node = c.args.k.now.tables.file.syntax.now in
    let rounds : List Round = c.args.k.now.tables.file.rounds.now in
    let its : kind_at nodes c.args.n ≡ c.args.node.now.kind = ap kind_of c.requires in
    let same : c.rules_asked.result.now ≡ rules_of c.args.walk (kind_at nodes c.args.n) (round_at rounds c.args.n).heading =
    c.rules_asked.ensures
    ∙ ap (λ (r : Round). rules_of c.args.walk c.args.node.now.kind r.heading) c.round-round.ensures
    ∙ ap (λ (k : NodeKind). rules_of c.args.walk k (round_at rounds c.args.n).heading) (sym its) in
    c.least.ensures.exact items values (ascend_same c.args.k.now c.args.n c.rules_asked.result.now (rules_of c.args.walk (kind_at nodes c.args.n) (round_at rounds c.args.n).heading) same ascend)
    ∙ ap (find (is_violated c.args.k.now c.args.bad.now items c.args.n)) same
