use Rattle.std.proofs.Common.{◌≡◌, ℕ, List, length, sym, subst}
use Rattle.clu_tree.specs.declared.node.NodeKind.TheVariants as k
use Rattle.clu_tree.specs.Nodes.{modules}
use Rattle.clu_syntax.specs.Parts.{AreOf}
use Rattle.clu_syntax.proofs.Parts.{modules_are}
use Rattle.clu_syntax.proofs.syntax.Syntax.modules.Goals as goal

pub returns-clause-parts : goal.returns-clause-parts
returns-clause-parts c =
    let made = c.modules.ensures in
    let tree = c.self.view_is in
    let same : c.modules.result.now ≡ modules c.args.self.now = cc in
    subst (λ (ns : List ℕ). AreOf c.args.self.now k.Module (length c.args.self.now) ns) (sym same) (modules_are c.args.self.now)
