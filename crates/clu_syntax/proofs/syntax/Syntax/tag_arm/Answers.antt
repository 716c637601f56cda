use Rattle.std.proofs.Common.{◌∙◌, refl, sym}
use Rattle.clu_tree.specs.declared.node.NodeKind.TheVariants as k
use Rattle.clu_syntax.proofs.Runs.{node_kind}
use Rattle.clu_syntax.proofs.syntax.Syntax.tag_arm.Goals as goal

pub returns-clause-told : goal.returns-clause-told
returns-clause-told c = λ items.
    c.tag_arm_in.ensures.told items c.args.n
    ∙ rw (c.node.ensures.node, node_kind c.args.self.now c.args.n c.node.result.now k.TagArm c.node.ensures.node c.requires.kind, sym c.self.view_is) refl
