use Rattle.std.proofs.Common.{◌∙◌, ap}
use Rattle.clu_syntax.specs.Kinds.{kind_at}
use Rattle.clu_syntax.specs.Nodes.{equate_name, equated}
use Rattle.clu_syntax.specs.Views.{equated_told}
use Rattle.clu_syntax.proofs.declarations.equate_in.Goals as goal

pub returns-clause-told : goal.returns-clause-told
returns-clause-told c = λ items n.
    ap (λ name. equated_told items n name c.right_side.result) (c.name_of.ensures ∙ ap equate_name c.as_slice.ensures)
    ∙ c.right_side.ensures.told items c.args.tree.now n (equate_name c.args.node.now.names)
    ∙ ap (λ m. equated items c.args.tree.now n (equate_name c.args.node.now.names) (kind_at c.args.tree.now m) m) c.child.ensures.is
