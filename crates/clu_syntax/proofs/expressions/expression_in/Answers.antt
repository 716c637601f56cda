use Rattle.std.proofs.Common.{◌∙◌, refl, arith}
use Rattle.std.proofs.lemmas.Grind.{common_steps}
use Rattle.clu_syntax.proofs.expressions.expression_in.Goals as goal

pub returns-in-Elems-clause-told : goal.returns-in-Elems-clause-told
returns-in-Elems-clause-told c = λ items n. c.elements_in.ensures.told items c.args.tree.now n ∙ rw (c.child-in-Elems.ensures.is, c.in-Elems.is, c.as_slice-children.ensures) (grind (arith, common_steps))
