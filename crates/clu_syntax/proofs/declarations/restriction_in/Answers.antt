use Rattle.std.proofs.Common.{◌∙◌, refl}
use Rattle.clu_syntax.proofs.declarations.restriction_in.Goals as goal

pub returns-clause-told : goal.returns-clause-told
returns-clause-told c = λ items n. c.restricted.ensures.told items c.args.tree.now n ∙ rw (c.as_slice.ensures, c.one_of.ensures.is, c.run.ensures.run, c.as_slice-children.ensures) refl
