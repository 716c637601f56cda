use Rattle.std.proofs.Common.{◌∙◌, refl}
use Rattle.clu_syntax.proofs.declarations.own_in.Goals as goal

pub returns-clause-told : goal.returns-clause-told
returns-clause-told c = λ items n. c.owned.ensures.told items c.args.tree.now n ∙ rw (c.as_slice-2.ensures, c.run.ensures.run, c.run.ensures.after, c.as_slice.ensures) refl
