use Rattle.std.proofs.Common.{◌∙◌, refl}
use Rattle.clu_syntax.proofs.modules.module_in.Goals as goal

pub returns-clause-told : goal.returns-clause-told
returns-clause-told c = λ items n. c.definition_in.ensures.told items c.args.tree.now n c.run.result.0.now ∙ rw (c.run.ensures.run, c.as_slice.ensures, c.last_child.ensures.is) refl
