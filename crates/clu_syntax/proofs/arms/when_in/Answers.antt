use Rattle.std.proofs.Common.{refl}
use Rattle.clu_syntax.proofs.arms.when_in.Goals as goal

pub returns-clause-told : goal.returns-clause-told
returns-clause-told c = λ items n.
    rw (c.as_slice-2.ensures, c.taken_in.ensures.told items c.args.tree.now, c.body_in.ensures.told items, c.run.ensures.run, c.run.ensures.after, c.as_slice.ensures) refl
