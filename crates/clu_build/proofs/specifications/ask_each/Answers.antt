use Rattle.clu_build.proofs.Adding.{same_all}
use Rattle.clu_build.proofs.specifications.ask_each.Goals as goal

pub returns-clause-same : goal.returns-clause-same
returns-clause-same c = same_all c.args.library.now c.args.specs.now c.loop-spec.spec-index c.loop-spec-test.false c.loop-spec.invariant
