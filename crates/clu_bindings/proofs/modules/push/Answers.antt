use Rattle.clu_bindings.proofs.Appending.{pushed}
use Rattle.clu_bindings.proofs.modules.push.Goals as goal

pub returns : goal.returns
returns c = λ all are. pushed c.args.modules.now _ c.args.name.now c.args.known c.count.result all are c.in_ok-push.ensures.items c.count.ensures c.in_ok-enter.ensures
