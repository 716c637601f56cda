use Rattle.clu_passes.proofs.InvokedLater.{invoked_later}
use Rattle.clu_passes.proofs.facts_noted.invoked_kept.Goals as goal

pub returns : goal.returns
returns c = λ t h scope library refused items first lost file tree terms facts arena known new grows finding follows. invoked_later t h scope library refused items first lost file tree terms facts arena known new grows finding follows
