use Rattle.clu_passes.proofs.Invoked.{v11_is}
use Rattle.clu_passes.proofs.fact_rules.v11_by_facts.Goals as goal

pub returns : goal.returns
returns c = v11_is
