use Rattle.clu_passes.proofs.CountedTold.{by_has, by_in}
use Rattle.clu_passes.proofs.demand_rules.unmet_by_tables.Goals as goal

pub returns : goal.returns
returns c = record {
  v18 = λ headed scope library refused terms finding invocations lost sets tells asked up made found n plain there. by_has headed scope library refused terms finding invocations lost sets tells asked up made found n plain there;
  v20 = λ headed scope library refused terms finding invocations lost sets tells asked up made found n plain there. by_in headed scope library refused terms finding invocations lost sets tells asked up made found n plain there;
}
