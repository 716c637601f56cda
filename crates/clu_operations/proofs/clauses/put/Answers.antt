use Rattle.std.proofs.Common.{refl}
use Rattle.clu_operations.proofs.Entered.{puts_one}
use Rattle.clu_operations.proofs.clauses.put.Goals as goal

pub returns : goal.returns
returns c = puts_one c.args.finding.now c.keep.new.self _ c.args.key c.args.wanted c.asked_count-from.result c.in_ok-found.found c.asked_count-from.ensures c.in_ok-found.ensures refl refl refl refl refl c.in_ok-insert.ensures.updates
