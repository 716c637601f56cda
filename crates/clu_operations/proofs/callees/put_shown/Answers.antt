use Rattle.clu_operations.proofs.Showing.{one_there, one_shown}
use Rattle.clu_operations.proofs.callees.put_shown.Goals as goal

pub returns-clause-there : goal.returns-clause-there
returns-clause-there c = one_there c.args.kept.now c.insert.new.self c.args.id c.in_ok-shown.shown c.in_ok-insert.ensures.updates

pub returns-clause-shown : goal.returns-clause-shown
returns-clause-shown c = λ below. one_shown _ c.args.kept.now c.insert.new.self c.args.id c.in_ok-shown.shown c.args.head.now.form c.in_ok-insert.ensures.updates (c.in_ok-shown.ensures.shown below)
