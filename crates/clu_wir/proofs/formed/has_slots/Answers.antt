use Rattle.std.proofs.Common.{rules}
use Rattle.clu_wir.proofs.Counts.{count_past, count_there}
use Rattle.clu_wir.proofs.formed.has_slots.Goals as goal

pub returns-in-Some : goal.returns-in-Some
returns-in-Some c =
    let slots = count_there c.args.arms.now c.args.arm c.in-Some.arm.now c.in-Some.ensures.lookup.3.0 c.in-Some.ensures.lookup.1 in
    rw slots (search rules)

pub returns-in-None : goal.returns-in-None
returns-in-None c =
    let past = count_past c.args.arms.now c.args.arm (search rules) in
    rw past (search rules)
