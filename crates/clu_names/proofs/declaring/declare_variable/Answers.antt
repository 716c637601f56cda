use Rattle.std.proofs.Common.{◌≤◌, length, arith}
use Rattle.clu_names.proofs.Absent.{absent}
use Rattle.clu_names.proofs.declaring.declare_variable.Goals as goal

pub returns-then-p-len : goal.returns-then-p-len
returns-then-p-len c =
    let past : length c.args.tree.now ≤ c.in-Some.p = omega arith in
    absent c.args.list.now.items c.args.n c.args.child c.args.round.now c.args.tree.now c.args.round.now.parent c.in-Some.p c.in-Some.is past
