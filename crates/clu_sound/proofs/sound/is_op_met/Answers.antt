use Rattle.std.proofs.Common.{length}
use Rattle.clu_sound.proofs.Judging.{both_in}
use Rattle.clu_sound.proofs.sound.is_op_met.Goals as goal

pub is_given_met-requires-clause-given_in : goal.is_given_met-requires-clause-given_in
is_given_met-requires-clause-given_in c = rw c.in_ok-given.ensures (both_in (length c.args.types.now) c.args.op.now.demands c.args.demands.now c.requires.op_in.1 c.requires.demands_in)

pub returns-clause-met : goal.returns-clause-met
returns-clause-met c = rw (← c.in_ok-given.ensures) c.is_given_met.ensures.met
