use Rattle.clu_settle.proofs.operators.int_in_range.Goals as goal

pub returns : goal.returns
returns c = c.ranges.int
