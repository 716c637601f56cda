use Rattle.std.proofs.Common.{◌≡◌, inr}
use Rattle.clu_asm.proofs.LineLemmas.{stop_code, other_code}
use Rattle.clu_asm.proofs.reading.read_code.Goals as goal

pub returns-in_default-clause-stops : goal.returns-in_default-clause-stops
returns-in_default-clause-stops c = inr (stop_code c.loop-line.rest.now (c.in_default.ensures {u = tt}).none)

pub returns-in_default-2-clause-stops : goal.returns-in_default-2-clause-stops
returns-in_default-2-clause-stops c =
    let first = c.in-Some.ensures {u = tt} in
    let found = (c.in_ok-w.ensures {u = tt}).none in
    inr (other_code c.loop-line.rest.now c.in-Some.line.now c.in-Some.after.now first.splits first.free (rw c.in_default-2.is at found))
