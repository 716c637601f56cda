use Rattle.std.proofs.Common.{◌≡◌, ◌+◌, ◌≤◌, drop}
use Rattle.clu_peep.specs.Moved.{count_true}
use Rattle.clu_peep.proofs.moving.count_true.Given as goal

abbrev pub invariant-loop-each : goal.invariant-loop-each
invariant-loop-each l = (l.count + count_true (drop l.each-index l.stays) ≡ count_true l.stays) × (l.count ≤ l.each-index)
