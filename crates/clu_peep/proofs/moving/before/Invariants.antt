use Rattle.std.proofs.Common.{◌≡◌, ◌+◌, ◌≤◌, drop}
use Rattle.clu_peep.specs.Moved.{before}
use Rattle.clu_peep.proofs.moving.before.Given as goal

abbrev pub invariant-loop-number : goal.invariant-loop-number
invariant-loop-number l = (l.count + before (drop l.number-index l.left) l.place ≡ before l.left l.place) × (l.count ≤ l.number-index)
