use Rattle.std.proofs.Common.{◌≡◌, take, map}
use Rattle.clu_demands.specs.Asking.{as_asked}
use Rattle.clu_demands.proofs.asking.asked_of.Given as goal

abbrev pub invariant-loop-need : goal.invariant-loop-need
invariant-loop-need l = l.made.items ≡ map as_asked (take l.need-index l.needs)
