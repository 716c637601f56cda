use Rattle.std.proofs.Common.{◌≡◌, drop}
use Rattle.clu_operations.specs.Asking.{asks_of, with_needs}
use Rattle.clu_operations.proofs.builtins.push_needs.Given as goal

abbrev pub invariant-loop-need : goal.invariant-loop-need
invariant-loop-need l = with_needs (drop l.need-index l.needs) (asks_of l.words l.asked.items) ≡ with_needs l.needs (asks_of l.initial.words l.initial.asked.items)
