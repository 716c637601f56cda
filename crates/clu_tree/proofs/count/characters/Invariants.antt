use Rattle.std.proofs.Common.{◌≡◌, ◌+◌, ◌≤◌, length}
use Rattle.clu_tree.specs.Count.{characters}
use Rattle.clu_tree.proofs.count.characters.Given as goal

abbrev pub invariant-loop-text : goal.invariant-loop-text
invariant-loop-text l = (l.count + characters l.skip l.text ≡ characters 0 l.initial.text) × (l.count + length l.text ≤ length l.initial.text)

abbrev pub decreases-loop-text : goal.decreases-loop-text
decreases-loop-text l = length l.text
