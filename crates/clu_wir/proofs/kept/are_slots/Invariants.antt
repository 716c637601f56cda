use Rattle.std.proofs.Common.{◌≡◌, drop}
use Rattle.clu_wir.specs.Kept.{are_slots}
use Rattle.clu_wir.proofs.kept.are_slots.Given as goal

-- the numbers that are left decide
abbrev pub invariant-loop-number : goal.invariant-loop-number
invariant-loop-number l = are_slots l.slots (drop l.number-index l.numbers) ≡ are_slots l.slots l.numbers
