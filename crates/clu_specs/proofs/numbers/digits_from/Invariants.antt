use Rattle.std.proofs.Common.{◌≡◌, ◌≤◌, drop}
use Rattle.clu_specs.specs.Numbers.{digits_from}
use Rattle.clu_specs.proofs.numbers.digits_from.Given as goal

abbrev pub invariant-loop-i : goal.invariant-loop-i
invariant-loop-i l = record {
  reads : digits_from l.limit l.number (drop l.i l.bytes) ≡ digits_from l.limit l.fn.read l.bytes;
  within : l.number ≤ l.limit;
}
