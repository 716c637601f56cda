use Rattle.std.proofs.Common.{◌≡◌, drop, fold, map, max}
use Rattle.clu_wir.specs.Widths.{greatest, slots_of}
use Rattle.clu_wir.proofs.+slots.Given as goal

-- the values that are left decide
abbrev pub invariant-width::all_slots-loop-value : goal.invariant-width::all_slots-loop-value
invariant-width::all_slots-loop-value l =
    fold max l.needed (map slots_of (drop l.value-index l.values)) ≡ greatest (map slots_of l.values)
