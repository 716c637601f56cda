use Rattle.std.proofs.Common.{◌≡◌, drop, fold, map, max}
use Rattle.clu_wir.specs.Widths.{greatest, width_of, arm_width_of}
use Rattle.clu_wir.proofs.width.+widths.Given as goal

-- the statements that are left decide
abbrev pub invariant-list-loop-statement : goal.invariant-list-loop-statement
invariant-list-loop-statement l =
    fold max l.needed (map width_of (drop l.statement-index l.statements)) ≡ greatest (map width_of l.statements)

abbrev pub invariant-arms-loop-arm : goal.invariant-arms-loop-arm
invariant-arms-loop-arm l =
    fold max l.needed (map arm_width_of (drop l.arm-index l.arms)) ≡ greatest (map arm_width_of l.arms)
