use Rattle.std.proofs.Common.{◌≡◌, drop}
use Rattle.rv_select.specs.Operands.{free_among, has_free_among}
use Rattle.rv_select.proofs.operand.first_among.Given as goal

-- the first free one is among those that are left
abbrev pub invariant-loop-register : goal.invariant-loop-register
invariant-loop-register l =
    (free_among l.kept (drop l.register-index l.registers) ≡ free_among l.kept l.registers)
    × (has_free_among l.kept (drop l.register-index l.registers) ≡ has_free_among l.kept l.registers)
