use Rattle.std.proofs.Common.{◌≡◌, drop}
use Rattle.rv_select.specs.Tables.{others_behind}
use Rattle.rv_select.proofs.tables.Places.add_others.Given as goal

-- the arms that are left decide
abbrev pub invariant-loop-arm : goal.invariant-loop-arm
invariant-loop-arm l = others_behind l.self.code l.words.items (drop l.arm-index l.arms) ≡ others_behind l.self.code l.fn.words.items l.arms
