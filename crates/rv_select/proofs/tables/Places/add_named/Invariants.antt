use Rattle.std.proofs.Common.{◌≡◌, drop}
use Rattle.rv_select.specs.Tables.{named_behind}
use Rattle.rv_select.proofs.tables.Places.add_named.Given as goal

-- the arms and names that are left decide
abbrev pub invariant-loop-arm : goal.invariant-loop-arm
invariant-loop-arm l = named_behind l.self.code l.words.items (drop l.arm-index l.arms) l.names ≡ named_behind l.self.code l.fn.words.items l.arms l.fn.names
