use Rattle.std.proofs.Common.{◌-◌}
use Rattle.clu_types.specs.Numbering.{numbers_of}
use Rattle.clu_types.proofs.Tables.{AreMade}
use Rattle.clu_types.proofs.arena.TypeArena.make_needed.Given as goal

abbrev pub invariant-types : goal.invariant-types
invariant-types l = AreMade l.from l.actuals l.fn.self l.self (numbers_of l.fn.table) (numbers_of l.table) l.next

abbrev pub decreases-types : goal.decreases-types
decreases-types l = l.fn.t.0 - l.next
