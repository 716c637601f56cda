use Rattle.clu_types.specs.Numbering.{numbers_of}
use Rattle.clu_types.proofs.Needing.{AreNeededFrom}
use Rattle.clu_types.proofs.arena.TypeArena.needed.Given as goal

abbrev pub invariant-types : goal.invariant-types
invariant-types l = AreNeededFrom l.self l.fn.t.0 l.least (numbers_of l.table)

abbrev pub decreases-types : goal.decreases-types
decreases-types l = l.least
