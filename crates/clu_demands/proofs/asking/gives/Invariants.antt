use Rattle.clu_types.specs.Arena.{type_at, types_of}
use Rattle.clu_demands.proofs.Answering.{GivesLeft}
use Rattle.clu_demands.proofs.asking.gives.Given as goal

abbrev pub invariant-loop-demand : goal.invariant-loop-demand
invariant-loop-demand l = GivesLeft (types_of l.types) l.given l.n l.op (type_at (types_of l.types) l.wanted) l.demand-index
