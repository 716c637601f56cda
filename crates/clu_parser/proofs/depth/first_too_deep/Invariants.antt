use Rattle.clu_parser.specs.Depths.{AreDepths}
use Rattle.clu_parser.proofs.Deep.{IsFirstOf}
use Rattle.clu_parser.proofs.depth.first_too_deep.Given as goal

abbrev pub invariant-loop-n : goal.invariant-loop-n
invariant-loop-n l = AreDepths l.tree l.depths × IsFirstOf l.tree l.depths l.n l.first
