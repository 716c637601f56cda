use Rattle.std.proofs.Common.{take}
use Rattle.clu_build.specs.Entering.{AreSame}
use Rattle.clu_build.proofs.specifications.ask_each.Given as goal

abbrev pub invariant-loop-spec : goal.invariant-loop-spec
invariant-loop-spec l = AreSame l.library (take l.spec-index l.specs)
