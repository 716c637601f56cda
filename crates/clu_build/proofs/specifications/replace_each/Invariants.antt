use Rattle.std.proofs.Common.{take}
use Rattle.clu_build.specs.Entering.{AreReplaced}
use Rattle.clu_build.proofs.specifications.replace_each.Given as goal

abbrev pub invariant-loop-spec : goal.invariant-loop-spec
invariant-loop-spec l = AreReplaced l.initial.library (take l.spec-index l.specs) l.library
