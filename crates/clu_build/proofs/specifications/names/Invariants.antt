use Rattle.std.proofs.Common.{◌≡◌, take}
use Rattle.clu_build.specs.Entering.{names_of}
use Rattle.clu_build.proofs.specifications.names.Given as goal

abbrev pub invariant-loop-spec : goal.invariant-loop-spec
invariant-loop-spec l = l.names.items ≡ names_of (take l.spec-index l.specs)
