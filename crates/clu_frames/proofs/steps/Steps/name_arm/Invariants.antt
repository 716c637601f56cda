use Rattle.std.proofs.Common.{◌≡◌, drop}
use Rattle.clu_frames.specs.Flattening.{made, named_onto}
use Rattle.clu_frames.proofs.steps.Steps.name_arm.Given as goal

-- the names that are left add the rest
abbrev pub invariant-loop-name : goal.invariant-loop-name
invariant-loop-name l = named_onto l.region l.mark (drop l.name-index l.names) (made l.self) ≡ named_onto l.region l.mark l.fn.names (made l.fn.self)
