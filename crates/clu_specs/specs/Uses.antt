-- Uses: what an object file names of other modules and types.
use Rattle.std.specs.Prelude.{ℕ, ◌<◌}
use Rattle.clu_types.specs.Arena.{ActualsBelow}
use Rattle.clu_specs.specs.declared.read_uses.Target.{Target}
use Rattle.clu_specs.specs.declared.read_uses.Target.TheVariants as target

-- the types that the use names have numbers below n
abbrev pub TargetBelow : ℕ → Target → Type 0
TargetBelow n (target.Module name actuals) = ActualsBelow n actuals
TargetBelow n (target.Op id name) = id.0 < n
TargetBelow n (target.OwnSetUp id) = id.0 < n
TargetBelow n (target.ForceOf id) = id.0 < n
