-- The least limits that a run may have.
use Rattle.std.proofs.Common.{refl, arith}
use Rattle.rv_machine.specs.Limits.{Sizes, IsLimits}

abbrev pub small : Sizes
small = record { store = 4096; stack = 4096 }

pub small_limits : IsLimits small
small_limits = record { store = record { least = omega arith; most = omega arith; sixteens = refl }; stack = record { least = omega arith; most = omega arith; sixteens = refl } }
