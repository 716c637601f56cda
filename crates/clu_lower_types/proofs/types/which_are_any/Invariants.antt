use Rattle.std.proofs.Common.{◌≡◌, map, take}
use Rattle.clu_types.specs.Arena.{type_at, types_of}
use Rattle.clu_types.specs.declared.term.TypeId.{TypeId}
use Rattle.clu_lower_types.specs.Types.{is_any}
use Rattle.clu_lower_types.proofs.types.which_are_any.Given as goal

abbrev pub invariant-loop-of : goal.invariant-loop-of
invariant-loop-of l = l.any.items ≡ map (λ (of : TypeId). is_any (type_at (types_of l.types) of)) (take l.of-index l.listed)
