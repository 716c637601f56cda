use Rattle.std.proofs.Common.{◌≡◌, map, take}
use Rattle.clu_types.specs.Arena.{type_at, types_of}
use Rattle.clu_types.specs.declared.term.TypeId.{TypeId}
use Rattle.clu_specs.specs.Texts.{type_text}
use Rattle.clu_lower_types.proofs.types.texts_of.Given as goal

abbrev pub invariant-loop-of : goal.invariant-loop-of
invariant-loop-of l = l.texts.items ≡ map (λ (of : TypeId). type_text (type_at (types_of l.types) of)) (take l.of-index l.listed)
