use Rattle.std.proofs.Common.{◌≡◌, ◌++◌, take}
use Rattle.clu_types.specs.PartsOf.{field_parts}
use Rattle.clu_types.proofs.components.push_fields.Given as goal

abbrev pub invariant-loop-field : goal.invariant-loop-field
invariant-loop-field l = l.parts.items ≡ l.initial.parts.items ++ field_parts (take l.field-index l.fields)
