use Rattle.std.proofs.Common.{◌↔◌, drop}
use Rattle.clu_types.specs.Arena.{FieldsBelow}
use Rattle.clu_types.proofs.arena.fields_below.Given as goal

-- those that are left decide
abbrev pub invariant-loop-field : goal.invariant-loop-field
invariant-loop-field l = FieldsBelow l.n (drop l.field-index l.fields) ↔ FieldsBelow l.n l.fields
