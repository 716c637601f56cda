use Rattle.std.proofs.Common.{◌≡◌, drop}
use Rattle.clu_types.specs.Arena.{fields_at, types_of}
use Rattle.clu_lower_types.specs.Headings.{holds_any}
use Rattle.clu_lower_types.proofs.headings.holds_any.Given as goal

-- the fields that are left decide
abbrev pub invariant-loop-field : goal.invariant-loop-field
invariant-loop-field l =
    holds_any (fields_at (types_of l.c.types) (drop l.field-index l.fields)) l.selector
    ≡ holds_any (fields_at (types_of l.c.types) l.fields) l.selector
