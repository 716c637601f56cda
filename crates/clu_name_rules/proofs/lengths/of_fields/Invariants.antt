use Rattle.std.proofs.Common.{◌≡◌, drop}
use Rattle.std.specs.Prelude.{fold}
use Rattle.clu_name_rules.specs.Lengths.{with_field}
use Rattle.clu_name_rules.proofs.lengths.of_fields.Given as goal

abbrev pub invariant-loop-field : goal.invariant-loop-field
invariant-loop-field l = fold (with_field l.lengths) l.length (drop l.field-index l.fields) ≡ fold (with_field l.lengths) 0 l.fields
