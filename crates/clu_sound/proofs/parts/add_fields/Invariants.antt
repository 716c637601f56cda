use Rattle.std.proofs.Common.{◌≡◌, drop, fold}
use Rattle.clu_sound.specs.Parts.{with_field}
use Rattle.clu_sound.proofs.parts.add_fields.Given as goal

abbrev pub invariant-loop-field : goal.invariant-loop-field
invariant-loop-field l = fold with_field l.ids.keys (drop l.field-index l.fields) ≡ fold with_field l.initial.ids.keys l.fields
