use Rattle.std.proofs.Common.{◌≡◌, map, take}
use Rattle.clu_types.specs.Numbering.{numbers_of}
use Rattle.clu_types.specs.Renumbered.{field_in}
use Rattle.clu_types.proofs.renumbered.fields.Given as goal

abbrev pub invariant-loop-field : goal.invariant-loop-field
invariant-loop-field l = l.made.items ≡ map (field_in (numbers_of l.table)) (take l.field-index l.old)
