use Rattle.std.proofs.Common.{◌≡◌, map, take}
use Rattle.clu_types.specs.Numbering.{numbers_of}
use Rattle.clu_types.specs.Renumbered.{number_in}
use Rattle.clu_types.proofs.renumbered.ids.Given as goal

abbrev pub invariant-loop-id : goal.invariant-loop-id
invariant-loop-id l = l.made.items ≡ map (number_in (numbers_of l.table)) (take l.id-index l.old)
