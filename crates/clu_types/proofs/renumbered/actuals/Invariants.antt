use Rattle.std.proofs.Common.{◌≡◌, map, take}
use Rattle.clu_types.specs.Numbering.{numbers_of}
use Rattle.clu_types.specs.Renumbered.{actual_in}
use Rattle.clu_types.proofs.renumbered.actuals.Given as goal

abbrev pub invariant-loop-one : goal.invariant-loop-one
invariant-loop-one l = l.made.items ≡ map (actual_in (numbers_of l.table) l.given) (take l.one-index l.old)
