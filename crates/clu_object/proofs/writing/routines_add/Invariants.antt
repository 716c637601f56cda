use Rattle.std.proofs.Common.{◌≡◌, ◌++◌, take}
use Rattle.std.specs.List.{flat_map}
use Rattle.clu_object.specs.ObjectFile.{routine_bytes}
use Rattle.clu_object.proofs.writing.routines_add.Given as goal

abbrev pub invariant-loop-routine : goal.invariant-loop-routine
invariant-loop-routine l = l.out.items ≡ l.initial.out.items ++ flat_map routine_bytes (take l.routine-index l.routines)
