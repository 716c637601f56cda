use Rattle.std.proofs.Common.{◌≡◌, take}
use Rattle.clu_object.proofs.copy.copy_routines.Given as goal

abbrev pub invariant-loop-routine : goal.invariant-loop-routine
invariant-loop-routine l = l.copied.items ≡ take l.routine-index l.routines
