use Rattle.std.proofs.Common.{◌≡◌, drop}
use Rattle.std.specs.List.{list_all}
use Rattle.clu_object.specs.Objects.{is_routine}
use Rattle.clu_object.proofs.testing.are_routines.Given as goal

-- those that are left decide
abbrev pub invariant-loop-routine : goal.invariant-loop-routine
invariant-loop-routine l = list_all is_routine l.routines ≡ list_all is_routine (drop l.routine-index l.routines)
