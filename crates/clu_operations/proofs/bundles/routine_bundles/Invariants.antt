use Rattle.std.proofs.Common.{take}
use Rattle.clu_operations.proofs.Bundling.{AreBundled}
use Rattle.clu_operations.proofs.bundles.routine_bundles.Given as goal

abbrev pub invariant-loop-routine : goal.invariant-loop-routine
invariant-loop-routine l = AreBundled l.fn.types l.routines l.types (take l.routine-index l.routines) l.made.items
