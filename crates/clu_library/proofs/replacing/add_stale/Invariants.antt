use Rattle.std.proofs.Common.{take}
use Rattle.std.specs.Option.{option_copied}
use Rattle.clu_library.specs.Replacing.{AreStaleOf}
use Rattle.clu_library.specs.Resting.{with_changed}
use Rattle.clu_library.proofs.replacing.add_stale.Given as goal

abbrev pub invariant-loop-kept : goal.invariant-loop-kept
invariant-loop-kept l = AreStaleOf (with_changed l.specs (option_copied l.changed)) l.changes (take l.kept-index l.bodies) l.initial.lost.keys l.lost.keys
