use Rattle.std.proofs.Common.{◌≡◌, slice_get}
use Rattle.clu_frames.specs.Flattening.{all_guards, guards_of}
use Rattle.clu_frames.proofs.surroundings.Surroundings.guard.Given as goal

-- so many guards further out stands the one that is sought
abbrev pub invariant-loop-left : goal.invariant-loop-left
invariant-loop-left l = slice_get (all_guards l.guards) l.left ≡ slice_get (guards_of l.self) l.inside

abbrev pub decreases-loop-left : goal.decreases-loop-left
decreases-loop-left l = l.left
