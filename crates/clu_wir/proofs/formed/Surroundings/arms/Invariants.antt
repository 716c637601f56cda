use Rattle.std.proofs.Common.{◌≡◌, slice_get}
use Rattle.clu_wir.specs.Formed.{guards_of, standing_of}
use Rattle.clu_wir.proofs.formed.Surroundings.arms.Given as goal

-- so many guards further out stands the one that is sought
abbrev pub invariant-loop-left : goal.invariant-loop-left
invariant-loop-left l = slice_get (guards_of l.guards) l.left ≡ slice_get (standing_of l.self).guards l.inside

abbrev pub decreases-loop-left : goal.decreases-loop-left
decreases-loop-left l = l.left
