-- What stands round a statement in the code, as well formed word code asks it.
use Rattle.std.specs.Prelude.{ℕ, List, map, is_some}
use Rattle.clu_wir.specs.Formed.{Standing, counts_of}
use Rattle.clu_frames.specs.declared.surroundings.Guard.{Guard}
use Rattle.clu_frames.specs.declared.surroundings.Surroundings.{Surroundings}
use Rattle.clu_frames.specs.Flattening.{guards_of}

abbrev pub arms_of : Guard → List ℕ
arms_of guard = counts_of guard.arms.now

abbrev pub standing_of : Surroundings → Standing
standing_of s = record { constants = s.constants.now; in_loop = is_some s.turns; guards = map arms_of (guards_of s) }
