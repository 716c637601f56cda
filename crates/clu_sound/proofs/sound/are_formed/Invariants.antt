use Rattle.std.proofs.Common.{◌≡◌, ◌<◌, ℕ, Some, slice_get}
use Rattle.clu_types.specs.declared.term.Term.{Term}
use Rattle.clu_sound.specs.Sound.{IsFormed}
use Rattle.clu_sound.proofs.sound.are_formed.Given as goal

abbrev pub invariant-loop-n : goal.invariant-loop-n
invariant-loop-n l = (k : ℕ) (t : Term) → k < l.n → slice_get l.spec.types k ≡ Some t → IsFormed l.specs l.spec.kinds t
