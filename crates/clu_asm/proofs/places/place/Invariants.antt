use Rattle.std.proofs.Common.{◌≡◌, ◌+◌, drop}
use Rattle.clu_asm.specs.Places.{place}
use Rattle.clu_asm.proofs.places.place.Given as goal

abbrev pub invariant-loop-i : goal.invariant-loop-i
invariant-loop-i l = l.i + place l.mark (drop l.i l.text) ≡ place l.mark l.text
