use Rattle.std.proofs.Common.{◌≡◌, map, take}
use Rattle.clu_peep.specs.declared.places.Place.{Place}
use Rattle.clu_peep.proofs.left.numbers.Given as goal

abbrev pub invariant-loop-place : goal.invariant-loop-place
invariant-loop-place l = l.numbers.items ≡ map (λ (x : Place). x.number) (take l.place-index l.places)
