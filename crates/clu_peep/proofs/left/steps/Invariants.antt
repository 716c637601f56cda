use Rattle.std.proofs.Common.{◌≡◌, ◌++◌, map}
use Rattle.std.specs.Vec.Iter.{into_iter_items}
use Rattle.clu_peep.specs.declared.places.Place.{Place}
use Rattle.clu_peep.proofs.left.steps.Given as goal

-- the steps of the places that are left are the others
abbrev pub invariant-loop-place : goal.invariant-loop-place
invariant-loop-place l = l.steps.items ++ map (λ (x : Place). x.step) (into_iter_items l.place-iterator) ≡ map (λ (x : Place). x.step) l.fn.places.items
