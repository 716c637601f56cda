-- What shortening makes of flat code and its regions.
use Rattle.std.specs.Prelude.{◌≡◌, IsTrue, List, map}
use Rattle.clu_frames.specs.declared.flat.Flat.{Flat}
use Rattle.clu_frames.specs.declared.flat.FlatRoutine.{FlatRoutine}
use Rattle.clu_handlers.specs.declared.region.Region.{Region}
use Rattle.clu_peep.specs.declared.places.Place.{Place}
use Rattle.clu_peep.specs.Left.{Leaves, begins, is_settled, places}
use Rattle.clu_peep.specs.Moved.{AreMoved}

-- all but the steps: the name, the size of the frame, the number of nodes, and what holes name
pub record HandsOn (before after : FlatRoutine) : Type 0 where
  pub name : after.name ≡ before.name
  pub frame : after.frame ≡ before.frame
  pub nodes : after.nodes ≡ before.nodes
  pub uses : after.uses.items ≡ before.uses.items
  pub constants : after.constants.items ≡ before.constants.items
  pub types : after.types.items ≡ before.types.items

-- the steps of the places that are left, none of which goes by a row, and the regions of these
pub record IsPeeped (code : List Flat) (regions : List Region) (shorter : List Flat) (moved : List Region) : Type 0 where
  pub left : List Place
  pub leaves : Leaves (places (begins regions) 0 code) left
  pub settled : IsTrue (is_settled left)
  pub steps : shorter ≡ map (λ (x : Place). x.step) left
  pub regions_are : AreMoved (map (λ (x : Place). x.number) left) regions moved
