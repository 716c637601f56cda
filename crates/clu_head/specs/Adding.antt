-- Lists that are made item by item of the items of others.
use Rattle.std.specs.Prelude.{◌≡◌, List, ◌++◌}
use Rattle.std.specs.List.{AllZip}

-- what is appended is made of these
unfoldable pub Adds : {X Y : Type 0} → (X → Y → Type 0) → List X → List Y → List Y → Type 0
Adds {X} {Y} IsMadeOf xs old new = (made : List Y) × (new ≡ old ++ made) × AllZip IsMadeOf xs made
