-- How the regions of a routine lie, by the first and the last code word of each.
use Rattle.std.specs.Prelude.{ℕ, suc, Bool, false, ◌&&◌, ◌||◌, nat_lt, nat_le, List, drop, map, Option, Some, None, slice_get}
use Rattle.std.specs.List.{list_all}
use Rattle.clu_handlers.specs.declared.region.Region.{Region as Range}
use Rattle.clu_object.specs.declared.object.Region.{Region}

abbrev pub span : Region → ℕ × ℕ
span r = (r.first, r.last)

abbrev pub spans : List Region → List (ℕ × ℕ)
spans regions = map span regions

-- the same of the regions by which clu_handlers asks
abbrev pub range_spans : List Range → List (ℕ × ℕ)
range_spans ranges = map (λ r. (r.first, r.last)) ranges

-- whether a span lies wholly outside the places from `first` to `last`, and whether it holds them
abbrev pub lies_apart : ℕ → ℕ → ℕ × ℕ → Bool
lies_apart first last s = nat_lt s.1 first || nat_lt last s.0

abbrev pub lies_round : ℕ → ℕ → Option (ℕ × ℕ) → Bool
lies_round first last None = false
lies_round first last (Some s) = nat_le s.0 first && nat_le last s.1

-- whether a region lies in its parent, one of those before it, and apart from each that is neither this nor round it
abbrev pub nests : List (ℕ × ℕ) → ℕ → ℕ → Option ℕ → Bool
nests before first last None = nat_le first last && list_all (lies_apart first last) before
nests before first last (Some parent) =
    nat_le first last && (lies_round first last (slice_get before parent) && list_all (lies_apart first last) (drop (suc parent) before))
