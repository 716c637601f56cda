-- Regions nest by the test of clu_handlers.
use Rattle.std.proofs.Common.{◌≡◌, ℕ, zero, suc, ◌&&◌, nat_le, Bool, List, [], ◌∷◌, ◌++◌, length, drop, map, Option, Some, None, refl, sym, ap, ◌∙◌}
use Rattle.std.specs.Prelude.{slice_get}
use Rattle.std.specs.List.{list_all}
use Rattle.std.specs.Option.{option_map}
use Rattle.std.proofs.lemmas.List.{length-map, map-append}
use Rattle.std.proofs.lemmas.List.Folds.{list_all-map}
use Rattle.std.proofs.lemmas.Option.{slice_get-map}
use Rattle.clu_handlers.specs.declared.region.Region.{Region as Range}
use Rattle.clu_handlers.specs.Regions.{can_add, is_apart, is_in}
use Rattle.clu_object.specs.Nesting.{range_spans, nests, lies_apart, lies_round}

abbrev range_span : Range → ℕ × ℕ
range_span r = (r.first, r.last)

drop_map : (f : Range → ℕ × ℕ) (n : ℕ) (rs : List Range) → drop n (map f rs) ≡ map f (drop n rs)
drop_map f zero rs = refl
drop_map f (suc n) [] = refl
drop_map f (suc n) (r ∷ rs) = drop_map f n rs

round_is : (first last : ℕ) (o : Option Range) → lies_round first last (option_map range_span o) ≡ is_in first last o
round_is first last None = refl
round_is first last (Some r) = refl

pub nests_is : (rs : List Range) (first last : ℕ) (parent : Option ℕ) → can_add rs first last parent ≡ nests (range_spans rs) first last parent
nests_is rs first last None = ap (λ (b : Bool). nat_le first last && b) (sym (list_all-map (lies_apart first last) range_span rs))
nests_is rs first last (Some p) =
    let round : lies_round first last (slice_get (range_spans rs) p) ≡ is_in first last (slice_get rs p) = ap (lies_round first last) (slice_get-map range_span rs p) ∙ round_is first last (slice_get rs p) in
    let apart : list_all (lies_apart first last) (drop (suc p) (range_spans rs)) ≡ list_all (is_apart first last) (drop (suc p) rs) =
    ap (list_all (lies_apart first last)) (drop_map range_span (suc p) rs) ∙ list_all-map (lies_apart first last) range_span (drop (suc p) rs) in
    rw (round, apart) refl

pub spans_added : (rs : List Range) (r : Range) → range_spans (rs ++ r ∷ []) ≡ range_spans rs ++ (r.first, r.last) ∷ []
spans_added rs r = map-append range_span rs (r ∷ [])

pub spans_size : (rs : List Range) → length (range_spans rs) ≡ length rs
spans_size rs = length-map rs range_span
