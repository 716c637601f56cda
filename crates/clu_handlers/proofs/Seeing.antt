-- What may be added to regions, told of them as they were added.
use Rattle.std.proofs.Common.{◌≡◌, ◌∙◌, ℕ, suc, List, drop, map, Bool, ◌&&◌, Option, Some, None, nat_le, slice_get, refl, ap}
use Rattle.std.specs.Prelude.{option_map}
use Rattle.std.specs.List.{list_all}
use Rattle.std.proofs.lemmas.List.{drop-map, length-map, map-append}
use Rattle.std.proofs.lemmas.List.Folds.{list_all-map}
use Rattle.std.proofs.lemmas.Option.{slice_get-map}
use Rattle.clu_wir.specs.Adding.{Added, can_add as may_add, is_apart as lies_apart, is_in as lies_in}
use Rattle.clu_handlers.specs.declared.region.Region.{Region}
use Rattle.clu_handlers.specs.Regions.{can_add, is_in}
use Rattle.clu_handlers.specs.Seen.{seen}

in_seen : (first last : ℕ) (o : Option Region) → lies_in first last (option_map seen o) ≡ is_in first last o
in_seen first last None = refl
in_seen first last (Some r) = refl

pub can_add_seen : (rs : List Region) (first last : ℕ) (parent : Option ℕ) → may_add (map seen rs) first last parent ≡ can_add rs first last parent
can_add_seen rs first last None = ap (λ (b : Bool). nat_le first last && b) (list_all-map (lies_apart first last) seen rs)
can_add_seen rs first last (Some p) =
    ap (λ (o : Option Added). nat_le first last && (lies_in first last o && list_all (lies_apart first last) (drop (suc p) (map seen rs)))) (slice_get-map seen rs p)
    ∙ ap (λ (b : Bool). nat_le first last && (b && list_all (lies_apart first last) (drop (suc p) (map seen rs)))) (in_seen first last (slice_get rs p))
    ∙ ap (λ (l : List Added). nat_le first last && (is_in first last (slice_get rs p) && list_all (lies_apart first last) l)) (drop-map seen (suc p) rs)
    ∙ ap (λ (b : Bool). nat_le first last && (is_in first last (slice_get rs p) && b)) (list_all-map (lies_apart first last) seen (drop (suc p) rs))

pub ruleset seeing = (can_add_seen, length-map, map-append)
