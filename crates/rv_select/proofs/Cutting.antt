-- The cuts of regions by their ranges alone.
use Rattle.std.proofs.Common.{◌≡◌, ℕ, suc, ◌+◌, ◌*◌, ◌≤◌, ◌∙◌, List, [], ◌∷◌, ◌++◌, length, drop, refl, ap, sym, subst, append_assoc, append-nil}
use Rattle.std.proofs.lemmas.List.{drop_all}
use Rattle.clu_handlers.specs.Cuts as handlers
use Rattle.clu_handlers.specs.Cuts.{AreCuts, no_region}
use Rattle.clu_handlers.specs.declared.region.Cut.{Cut}
use Rattle.clu_handlers.specs.declared.region.Region.{Region as Ranged}
use Rattle.clu_object.specs.declared.object.Region.{Region}
use Rattle.rv_select.specs.Tables.{AreCutsOf, SameRanges, innermost_behind}

pub same_length : (ss : List Ranged) (rs : List Region) → SameRanges ss rs → length ss ≡ length rs
same_length [] [] s = refl
same_length [] (r ∷ rs) s = absurd s
same_length (a ∷ ss) [] s = absurd s
same_length (a ∷ ss) (r ∷ rs) s = ap suc (same_length ss rs s.2)

pub same_innermost : (ss : List Ranged) (rs : List Region) → SameRanges ss rs → (before n pc : ℕ) → handlers.innermost_behind before n ss pc ≡ innermost_behind before n rs pc
same_innermost [] [] s before n pc = refl
same_innermost [] (r ∷ rs) s before n pc = absurd s
same_innermost (a ∷ ss) (r ∷ rs) s before n pc = rw (s.0, s.1) (same_innermost ss rs s.2 _ (suc n) pc)
same_innermost (a ∷ ss) [] s before n pc = absurd s

pub cuts_of_ranges : (ss : List Ranged) (rs : List Region) (cuts : List Cut) → SameRanges ss rs → AreCuts ss cuts → AreCutsOf rs cuts
cuts_of_ranges ss rs cuts s c =
    record {
      start = c.start;
      ascend = c.ascend;
      few = subst (λ (n : ℕ). length cuts ≤ 2 * n + 1) (same_length ss rs s) c.few;
      innermost = λ pc within. c.innermost pc within ∙ same_innermost ss rs s no_region 0 pc;
    }

-- the ranges so far, with those of the regions that are left, are those of all regions
abbrev pub RangesSoFar : List Ranged → List Region → List Region → Type 0
RangesSoFar ranges left all = (tail : List Ranged) → SameRanges tail left → SameRanges (ranges ++ tail) all

pub ranges_with : (ranges : List Ranged) (x : Ranged) (r : Region) (left all : List Region) → x.first ≡ r.first → x.last ≡ r.last → RangesSoFar ranges (r ∷ left) all → RangesSoFar (ranges ++ x ∷ []) left all
ranges_with ranges x r left all first last so_far =
    λ tail same. subst (λ (l : List Ranged). SameRanges l all) (sym (append_assoc ranges (x ∷ []) tail)) (so_far (x ∷ tail) (first, last, same))

pub ranges_whole : (ranges : List Ranged) (all : List Region) (i : ℕ) → length all ≤ i → RangesSoFar ranges (drop i all) all → SameRanges ranges all
ranges_whole ranges all i whole so_far =
    let none : SameRanges [] (drop i all) = subst (λ (l : List Region). SameRanges [] l) (sym (drop_all i all whole)) tt in
    subst (λ (l : List Ranged). SameRanges l all) (append-nil ranges) (so_far [] none)
