-- Regions that are given to a builder, one after the other.
use Rattle.std.proofs.Common.{◌≡◌, ◌∙◌, ℕ, ◌+◌, ◌^◌, ◌<◌, List, [], ◌∷◌, ◌++◌, length, map, true, Option, Some, None, sym, ap, subst, arith, append_assoc, append-nil, length-append}
use Rattle.std.proofs.lemmas.Bool.{and_parts}
use Rattle.std.proofs.lemmas.List.{nil_from_length}
use Rattle.std.specs.Vec.Iter.{into_iter_items, into_iter_steps}
use Rattle.std.specs.declared.vec.IntoIter.{IntoIter}
use Rattle.clu_wir.specs.Adding.{Added, can_add, nests_behind}
use Rattle.clu_frames.specs.declared.steps.Planned.{Planned}
use Rattle.clu_frames.specs.Regions.{added_of}

-- those that are left can be added in turn, and are few
pub record Given (all so_far left : List Added) : Type 0 where
  pub whole : so_far ++ left ≡ all
  pub nested : nests_behind so_far left ≡ true
  pub few : length all < 2 ^ 32

pub given_fits : {all so_far left : List Added} {r : Added} → Given all so_far (r ∷ left) → can_add so_far r.first r.last r.parent ≡ true
given_fits {so_far} {left} {r} g = (and_parts (can_add so_far r.first r.last r.parent) (nests_behind (so_far ++ r ∷ []) left) g.nested).0

pub given_few : {all so_far left : List Added} {r : Added} → Given all so_far (r ∷ left) → length so_far + 1 < 2 ^ 32
given_few {so_far} {left} {r} g = omega (arith, g.few, ap {B = ℕ} length g.whole, length-append so_far (r ∷ left))

pub given_next : {all so_far left : List Added} {r : Added} → Given all so_far (r ∷ left) → Given all (so_far ++ r ∷ []) left
given_next {so_far} {left} {r} g = record {
  whole = append_assoc so_far (r ∷ []) left ∙ g.whole;
  nested = (and_parts (can_add so_far r.first r.last r.parent) (nests_behind (so_far ++ r ∷ []) left) g.nested).1;
  few = g.few;
}

-- The iterator over those that are planned.

pub next_given : {Z : Type 0} {all so_far : List Added} (s t : IntoIter Planned Z) (r : Option Planned) (p : Planned) → r ≡ Some p → into_iter_steps s r t
    → Given all so_far (map added_of (into_iter_items s)) → Given all so_far (added_of p ∷ map added_of (into_iter_items t))
next_given {Z} {all} {so_far} s t r p is steps g =
    let gives = (subst (λ (o : Option Planned). into_iter_steps s o t) is steps).0 in
    subst (λ (l : List Planned). Given all so_far (map added_of l)) gives g

pub all_given : {Z : Type 0} {all so_far : List Added} (s t : IntoIter Planned Z) (r : Option Planned) → r ≡ None → into_iter_steps s r t
    → Given all so_far (map added_of (into_iter_items s)) → so_far ≡ all
all_given {Z} {all} {so_far} s t r is steps g =
    let none = nil_from_length (into_iter_items s) (sym s.rest.ok.0 ∙ (subst (λ (o : Option Planned). into_iter_steps s o t) is steps).0) in
    sym (append-nil so_far) ∙ sym (ap (λ (l : List Planned). so_far ++ map added_of l) none) ∙ g.whole
