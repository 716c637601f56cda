-- A number is circular exactly if one can go on from it for as many steps as there are numbers.
use Rattle.std.proofs.Common.{◌≡◌, ◌∙◌, ◌↔◌, ℕ, zero, suc, ◌<◌, ◌≤◌, Bool, true, false, eqb, List, [], ◌∷◌, length, Option, Some, refl, ap, sym, inl, inr, arith, eqb-true}
use Rattle.std.specs.Prelude.{slice_get}
use Rattle.std.specs.List.{IsDistinct, AllByRecursion, list_any}
use Rattle.std.proofs.lemmas.Option.{slice_get_within}
use Rattle.std.proofs.lemmas.Bool.{or_cases, true≢false, ne_eqb}
use Rattle.std.proofs.lemmas.Map.Steps.{length-le_from_distinct_below}
use Rattle.clu_circles.specs.declared.states.Span.{Span}
use Rattle.clu_circles.specs.Circles.{LeadsFor, AreCircles}
use Rattle.clu_circles.proofs.Places.{there}

-- ---- numbers that differ and are below n are at most n

all_by : (P : ℕ → Type 0) (xs : List ℕ) → ((i y : ℕ) → slice_get xs i ≡ Some y → P y) → AllByRecursion P xs
all_by P [] each = tt
all_by P (x ∷ xs) each = (each 0 x refl, all_by P xs (λ i y e. each (suc i) y e))

pub distinct : (xs : List ℕ) → ((p q k : ℕ) → slice_get xs p ≡ Some k → slice_get xs q ≡ Some k → p ≡ q) → IsDistinct eqb xs
unfolding IsDistinct
distinct [] once = tt
distinct (x ∷ xs) once = (
  all_by (λ y. eqb x y ≡ false) xs (λ i y e. ne_eqb x y (λ same. let h : 0 ≡ suc i = once 0 (suc i) x refl (e ∙ ap (λ (z : ℕ). Some z) (sym same)) in omega (arith, h))),
  distinct xs (λ p q k e f. let h : suc p ≡ suc q = once (suc p) (suc q) k e f in omega (arith, h)),
)

stands : (q : ℕ) (xs : List ℕ) → list_any (eqb q) xs ≡ true → (i : ℕ) × (slice_get xs i ≡ Some q)
stands q [] e = absurd (true≢false (sym e))
stands q (x ∷ xs) e = elim (or_cases (eqb q x) (list_any (eqb q) xs) e) [
  | inl here ↦ (0, ap (λ (z : ℕ). Some z) (sym (eqb-true q x here)))
  | inr more ↦ let s = stands q xs more in (suc s.0, s.1)
]

module _ (targets : List (Option ℕ)) (spans : List Span) (order : List ℕ) (circular : List Bool) where
  pub few : AreCircles targets spans order circular → length order ≤ length spans
  few a = length-le_from_distinct_below order (length spans) (distinct order a.once) (λ q e.
      let s = stands q order e in
      let l : q < length circular = slice_get_within circular q false (a.straight s.0 q s.1) in
      let size : length circular ≡ length spans = a.size in
      omega (arith, l, size))

  -- ---- roads

  goes_on : AreCircles targets spans order circular → (steps k : ℕ) → slice_get circular k ≡ Some true → LeadsFor targets spans steps k
  unfolding LeadsFor
  goes_on a zero k e = tt
  goes_on a (suc steps) k e = let c = a.circles k e in (c.0, c.1, goes_on a steps c.0 c.2)

  fewer : (m n k : ℕ) → m ≤ n → LeadsFor targets spans n k → LeadsFor targets spans m k
  unfolding LeadsFor
  fewer zero n k l road = tt
  fewer (suc m) zero k l road = absurd (omega (arith, l))
  fewer (suc m) (suc n) k l road = (road.0, road.1, fewer m n road.0 (omega (arith, l)) road.2)

  ends : AreCircles targets spans order circular → (n p k : ℕ) → p < n → slice_get order p ≡ Some k → LeadsFor targets spans (suc p) k → ⊥
  unfolding LeadsFor
  ends a zero p k l e road = absurd (omega (arith, l))
  ends a (suc n) p k l e road =
      let q = a.after p k road.0 e road.1 in
      let less : q.0 < p = q.1 in
      ends a n q.0 road.0 (omega (arith, l, less)) q.2 (fewer (suc q.0) p road.0 (omega (arith, less)) road.2)

  straight_ends : AreCircles targets spans order circular → (k : ℕ) → slice_get circular k ≡ Some false → LeadsFor targets spans (length spans) k → ⊥
  straight_ends a k e road =
      let p = a.listed k e in
      let l : p.0 < length order = slice_get_within order p.0 k p.1 in
      let most : length order ≤ length spans = few a in
      ends a (suc p.0) p.0 k (omega arith) p.1 (fewer (suc p.0) (length spans) k (omega (arith, l, most)) road)

  is_circular_by : AreCircles targets spans order circular → (k : ℕ) (b : Bool) → slice_get circular k ≡ Some b → LeadsFor targets spans (length spans) k → slice_get circular k ≡ Some true
  is_circular_by a k true e road = e
  is_circular_by a k false e road = absurd (straight_ends a k e road)

  pub exactly : AreCircles targets spans order circular → (k : ℕ) → k < length spans → (slice_get circular k ≡ Some true) ↔ LeadsFor targets spans (length spans) k
  exactly a k l =
      let size : length circular ≡ length spans = a.size in
      let b = there circular k (omega (arith, l, size)) in
      (λ e. goes_on a (length spans) k e, λ road. is_circular_by a k b.0 b.1 road)
