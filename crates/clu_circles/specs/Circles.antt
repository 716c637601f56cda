-- What leads to what, what leads to a circle, and an order of all others.
use Rattle.std.specs.Prelude.{◌≡◌, ◌<◌, ◌≤◌, ℕ, zero, suc, Bool, true, false, List, length, slice_get, Some, Option}
use Rattle.clu_circles.specs.declared.states.Span.{Span}

-- all targets are numbers that have a span
abbrev pub AreInside : List (Option ℕ) → List Span → Type 0
AreInside targets spans = (at t : ℕ) → slice_get targets at ≡ Some (Some t) → t < length spans

-- the number k leads to t, which is one of the targets in its span
pub record Leads (targets : List (Option ℕ)) (spans : List Span) (k t : ℕ) : Type 0 where
  pub span : Span
  pub place : ℕ
  pub its : slice_get spans k ≡ Some span
  pub onward : span.from ≤ place
  pub before : place < span.to
  pub there : slice_get targets place ≡ Some (Some t)

-- from the number k one can go on for so many steps
unfoldable pub LeadsFor : List (Option ℕ) → List Span → ℕ → ℕ → Type 0
LeadsFor targets spans zero k = Unit {0}
LeadsFor targets spans (suc steps) k = (t : ℕ) × Leads targets spans k t × LeadsFor targets spans steps t

-- what is circular leads to something circular; all others stand once in the order, after all that they lead to
pub record AreCircles (targets : List (Option ℕ)) (spans : List Span) (order : List ℕ) (circular : List Bool) : Type 0 where
  pub size : length circular ≡ length spans
  pub circles : (k : ℕ) → slice_get circular k ≡ Some true → (t : ℕ) × Leads targets spans k t × (slice_get circular t ≡ Some true)
  pub listed : (k : ℕ) → slice_get circular k ≡ Some false → (p : ℕ) × (slice_get order p ≡ Some k)
  pub straight : (p k : ℕ) → slice_get order p ≡ Some k → slice_get circular k ≡ Some false
  pub after : (p k t : ℕ) → slice_get order p ≡ Some k → Leads targets spans k t → (q : ℕ) × (q < p) × (slice_get order q ≡ Some t)
  pub once : (p q k : ℕ) → slice_get order p ≡ Some k → slice_get order q ≡ Some k → p ≡ q
