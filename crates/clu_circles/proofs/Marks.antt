-- States, what is left of the search, and marking.
use Rattle.std.proofs.Common.{◌≡◌, ◌∙◌, ℕ, zero, suc, ◌+◌, ◌<◌, ◌≤◌, Bool, true, false, List, [], ◌∷◌, length, set, Option, Some, None, refl, ap, sym, subst, inl, inr, ◌⊎◌, arith, length-set}
use Rattle.std.specs.Prelude.{slice_get, if◌then◌else◌}
use Rattle.std.proofs.lemmas.Option.{none-some, same_Some, slice_get_within}
use Rattle.std.proofs.lemmas.Bool.{cases_eq, true≢false}
use Rattle.clu_circles.specs.declared.states.State.{State}
use Rattle.clu_circles.specs.declared.states.State.TheVariants as state
use Rattle.clu_circles.specs.declared.states.Begun.{Begun}
use Rattle.clu_circles.specs.Search.{marked, left_of, left_in, is_new as is_new_at, is_circular, is_straight, open_target, target_in, open_at, AreStraight}
use Rattle.clu_circles.proofs.Places.{set_here, set_there, set_cases}

-- ---- two states aren't the same

abbrev is_new : State → Bool
is_new state.New = true
is_new _ = false

abbrev is_begun : State → Bool
is_begun state.Begun = true
is_begun _ = false

pub new_begun : state.New ≡ state.Begun → ⊥
new_begun e = true≢false (ap is_new e)

pub new_straight : state.New ≡ state.Straight → ⊥
new_straight e = true≢false (ap is_new e)

pub new_circular : state.New ≡ state.Circular → ⊥
new_circular e = true≢false (ap is_new e)

pub begun_straight : state.Begun ≡ state.Straight → ⊥
begun_straight e = true≢false (ap is_begun e)

pub begun_circular : state.Begun ≡ state.Circular → ⊥
begun_circular e = true≢false (ap is_begun e)

pub straight_circular : state.Straight ≡ state.Circular → ⊥
straight_circular e = true≢false (sym (ap is_circular e))

-- a number has one state
pub one_state : (states : List State) (k : ℕ) (s t : State) → slice_get states k ≡ Some s → slice_get states k ≡ Some t → s ≡ t
one_state states k s t e f = same_Some s t (sym e ∙ f)

-- the same number
pub same_number : (states : List State) (i k : ℕ) (s : State) → i ≡ k → slice_get states i ≡ Some s → slice_get states k ≡ Some s
same_number states i k s same e = ap (slice_get states) (sym same) ∙ e

-- a number of another state isn't the one that is written
pub kept : (states : List State) (i k : ℕ) (s t v : State) → slice_get states i ≡ Some s → slice_get states k ≡ Some t → (s ≡ t → ⊥) → slice_get (set states i v) k ≡ Some t
kept states i k s t v e f other = set_there states i k v (λ same. other (one_state states k s t (same_number states i k s same e) f)) ∙ f

-- ---- targets that are straight

as_straight : (o : Option State) → is_straight o ≡ true → o ≡ Some state.Straight
as_straight None e = absurd (true≢false (sym e))
as_straight (Some state.New) e = absurd (true≢false (sym e))
as_straight (Some state.Begun) e = absurd (true≢false (sym e))
as_straight (Some state.Straight) e = refl
as_straight (Some state.Circular) e = absurd (true≢false (sym e))

if_none : (b : Bool) (t : ℕ) → (if b then None else Some t) ≡ None → b ≡ true
if_none true t e = refl
if_none false t e = absurd (none-some t (sym e))

if_some : (b : Bool) (t u : ℕ) → (if b then None else Some t) ≡ Some u → (b ≡ false) × (t ≡ u)
if_some true t u e = absurd (none-some u e)
if_some false t u e = (refl, same_Some t u e)

from_true : (b : Bool) (t : ℕ) → b ≡ true → (if b then None else Some t) ≡ None
from_true true t e = refl
from_true false t e = absurd (true≢false (sym e))

straight_in : (states : List State) (o : Option (Option ℕ)) (t : ℕ) → open_target states (target_in o) ≡ None → o ≡ Some (Some t) → slice_get states t ≡ Some state.Straight
straight_in states None t e is = absurd (none-some (Some t) is)
straight_in states (Some None) t e is = absurd (none-some t (same_Some None (Some t) is))
straight_in states (Some (Some u)) t e is =
    let same : u ≡ t = same_Some u t (same_Some (Some u) (Some t) is) in
    subst (λ (z : ℕ). slice_get states z ≡ Some state.Straight) same (as_straight (slice_get states u) (if_none (is_straight (slice_get states u)) u e))

-- a target in such a run is straight
pub straight_target : (states : List State) (targets : List (Option ℕ)) (place t : ℕ) → open_at states targets place ≡ None → slice_get targets place ≡ Some (Some t) → slice_get states t ≡ Some state.Straight
straight_target states targets place t e there = straight_in states (slice_get targets place) t e there

open_in : (states : List State) (o : Option (Option ℕ)) (t : ℕ) → open_target states (target_in o) ≡ Some t → (o ≡ Some (Some t)) × (is_straight (slice_get states t) ≡ false)
open_in states None t e = absurd (none-some t e)
open_in states (Some None) t e = absurd (none-some t e)
open_in states (Some (Some u)) t e =
    let is = if_some (is_straight (slice_get states u)) u t e in
    (ap (λ (z : ℕ). Some (Some z)) is.1, subst (λ (z : ℕ). is_straight (slice_get states z) ≡ false) is.1 is.0)

pub open_there : (states : List State) (targets : List (Option ℕ)) (place t : ℕ) → open_at states targets place ≡ Some t → (slice_get targets place ≡ Some (Some t)) × (is_straight (slice_get states t) ≡ false)
open_there states targets place t e = open_in states (slice_get targets place) t e

none_kept : (old new : List State) (o : Option (Option ℕ)) → ((t : ℕ) → slice_get old t ≡ Some state.Straight → slice_get new t ≡ Some state.Straight) → open_target old (target_in o) ≡ None → open_target new (target_in o) ≡ None
none_kept old new None h e = refl
none_kept old new (Some None) h e = refl
none_kept old new (Some (Some u)) h e = from_true (is_straight (slice_get new u)) u (ap is_straight (h u (as_straight (slice_get old u) (if_none (is_straight (slice_get old u)) u e))))

pub straight_kept : (old new : List State) (targets : List (Option ℕ)) (from to : ℕ) → ((t : ℕ) → slice_get old t ≡ Some state.Straight → slice_get new t ≡ Some state.Straight) → AreStraight old targets from to → AreStraight new targets from to
straight_kept old new targets from to h all i low high = none_kept old new (slice_get targets i) h (all i low high)

pub one_more : (states : List State) (targets : List (Option ℕ)) (from to : ℕ) → AreStraight states targets from to → open_at states targets to ≡ None → AreStraight states targets from (to + 1)
one_more states targets from to all here i low high = elim (cases_eq i to) [
  | inl same ↦ ap (open_at states targets) same ∙ here
  | inr other ↦ all i low (omega (arith, high, other))
]

-- ---- what is left

pub left_set : (ss : List State) (k : ℕ) (s v : State) → slice_get ss k ≡ Some s → left_in (set ss k v) + left_of s ≡ left_in ss + left_of v
left_set [] k s v e = absurd (none-some s e)
left_set (x ∷ ss) zero s v e = subst (λ (z : State). (left_of v + left_in ss) + left_of z ≡ (left_of x + left_in ss) + left_of v) (same_Some x s e) (omega arith)
left_set (x ∷ ss) (suc k) s v e = let ih : left_in (set ss k v) + left_of s ≡ left_in ss + left_of v = left_set ss k s v e in omega (arith, ih)

pub left_circular : (ss : List State) (k : ℕ) → left_in (set ss k state.Circular) ≤ left_in ss
left_circular [] k = omega arith
left_circular (x ∷ ss) zero = omega arith
left_circular (x ∷ ss) (suc k) = let ih : left_in (set ss k state.Circular) ≤ left_in ss = left_circular ss k in omega (arith, ih)

pub left_marked : (ss : List State) (bs : List Begun) → left_in (marked ss bs) ≤ left_in ss
left_marked ss [] = omega arith
left_marked ss (b ∷ bs) =
    let first : left_in (set ss b.number state.Circular) ≤ left_in ss = left_circular ss b.number in
    let rest : left_in (marked (set ss b.number state.Circular) bs) ≤ left_in (set ss b.number state.Circular) = left_marked (set ss b.number state.Circular) bs in
    omega (arith, first, rest)

pub left_closed : (ss : List State) (b : Begun) (bs : List Begun) → slice_get ss b.number ≡ Some state.Begun → left_in (marked ss (b ∷ bs)) < left_in ss
left_closed ss b bs e =
    let first : left_in (set ss b.number state.Circular) + 1 ≡ left_in ss + 0 = left_set ss b.number state.Begun state.Circular e in
    let rest : left_in (marked (set ss b.number state.Circular) bs) ≤ left_in (set ss b.number state.Circular) = left_marked (set ss b.number state.Circular) bs in
    omega (arith, first, rest)

-- ---- marking

pub marked_length : (ss : List State) (bs : List Begun) → length (marked ss bs) ≡ length ss
marked_length ss [] = refl
marked_length ss (b ∷ bs) = marked_length (set ss b.number state.Circular) bs ∙ length-set ss b.number state.Circular

set_circular : (ss : List State) (i k : ℕ) → slice_get ss k ≡ Some state.Circular → slice_get (set ss i state.Circular) k ≡ Some state.Circular
set_circular ss i k e = elim (cases_eq i k) [
  | inl same ↦ subst (λ (z : ℕ). slice_get (set ss i state.Circular) z ≡ Some state.Circular) same (set_here ss i state.Circular (subst (λ (z : ℕ). z < length ss) (sym same) (slice_get_within ss k state.Circular e)))
  | inr other ↦ set_there ss i k state.Circular other ∙ e
]

-- what is circular stays so
pub marked_still : (ss : List State) (bs : List Begun) (k : ℕ) → slice_get ss k ≡ Some state.Circular → slice_get (marked ss bs) k ≡ Some state.Circular
marked_still ss [] k e = e
marked_still ss (b ∷ bs) k e = marked_still (set ss b.number state.Circular) bs k (set_circular ss b.number k e)

-- each of the list becomes so
pub marked_hit : (ss : List State) (bs : List Begun) (j : ℕ) (b : Begun) → slice_get bs j ≡ Some b → b.number < length ss → slice_get (marked ss bs) b.number ≡ Some state.Circular
marked_hit ss [] j b e l = absurd (none-some b e)
marked_hit ss (c ∷ bs) zero b e l =
    let same : c ≡ b = same_Some c b e in
    marked_still (set ss c.number state.Circular) bs b.number (subst (λ (z : Begun). slice_get (set ss z.number state.Circular) b.number ≡ Some state.Circular) (sym same) (set_here ss b.number state.Circular l))
marked_hit ss (c ∷ bs) (suc j) b e l =
    let size : length (set ss c.number state.Circular) ≡ length ss = length-set ss c.number state.Circular in
    marked_hit (set ss c.number state.Circular) bs j b e (omega (arith, size, l))

-- nothing else changes
pub marked_from : (ss : List State) (bs : List Begun) (k : ℕ) (s : State) → slice_get (marked ss bs) k ≡ Some s → ((s ≡ state.Circular) × (j : ℕ) × (b : Begun) × (slice_get bs j ≡ Some b) × (b.number ≡ k)) ⊎ (slice_get ss k ≡ Some s)
marked_from ss [] k s e = inr e
marked_from ss (b ∷ bs) k s e = elim (marked_from (set ss b.number state.Circular) bs k s e) [
  | inl hit ↦ inl (hit.0, suc hit.1, hit.2, hit.3, hit.4)
  | inr before ↦ elim (set_cases ss b.number k state.Circular s before) [
    | inl here ↦ inl (here.1, 0, b, refl, here.0)
    | inr other ↦ inr other.1
  ]
]

pub marked_other : (ss : List State) (bs : List Begun) (k : ℕ) (s : State) → slice_get ss k ≡ Some s → ((j : ℕ) (b : Begun) → slice_get bs j ≡ Some b → b.number ≡ k → ⊥) → slice_get (marked ss bs) k ≡ Some s
marked_other ss [] k s e others = e
marked_other ss (b ∷ bs) k s e others = marked_other (set ss b.number state.Circular) bs k s (set_there ss b.number k state.Circular (λ same. others 0 b refl same) ∙ e) (λ j c h. others (suc j) c h)

-- ---- whether a number is new

new_in : (o : Option State) → is_new_at o ≡ true → o ≡ Some state.New
new_in None e = absurd (true≢false (sym e))
new_in (Some state.New) e = refl
new_in (Some state.Begun) e = absurd (true≢false (sym e))
new_in (Some state.Straight) e = absurd (true≢false (sym e))
new_in (Some state.Circular) e = absurd (true≢false (sym e))

pub as_new : (states : List State) (k : ℕ) → is_new_at (slice_get states k) ≡ true → slice_get states k ≡ Some state.New
as_new states k e = new_in (slice_get states k) e

pub not_new : (states : List State) (k : ℕ) → is_new_at (slice_get states k) ≡ false → slice_get states k ≡ Some state.New → ⊥
not_new states k e new = true≢false (sym (ap is_new_at new) ∙ e)

-- what is new after a number began was so before
pub begun_seen : (states : List State) (n k : ℕ) → slice_get (set states n state.Begun) k ≡ Some state.New → slice_get states k ≡ Some state.New
begun_seen states n k e = elim (set_cases states n k state.Begun state.New e) [ inl x ↦ absurd (new_begun x.1) | inr x ↦ x.1 ]

-- and the number itself isn't
pub begun_here : (states : List State) (n : ℕ) → slice_get states n ≡ Some state.New → slice_get (set states n state.Begun) n ≡ Some state.New → ⊥
begun_here states n new e = new_begun (one_state (set states n state.Begun) n state.New state.Begun e (set_here states n state.Begun (slice_get_within states n state.New new)))
