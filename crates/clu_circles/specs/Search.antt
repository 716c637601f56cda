-- The state of the search: what each number has come to, the stack of those that are begun, and the order so far.
use Rattle.std.specs.Prelude.{◌≡◌, ◌<◌, ◌≤◌, ◌+◌, ℕ, suc, Bool, true, false, if◌then◌else◌, List, [], ◌∷◌, length, set, slice_get, Option, Some, None}
use Rattle.clu_circles.specs.declared.states.Span.{Span}
use Rattle.clu_circles.specs.declared.states.State.{State}
use Rattle.clu_circles.specs.declared.states.State.TheVariants as state
use Rattle.clu_circles.specs.declared.states.Begun.{Begun}
use Rattle.clu_circles.specs.declared.states.Found.{Found}
use Rattle.clu_circles.specs.Circles.{Leads}

abbrev pub has_ended : State → Bool
has_ended state.Straight = true
has_ended _ = false

abbrev pub is_straight : Option State → Bool
is_straight (Some s) = has_ended s
is_straight None = false

abbrev pub is_untouched : State → Bool
is_untouched state.New = true
is_untouched _ = false

abbrev pub is_new : Option State → Bool
is_new (Some s) = is_untouched s
is_new None = false

abbrev pub is_circular : State → Bool
is_circular state.Circular = true
is_circular _ = false

-- the target at a place, if there is one that isn't straight
abbrev pub if_open : List State → ℕ → Option ℕ
if_open states t = if is_straight (slice_get states t) then None else Some t

abbrev pub open_target : List State → Option ℕ → Option ℕ
open_target states (Some t) = if_open states t
open_target states None = None

abbrev pub target_in : Option (Option ℕ) → Option ℕ
target_in (Some target) = target
target_in None = None

abbrev pub open_at : List State → List (Option ℕ) → ℕ → Option ℕ
open_at states targets place = open_target states (target_in (slice_get targets place))

-- the targets from one place up to another are straight
abbrev pub AreStraight : List State → List (Option ℕ) → ℕ → ℕ → Type 0
AreStraight states targets from to = (i : ℕ) → from ≤ i → i < to → open_at states targets i ≡ None

-- the target t at a place isn't straight, but all before it are
pub record IsOpenAt (states : List State) (targets : List (Option ℕ)) (from to place t : ℕ) : Type 0 where
  pub onward : from ≤ place
  pub before : place < to
  pub found : open_at states targets place ≡ Some t
  pub straight : AreStraight states targets from place

abbrev pub IsFirstOpen : List State → List (Option ℕ) → ℕ → ℕ → Option Found → Type 0
IsFirstOpen states targets from to None = AreStraight states targets from to
IsFirstOpen states targets from to (Some found) = IsOpenAt states targets from to found.place found.target

abbrev pub begun_at : ℕ → Option Span → Begun
begun_at number (Some span) = record { number = number; next = span.from }
begun_at number None = record { number = number; next = 0 }

abbrev pub marked : List State → List Begun → List State
marked states [] = states
marked states (b ∷ bs) = marked (set states b.number state.Circular) bs

-- what is circular leads to something circular; what is begun stands once on the stack, leads to the next one there, and
-- its targets up to a place are straight
pub record IsSearch (targets : List (Option ℕ)) (spans : List Span) (states : List State) (stack : List Begun) : Type 0 where
  pub size : length states ≡ length spans
  pub circles : (k : ℕ) → slice_get states k ≡ Some state.Circular → (t : ℕ) × Leads targets spans k t × (slice_get states t ≡ Some state.Circular)
  pub begun : (k : ℕ) → slice_get states k ≡ Some state.Begun → (j : ℕ) × (b : Begun) × (slice_get stack j ≡ Some b) × (b.number ≡ k)
  pub stacked : (j : ℕ) (b : Begun) → slice_get stack j ≡ Some b → slice_get states b.number ≡ Some state.Begun
  pub apart : (i j : ℕ) (b c : Begun) → slice_get stack i ≡ Some b → slice_get stack j ≡ Some c → b.number ≡ c.number → i ≡ j
  pub looked : (j : ℕ) (b : Begun) (span : Span) → slice_get stack j ≡ Some b → slice_get spans b.number ≡ Some span → (span.from ≤ b.next) × AreStraight states targets span.from b.next
  pub linked : (j : ℕ) (b c : Begun) → slice_get stack j ≡ Some b → slice_get stack (suc j) ≡ Some c → Leads targets spans b.number c.number

-- what is straight stands once in the order, after all that it leads to
pub record IsOrdered (targets : List (Option ℕ)) (spans : List Span) (states : List State) (order : List ℕ) : Type 0 where
  pub listed : (k : ℕ) → slice_get states k ≡ Some state.Straight → (p : ℕ) × (slice_get order p ≡ Some k)
  pub straight : (p k : ℕ) → slice_get order p ≡ Some k → slice_get states k ≡ Some state.Straight
  pub after : (p k t : ℕ) → slice_get order p ≡ Some k → Leads targets spans k t → (q : ℕ) × (q < p) × (slice_get order q ≡ Some t)
  pub once : (p q k : ℕ) → slice_get order p ≡ Some k → slice_get order q ≡ Some k → p ≡ q

-- nothing becomes new again
abbrev pub Fewer : List State → List State → Type 0
Fewer old new = (k : ℕ) → slice_get new k ≡ Some state.New → slice_get old k ≡ Some state.New

-- how much is left: each number is begun and comes to an end
abbrev pub left_of : State → ℕ
left_of state.New = 2
left_of state.Begun = 1
left_of state.Straight = 0
left_of state.Circular = 0

abbrev pub left_in : List State → ℕ
left_in [] = 0
left_in (s ∷ ss) = left_of s + left_in ss

-- what is straight stays so, and nothing else becomes so; less is left
pub record GoesOn (old new : List State) : Type 0 where
  pub straight : (k : ℕ) → slice_get new k ≡ Some state.Straight → slice_get old k ≡ Some state.Straight
  pub kept : (k : ℕ) → slice_get old k ≡ Some state.Straight → slice_get new k ≡ Some state.Straight
  pub fewer : Fewer old new
  pub less : left_in new < left_in old

-- the target t of the number on top stands at a place of its span and isn't straight, but all before it are
pub record Opens (targets : List (Option ℕ)) (spans : List Span) (states : List State) (top : Begun) (place t : ℕ) : Type 0 where
  pub span : Span
  pub its : slice_get spans top.number ≡ Some span
  pub opened : IsOpenAt states targets top.next span.to place t
