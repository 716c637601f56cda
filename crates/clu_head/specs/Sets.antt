-- What equates say of type sets, and for which type set each declaration stands by the names of other equates.
use Rattle.std.specs.Prelude.{◌≡◌, ℕ, zero, suc, ◌+◌, ◌<◌, ◌&&◌, nat_lt, if◌then◌else◌, List, [], ◌∷◌, map, set, length, slice_get, Option, Some, None}
use Rattle.clu_tree.specs.declared.node.Node.{Node}
use Rattle.clu_tree.specs.declared.node.NodeKind.TheVariants as kind
use Rattle.clu_syntax.specs.Splits.{children_of}
use Rattle.clu_names.specs.declared.scopes.Declared.{Declared}
use Rattle.clu_names.specs.Denotes.{bound_at}
use Rattle.clu_circles.specs.declared.states.Span.{Span}
use Rattle.clu_head.specs.declared.sets.Said.{Said}
use Rattle.clu_head.specs.declared.sets.Said.TheVariants as said
use Rattle.clu_head.specs.There.{is_there}

-- a target is one of so many
abbrev pub IsBelow : ℕ → Option ℕ → Type 0
IsBelow n None = Unit {0}
IsBelow n (Some t) = t < n

-- ---- what equates say

-- the first of what the names of a node denote, and the second
abbrev pub first_in : List (Option ℕ) → Option ℕ
first_in [] = None
first_in (b ∷ bs) = b

abbrev pub second_in : List (Option ℕ) → Option ℕ
second_in (a ∷ b ∷ bs) = b
second_in _ = None

abbrev pub same_as : Option ℕ → Said
same_as (Some place) = said.Same place
same_as None = said.Nothing

module _ (nodes : List Node) (declared : List Declared) where
  abbrev pub first_meant : ℕ → Option ℕ
  first_meant n = first_in (bound_at declared n (slice_get nodes n))

  -- by the node of its right side
  unfoldable pub said_by : ℕ → Said
  said_by c = if is_there kind.TypeSet (slice_get nodes c) then said.Set c else if is_there kind.Name (slice_get nodes c) then same_as (first_meant c) else said.Nothing

  abbrev pub said_by_first : List ℕ → Said
  said_by_first [] = said.Nothing
  said_by_first (c ∷ cs) = said_by c

  -- of the node n, if it is an Equate
  unfoldable pub said_at : ℕ → Said
  said_at n = if is_there kind.Equate (slice_get nodes n) then said_by_first (children_of (slice_get nodes n)) else said.Nothing

  -- of each declaration
  abbrev pub said_of : List Declared → List Said
  said_of ds = map (λ d. said_at d.node) ds

-- the place to which an equate leads, if it is one of so many
abbrev pub target_of : ℕ → Said → Option ℕ
target_of many (said.Same place) = if nat_lt place many then Some place else None
target_of many _ = None

-- each span has the one target at its own place
abbrev pub AreOne : List Span → ℕ → Type 0
AreOne spans many = (k : ℕ) → k < many → slice_get spans k ≡ Some (record { from = k; to = k + 1 })

-- ---- for which sets they stand

-- what is kept at a place of a table
abbrev pub kept : Option (Option ℕ) → Option ℕ
kept (Some set) = set
kept None = None

abbrev pub kept_at : List (Option ℕ) → ℕ → Option ℕ
kept_at sets place = kept (slice_get sets place)

abbrev pub led_by : (ℕ → Option ℕ) → Option Said → Option ℕ
led_by on (Some (said.Set n)) = Some n
led_by on (Some (said.Same place)) = on place
led_by on (Some said.Nothing) = None
led_by on None = None

module _ (all : List Said) where
  -- the set for which the declaration at a place stands, in so many steps
  unfoldable pub led : ℕ → ℕ → Option ℕ
  led zero place = None
  led (suc steps) place = led_by (led steps) (slice_get all place)

  -- as many steps as there are declarations are enough
  abbrev pub set_led : ℕ → Option ℕ
  set_led place = led (length all) place

  unfoldable pub with_set : List (Option ℕ) → ℕ → List (Option ℕ)
  with_set sets place = if nat_lt place (length sets) && nat_lt place (length all) then set sets place (led_by (kept_at sets) (slice_get all place)) else sets
