-- Depth: how far a node stands below the file's node.
use Rattle.std.specs.Prelude.{◌≡◌, ℕ, ◌+◌, ◌<◌, ◌≤◌, ◌⊎◌, List, [], ◌∷◌, length, slice_get, slice_index, slice_set, Option, Some, None, MatchOption, Contains}
use Rattle.clu_base.specs.declared.tokens.Place.{Place}
use Rattle.clu_tree.specs.declared.node.Node.{Node}
use Rattle.clu_tree.specs.Nodes.{IsRoot}

-- a node without a parent has depth 0, any other is one deeper than its parent
pub data IsDepth (nodes : List Node) : ℕ → ℕ → Type 0 where
  top : (n : ℕ) → IsRoot nodes n → IsDepth nodes n 0
  below : (parent n depth : ℕ) (m : Node) → slice_get nodes parent ≡ Some m → Contains m.children n → IsDepth nodes parent depth → IsDepth nodes n (depth + 1)

-- the numbers are the depths of all nodes
pub record AreDepths (nodes : List Node) (depths : List ℕ) : Type 0 where
  pub size : length depths ≡ length nodes
  pub each : (n : ℕ) → n < length nodes → IsDepth nodes n (slice_index depths n)

-- each of the places has this number then
abbrev pub set_all : List ℕ → List ℕ → ℕ → List ℕ
set_all xs [] v = xs
set_all xs (n ∷ ns) v = set_all (slice_set xs n v) ns v

abbrev pub IsBefore : Place → Place → Type 0
IsBefore p q = (p.line < q.line) ⊎ ((p.line ≡ q.line) × (p.col < q.col))

abbrev pub IsNotBefore : Place → Place → Type 0
IsNotBefore p q = (q.line < p.line) ⊎ ((q.line ≡ p.line) × (q.col ≤ p.col))

abbrev pub IsPlaceOf : Option Node → Place → Type 0
IsPlaceOf None place = ⊥
IsPlaceOf (Some n) place = place ≡ n.place

-- of the first n nodes none is deeper than 200
abbrev pub AreShallow : List ℕ → ℕ → Type 0
AreShallow depths n = (k : ℕ) → k < n → slice_index depths k ≤ 200

-- of the first n nodes one that is deeper than 200 stands here, and none of them before
pub record IsFirstDeep (nodes : List Node) (depths : List ℕ) (n : ℕ) (place : Place) : Type 0 where
  pub node : ℕ
  pub within : node < n
  pub deep : 200 < slice_index depths node
  pub here : IsPlaceOf (slice_get nodes node) place
  pub first : (k : ℕ) (m : Node) → k < n → 200 < slice_index depths k → slice_get nodes k ≡ Some m → IsNotBefore m.place place

-- the first place in the text of a node that is deeper than 200, if there is one
abbrev pub IsFirstTooDeep : List Node → Option Place → Type 0
IsFirstTooDeep nodes first = (depths : List ℕ) × AreDepths nodes depths × MatchOption first (AreShallow depths (length nodes)) (IsFirstDeep nodes depths (length nodes))

-- the result is the earlier one
abbrev pub IsEarlier : Option Place → Place → Place → Type 0
IsEarlier None place result = result ≡ place
IsEarlier (Some found) place result = ((result ≡ place) × IsBefore place found) ⊎ ((result ≡ found) × IsNotBefore place found)
