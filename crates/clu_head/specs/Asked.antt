-- What the nodes of a file ask, as a table by node: of each node from where its own begin.
use Rattle.std.specs.Prelude.{ℕ, zero, suc, ◌+◌, ◌-◌, ◌&&◌, nat_le, if◌then◌else◌, List, [], ◌∷◌, ◌++◌, length, take, drop, slice_get, Option, Some, None}
use Rattle.clu_tree.specs.declared.node.Node.{Node}
use Rattle.clu_syntax.specs.declared.round.Round.{Round}
use Rattle.clu_head.specs.declared.head.Demanded.{Demanded}
use Rattle.clu_head.specs.declared.restricted.Restricted.{Restricted}
use Rattle.clu_head.specs.Asking.{asked_at, demands_by_all}

-- of the node n, but for types
unfoldable pub demands_at : List Node → List Round → List ℕ → List Restricted → ℕ → List Demanded
demands_at nodes rounds counts restricted n = demands_by_all nodes (asked_at nodes rounds counts restricted n)

module _ (of : ℕ → List Demanded) where
  -- of the nodes below n, one behind the other
  unfoldable pub demands_to : ℕ → List Demanded
  demands_to zero = []
  demands_to (suc n) = demands_to n ++ of n

  unfoldable pub starts_to : ℕ → List ℕ
  starts_to zero = []
  starts_to (suc n) = starts_to n ++ length (demands_to n) ∷ []

abbrev pub start_in : ℕ → Option ℕ → ℕ
start_in many (Some start) = start
start_in many None = many

-- the items from one place up to another; none if there is no such part
abbrev pub between : List Demanded → ℕ → ℕ → List Demanded
between items from to = if nat_le from to && nat_le to (length items) then take (to - from) (drop from items) else []

unfoldable pub demands_of : List Demanded → List ℕ → ℕ → List Demanded
demands_of demands starts n = between demands (start_in (length demands) (slice_get starts n)) (start_in (length demands) (slice_get starts (n + 1)))
