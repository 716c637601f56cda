-- The rules on modules over the tables that they read: V33 ExportMissing, V34 EndName, V35 RoutineTooLarge.
use Rattle.std.specs.Prelude.{ℕ, ◌+◌, ◌&&◌, nat_lt, not, is_none, Bool, false, List, [], ◌∷◌, get_or, slice_get, if◌then◌else◌, Option, Some, None}
use Rattle.std.specs.List.{list_any}
use Rattle.std.specs.HashMap.{get}
use Rattle.clu_tree.specs.Count.{counts}
use Rattle.clu_tree.specs.declared.node.Node.{Node}
use Rattle.clu_tree.specs.declared.node.NodeKind.{NodeKind}
use Rattle.clu_tree.specs.declared.node.NodeKind.TheVariants as kind
use Rattle.clu_syntax.specs.Splits.{children_of}
use Rattle.clu_head.specs.There.{is_there}
use Rattle.clu_name_rules.specs.declared.repeated.Items.{Items}
use Rattle.clu_name_rules.specs.declared.repeated.ListKind.TheVariants as list
use Rattle.clu_name_rules.specs.Closed.{ends_as_named, is_definition}
use Rattle.clu_name_rules.specs.Repeated.{same, listed_name, exports_at}

-- ---- V33: an exported name is that of no routine of the cluster

-- `all` numbers the names
unfoldable pub lacks_routine : Items → List (List ℕ) → ℕ → List ℕ → Bool
lacks_routine items all n name = is_none (get same items.first (listed_name all n list.Routines name))

abbrev pub lacks_export : Items → List (List ℕ) → List Node → ℕ → Bool
lacks_export items all nodes n = list_any (lacks_routine items all n) (exports_at nodes n)

-- ---- V34: the name after `end` is another

abbrev pub is_ended_otherwise : Option Node → Bool
is_ended_otherwise (Some node) = is_definition node.kind && not (ends_as_named node)
is_ended_otherwise None = false

-- ---- V35: a routine, or the own variables of a cluster together, have too many nodes

module _ (nodes : List Node) where
  abbrev pub count_at : ℕ → ℕ
  count_at n = get_or (counts nodes) n 0

  abbrev pub own_count : ℕ → ℕ
  own_count n = if is_there kind.Own (slice_get nodes n) then count_at n else 0

  abbrev pub count_owns : List ℕ → ℕ
  count_owns [] = 0
  count_owns (n ∷ ns) = own_count n + count_owns ns

  abbrev pub size_of : NodeKind → ℕ → ℕ
  size_of kind.Routine n = count_at n
  size_of kind.Cluster n = count_owns (children_of (slice_get nodes n))
  size_of _ n = 0

  abbrev pub is_too_large : NodeKind → ℕ → Bool
  is_too_large kind n = nat_lt 4000 (size_of kind n)
