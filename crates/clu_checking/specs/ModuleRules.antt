-- The rules on modules: V33 ExportMissing, V34 EndName, V35 RoutineTooLarge.
use Rattle.std.specs.Prelude.{ℕ, ◌+◌, ◌&&◌, ◌||◌, nat_lt, not, Bool, false, List, map, get_or, bytes_eq, filter, fold}
use Rattle.std.specs.List.{list_any, list_all}
use Rattle.clu_tree.specs.Count.{counts}
use Rattle.clu_tree.specs.declared.node.NodeKind.{NodeKind}
use Rattle.clu_tree.specs.declared.node.NodeKind.TheVariants as kind
use Rattle.clu_syntax.specs.Syntax.{Identifier, Cluster}
use Rattle.clu_syntax.specs.Splits.{first_name, last_name}
use Rattle.clu_checking.specs.Files.{File, item, kind_in, is_kind, children, names}

abbrev pub is_routine_of : Cluster → Identifier → Bool
is_routine_of c name = list_any (λ r. bytes_eq r.name name) c.routines

abbrev pub sum : List ℕ → ℕ
sum ns = fold (λ a b. a + b) 0 ns

module _ (f : File) where
  abbrev pub is_definition : ℕ → Bool
  is_definition n = is_kind f kind.Routine n || is_kind f kind.Cluster n

  -- V33: an exported name is that of no routine of the cluster
  abbrev pub v33_in : NodeKind → ℕ → Bool
  v33_in kind.Cluster n = not (list_all (is_routine_of (item f n).cluster) (item f n).cluster.exports)
  v33_in _ n = false

  abbrev pub v33 : ℕ → Bool
  v33 n = v33_in (kind_in f n) n

  -- V34: the name after `end` differs
  abbrev pub v34 : ℕ → Bool
  v34 n = is_definition n && not (bytes_eq (first_name (names f n)) (last_name (names f n)))

  -- ---- V35: more than 4,000 nodes, of a routine or of a cluster's own declarations together

  abbrev pub count_at : ℕ → ℕ
  count_at n = get_or (counts f.nodes) n 0

  abbrev pub size_of : NodeKind → ℕ → ℕ
  size_of kind.Routine n = count_at n
  size_of kind.Cluster n = sum (map count_at (filter (is_kind f kind.Own) (children f n)))
  size_of _ n = 0

  abbrev pub v35 : ℕ → Bool
  v35 n = nat_lt 4000 (size_of (kind_in f n) n)
