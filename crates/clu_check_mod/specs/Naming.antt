-- The other modules that a module's text names, ascending and each once.
use Rattle.std.specs.Prelude.{◌≡◌, ℕ, ◌-◌, ◌&&◌, ◌||◌, nat_lt, Bool, true, List, [], fold, is_none, map, slice_get, if◌then◌else◌, Option, Some, None}
use Rattle.std.specs.BTreeSet.{insert_key}
use Rattle.std.specs.Cmp.Lexicographic.{slice_cmp}
use Rattle.std.specs.List.{range_with_len}
use Rattle.std.specs.Ordering.{nat_cmp}
use Rattle.clu_tree.specs.declared.node.Node.{Node}
use Rattle.clu_tree.specs.declared.node.NodeKind.{NodeKind}
use Rattle.clu_tree.specs.declared.node.NodeKind.TheVariants as kind
use Rattle.clu_tree.specs.Nodes.{modules}
use Rattle.clu_syntax.specs.declared.round.Round.{Round}
use Rattle.clu_syntax.specs.Rounds.{AreRounds, round_at}
use Rattle.clu_names.specs.declared.scopes.Declared.{Declared}
use Rattle.clu_names.specs.Denotes.{found}
use Rattle.clu_names.specs.Scopes.{declarations, is_stream}

-- the name at a node that may be that of a module
abbrev pub used_by : NodeKind → List (List ℕ) → Option (List ℕ)
used_by kind.Name names = slice_get names 0
used_by kind.NameT names = slice_get names 0
used_by _ names = None

abbrev pub used_at : Option Node → Option (List ℕ)
used_at (Some node) = used_by node.kind node.names
used_at None = None

-- this declares a module, and not the one at the nodes from first to last
abbrev pub declares_other : ℕ → ℕ → Declared → Bool
declares_other first last d = is_none d.unit && (nat_lt d.node first || nat_lt last d.node)

abbrev pub is_other : ℕ → ℕ → Option Declared → Bool
is_other first last (Some d) = declares_other first last d
is_other first last None = true

-- what a name denotes is another module of the file, or nothing in it, as a module of the library
abbrev pub is_other_module : List Declared → ℕ → ℕ → Option ℕ → Bool
is_other_module declared first last (Some at) = is_other first last (slice_get declared at)
is_other_module declared first last None = true

-- each name once, in ascending order; the type stream is no module
abbrev pub with_name : List (List ℕ) → List ℕ → List (List ℕ)
with_name names name = if is_stream name then names else insert_key (slice_cmp nat_cmp) names name

abbrev pub with_some : List (List ℕ) → Option (List ℕ) → List (List ℕ)
with_some names (Some name) = with_name names name
with_some names None = names

module _ (nodes : List Node) (declared : List Declared) (first last : ℕ) where
  -- the name at the node n, if it is that of another module, or `stream`
  abbrev pub other_name : ℕ → Option (List ℕ) → Option (List ℕ)
  other_name n (Some name) = if is_other_module declared first last (found declared name n) then Some name else None
  other_name n None = None

  abbrev pub other_at : ℕ → Option (List ℕ)
  other_at n = other_name n (used_at (slice_get nodes n))

  abbrev pub with_other : List (List ℕ) → ℕ → List (List ℕ)
  with_other names n = with_some names (other_at n)

  -- with what the nodes from first to last name
  abbrev pub with_named : List (List ℕ) → List (List ℕ)
  with_named names = fold with_other names (range_with_len first (last - first))

  abbrev pub named_in : List (List ℕ)
  named_in = with_named []

-- of each module, in the order of the text
abbrev pub named_by_all : List Node → List Round → List Declared → List (List (List ℕ))
named_by_all nodes rounds declared = map (λ n. named_in nodes declared (round_at rounds n).first n) (modules nodes)

pub record AreNamed (nodes : List Node) (named : List (List (List ℕ))) : Type 0 where
  pub rounds : List Round
  pub surrounded : AreRounds nodes rounds
  pub are : named ≡ named_by_all nodes rounds (declarations nodes rounds)
