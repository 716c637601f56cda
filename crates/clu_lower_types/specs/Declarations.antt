-- The declarations of a file, as lowering looks them up.
use Rattle.std.specs.Prelude.{◌≡◌, ◌+◌, nat_lt, if◌then◌else◌, ℕ, List, length, slice_get, Option, None, Some}
use Rattle.clu_tree.specs.declared.node.Node.{Node}
use Rattle.clu_syntax.specs.declared.round.Round.{Round}
use Rattle.clu_syntax.specs.Rounds.{AreRounds}
use Rattle.clu_names.specs.declared.scopes.Declared.{Declared}
use Rattle.clu_names.specs.Denotes.{bound_to, starts_to}
use Rattle.clu_names.specs.Scopes.{declarations}

-- the declarations in their order, for each node the place of the first that it makes, and the places of those that the
-- names of nodes denote, from where those of each node begin
pub record Tables : Type 0 where
  pub declared : List Declared
  pub firsts : List ℕ
  pub bound : List (Option ℕ)
  pub starts : List ℕ

-- what a table of what may be nothing has at a place
abbrev pub optional : {A : Type 0} → Option (Option A) → Option A
optional (Some item) = item
optional None = None

abbrev pub entry : {A : Type 0} → List (Option A) → ℕ → Option A
entry table n = optional (slice_get table n)

abbrev pub if_below : ℕ → Option ℕ → Option ℕ
if_below all None = None
if_below all (Some place) = if nat_lt place all then Some place else None

-- the first declaration that a node makes; the length of the list stands for none
abbrev pub made : Tables → ℕ → Option ℕ
made d n = if_below (length d.declared) (slice_get d.firsts n)

abbrev pub bound_after : List (Option ℕ) → ℕ → Option ℕ → Option ℕ
bound_after bound k None = None
bound_after bound k (Some start) = entry bound (start + k)

-- the declaration that the k-th name of a node denotes
abbrev pub denoted : Tables → ℕ → ℕ → Option ℕ
denoted d n k = bound_after d.bound k (slice_get d.starts n)

abbrev pub node_in : Option Declared → Option ℕ
node_in None = None
node_in (Some one) = Some one.node

-- the node that makes a declaration
abbrev pub node_of : Tables → ℕ → Option ℕ
node_of d place = node_in (slice_get d.declared place)

-- the tables of a tree
pub record AreTables (nodes : List Node) (d : Tables) : Type 0 where
  pub rounds : List Round
  pub are_rounds : AreRounds nodes rounds
  pub declared : d.declared ≡ declarations nodes rounds
  pub bound : d.bound ≡ bound_to nodes d.declared (length nodes)
  pub starts : d.starts ≡ starts_to nodes d.declared (length nodes)
