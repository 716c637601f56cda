-- The parameters of modules among the declarations of a file, which are numbered from 1 in the order of the text.
use Rattle.std.specs.Prelude.{◌≡◌, ◌&&◌, ◌==◌, ℕ, zero, suc, nat_lt, if◌then◌else◌, Bool, true, false, List, [], ◌∷◌, ◌++◌, length, get_or, slice_get, Option, Some, None}
use Rattle.clu_tree.specs.declared.node.Node.{Node}
use Rattle.clu_tree.specs.declared.node.NodeKind.{NodeKind}
use Rattle.clu_tree.specs.declared.node.NodeKind.TheVariants as kind
use Rattle.clu_syntax.specs.declared.round.Round.{Round}
use Rattle.clu_syntax.specs.Kinds.{kind_at}
use Rattle.clu_syntax.specs.Rounds.{round_at}
use Rattle.clu_names.specs.declared.scopes.Declared.{Declared}
use Rattle.clu_names.specs.Scopes.{next, kind_at_parent}
use Rattle.clu_settle.specs.declared.parameters.Parameters.{Parameters}

abbrev pub parent_round : List Round → Option ℕ → Option ℕ
parent_round rounds (Some n) = (round_at rounds n).parent
parent_round rounds None = None

-- by the kind of the node and that of its parent's parent
abbrev pub is_of_module : NodeKind → NodeKind → Bool
is_of_module kind.Parm kind.Module = true
is_of_module _ _ = false

-- a Parm of the Routine or Cluster of a Module: one in a routine of a cluster is none
abbrev pub is_parameter : List Node → List Round → ℕ → Bool
is_parameter nodes rounds n = is_of_module (kind_at nodes n) (kind_at_parent nodes (parent_round rounds (round_at rounds n).parent))

-- the module u, which is one of so many nodes
abbrev pub is_unit : ℕ → ℕ → Option ℕ → Bool
is_unit all u (Some unit) = unit == u && nat_lt unit all
is_unit all u None = false

-- what a table keeps for a module
abbrev pub count_in : List ℕ → Option ℕ → ℕ
count_in counts (Some unit) = get_or counts unit 0
count_in counts None = 0

abbrev pub is_counted : List Node → List Round → ℕ → Option Declared → Bool
is_counted nodes rounds u (Some d) = is_parameter nodes rounds d.node && is_unit (length nodes) u d.unit
is_counted nodes rounds u None = false

module _ (nodes : List Node) (rounds : List Round) (ds : List Declared) where
  -- how many parameters of the module u the first p declarations are, as far as 32 bits count
  unfoldable pub counted : ℕ → ℕ → ℕ
  counted u zero = 0
  counted u (suc p) = if is_counted nodes rounds u (slice_get ds p) then next (counted u p) else counted u p

  abbrev pub counted_in : Option ℕ → ℕ → ℕ
  counted_in (Some u) p = counted u p
  counted_in None p = 0

  -- the number of the declaration at p: how many of its module there are up to it
  abbrev pub number_at : ℕ → Option Declared → ℕ
  number_at p (Some d) = if is_parameter nodes rounds d.node then counted_in d.unit (suc p) else 0
  number_at p None = 0

  unfoldable pub numbers_to : ℕ → List ℕ
  numbers_to zero = []
  numbers_to (suc p) = numbers_to p ++ number_at p (slice_get ds p) ∷ []

-- a table has the number of each declaration, and for each module how many parameters it has
pub record AreNumbered (nodes : List Node) (rounds : List Round) (ds : List Declared) (all : Parameters) : Type 0 where
  pub numbers : all.numbers.items ≡ numbers_to nodes rounds ds (length ds)
  pub counts : (u : ℕ) → get_or all.counts.items u 0 ≡ counted nodes rounds ds u (length ds)
