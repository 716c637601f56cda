-- The type of each cluster with its own parameters, as a number of an arena.
use Rattle.std.specs.Prelude.{◌≡◌, ℕ, false, List, length, slice_get, Option, Some}
use Rattle.clu_tree.specs.declared.node.Node.{Node}
use Rattle.clu_tree.specs.declared.node.NodeKind.TheVariants as kind
use Rattle.clu_types.specs.declared.term.TypeId.{TypeId}
use Rattle.clu_types.specs.declared.term.Term.{Term}
use Rattle.clu_settle.specs.declared.value.Value.{Value}
use Rattle.clu_head.specs.OwnTypes.{IsOwnType}
use Rattle.clu_head.specs.ParameterKinds.{kinds_of}
use Rattle.clu_bindings.specs.Headlines.{Headline, headline_of}

-- of the cluster of this headline; the kinds of its parameters were read in an earlier arena
pub record IsOwned (types : List Term) (values : List Value) (nodes : List Node) (h : Headline) (found : Option TypeId) : Type 0 where
  pub seen : List Term
  pub own : IsOwnType types h.name (kinds_of seen values nodes h.parameters) found

-- the first so many nodes have their types, if they are Clusters
pub record AreOwned (types : List Term) (values : List Value) (nodes : List Node) (count : ℕ) (all : List (Option TypeId)) : Type 0 where
  pub size : length all ≡ count
  pub each : (n : ℕ) (node : Node) (found : Option TypeId) → slice_get nodes n ≡ Some node → node.kind ≡ kind.Cluster → slice_get all n ≡ Some found → IsOwned types values nodes (headline_of nodes false node) found
