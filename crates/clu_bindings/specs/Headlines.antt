-- What is read of a module before its heading: its name, its parameters, and whether it is a routine.
use Rattle.std.specs.Prelude.{ℕ, Bool, true, false, if◌then◌else◌, List, slice_get, Option, Some, None}
use Rattle.clu_tree.specs.declared.node.Node.{Node}
use Rattle.clu_tree.specs.declared.node.NodeKind.{NodeKind}
use Rattle.clu_tree.specs.declared.node.NodeKind.TheVariants as kind
use Rattle.clu_syntax.specs.Splits.{is_of, last_child, first_name, run}
use Rattle.clu_syntax.specs.Syntax.{Identifier}
use Rattle.clu_bindings.specs.declared.headline.Headline.{Headline as HeadlineView}

-- each parameter is a Parm
pub record Headline : Type 0 where
  pub name : Identifier
  pub parameters : List ℕ
  pub is_routine : Bool

abbrev pub headline_told : HeadlineView → Headline
headline_told h = record { name = h.name.now; parameters = h.parameters.now; is_routine = h.is_routine }

module _ (nodes : List Node) where
  abbrev pub headline_of : Bool → Node → Headline
  headline_of is_routine node = record { name = first_name node.names; parameters = run nodes kind.Parm node.children; is_routine = is_routine }

  abbrev pub headline_by : NodeKind → Node → Option Headline
  headline_by kind.Routine node = Some (headline_of true node)
  headline_by kind.Cluster node = Some (headline_of false node)
  headline_by _ node = None

  -- of a Routine or Cluster
  abbrev pub defined_in : Option Node → Option Headline
  defined_in (Some node) = headline_by node.kind node
  defined_in None = None

  -- of a Module, whose last child is one of these
  abbrev pub headline_in : Option Node → Option Headline
  headline_in (Some node) = if is_of kind.Module node.kind then defined_in (slice_get nodes (last_child node)) else None
  headline_in None = None

  abbrev pub headline_at : ℕ → Option Headline
  headline_at n = headline_in (slice_get nodes n)
