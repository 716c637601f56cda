-- Kinds of parameters by the values of the nodes of their types.
use Rattle.std.specs.Prelude.{◌≡◌, ℕ, List, map, slice_get, Option, Some, None}
use Rattle.clu_types.specs.CluType.{CluType}
use Rattle.clu_types.specs.declared.spec.ParamKind.{ParamKind}
use Rattle.clu_types.specs.declared.spec.ParamKind.TheVariants as param
use Rattle.clu_types.specs.declared.term.TypeId.{TypeId}
use Rattle.clu_types.specs.Arena.{type_at}
use Rattle.clu_tree.specs.declared.node.Node.{Node}
use Rattle.clu_tree.specs.declared.node.NodeKind.TheVariants as kind
use Rattle.clu_syntax.specs.Splits.{type_of, children_of}
use Rattle.clu_checking.specs.Headings.{kind_of_type}
use Rattle.clu_settle.specs.declared.value.Value.{Value}
use Rattle.clu_settle.specs.Lists.{type_id, value_of}
use Rattle.clu_settle.specs.Names.{names_of}

abbrev pub kind_known : List CluType → Option TypeId → Option ParamKind
kind_known types (Some id) = kind_of_type (type_at types id)
kind_known types None = None

-- of a parameter that is declared with the type at a node, or of a type parameter
abbrev pub kind_by : List CluType → List Value → Option ℕ → Option ParamKind
kind_by types values (Some n) = kind_known types (type_id (value_of values n))
kind_by types values None = Some param.OfType

-- the node of the type of a Parm
abbrev pub declared_type : List Node → ℕ → Option ℕ
declared_type nodes n = type_of nodes (children_of (slice_get nodes n))

-- those of a Parm, for each of its names
abbrev pub kinds_at : List CluType → List Value → List Node → ℕ → List (Option ParamKind)
kinds_at types values nodes n = map (λ name. kind_by types values (declared_type nodes n)) (names_of (slice_get nodes n))

-- a Parm that is there
pub record IsParm (nodes : List Node) (n : ℕ) : Type 0 where
  pub node : Node
  pub there : slice_get nodes n ≡ Some node
  pub of_kind : node.kind ≡ kind.Parm
