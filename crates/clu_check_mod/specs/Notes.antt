-- What a check notes of nodes for lowering, by what is known of them.
use Rattle.std.specs.Prelude.{ℕ, List, length, slice_get, if◌then◌else◌, Option, Some, None}
use Rattle.std.specs.Option.{option_map}
use Rattle.clu_tree.specs.declared.node.Node.{Node}
use Rattle.clu_tree.specs.declared.node.NodeKind.TheVariants as kind
use Rattle.clu_types.specs.declared.term.Term.{Term}
use Rattle.clu_types.specs.declared.term.Term.TheVariants as term
use Rattle.clu_types.specs.declared.term.TypeId.{TypeId}
use Rattle.clu_settle.specs.declared.value.Value.{Value}
use Rattle.clu_settle.specs.declared.value.Value.TheVariants as value
use Rattle.clu_settle.specs.Lists.{type_id, value_of}
use Rattle.clu_head.specs.There.{is_there}
use Rattle.clu_bindings.specs.Tables.{optional, table_to}
use Rattle.clu_typing.specs.declared.facts.Facts.{Facts}
use Rattle.clu_typing.specs.declared.facts.Invoked.{Invoked}
use Rattle.clu_typing.specs.declared.facts.Invoked.TheVariants as invoked
use Rattle.clu_core.specs.declared.checked.NamedConstant.{NamedConstant}
use Rattle.clu_core.specs.declared.checked.NamedConstant.TheVariants as constant
use Rattle.clu_core.specs.declared.op_ref.OpRef.{OpRef}
use Rattle.clu_core.specs.declared.op_ref.OpRef.TheVariants as op

-- ---- types and constants, by what nodes come to

module _ (values : List Value) where
  -- the type that the node n denotes
  abbrev pub denoted_at : ℕ → Option TypeId
  denoted_at n = type_id (value_of values n)

  abbrev pub denoted_of : List Node → List (Option TypeId)
  denoted_of nodes = table_to denoted_at (length nodes)

abbrev pub constant_in : Value → Option NamedConstant
constant_in (value.Constant k) = Some (constant.Known k)
constant_in (value.Parameter number) = Some (constant.Parameter number)
constant_in _ = None

module _ (nodes : List Node) (values : List Value) where
  -- the constant for which the node n stands, if it is a Name
  abbrev pub constant_at : ℕ → Option NamedConstant
  constant_at n = if is_there kind.Name (slice_get nodes n) then constant_in (value_of values n) else None

  abbrev pub constants_of : List (Option NamedConstant)
  constants_of = table_to constant_at (length nodes)

-- ---- operations, by what is invoked

-- the routine of a module, of which this is a cluster type
abbrev pub module_of_term : Term → Option OpRef
module_of_term (term.Cluster name given) = Some (op.Module name given)
module_of_term _ = None

abbrev pub module_in : Option Term → Option OpRef
module_in (Some t) = module_of_term t
module_in None = None

module _ (terms : List Term) (names : List (List ℕ)) where
  abbrev pub operation : Invoked → Option OpRef
  operation (invoked.Builtin of id) = option_map (op.Builtin of) (slice_get names id.0)
  operation (invoked.Cluster of id) = option_map (op.Cluster of) (slice_get names id.0)
  operation (invoked.Parameter number id) = option_map (op.Param number) (slice_get names id.0)
  operation (invoked.Module of) = module_in (slice_get terms of.0)
  operation invoked.Stored = Some op.Stored

  abbrev pub operation_if : Option Invoked → Option OpRef
  operation_if (Some its) = operation its
  operation_if None = None

module _ (terms : List Term) (facts : Facts) where
  -- the operation that the node n invokes or names
  abbrev pub operation_at : ℕ → Option OpRef
  operation_at n = operation_if terms facts.finding.words (optional (slice_get facts.invoked.items n))

  abbrev pub operations_of : List Node → List (Option OpRef)
  operations_of nodes = table_to operation_at (length nodes)
