-- That what an accepted file is handed on with is what the definitions say of it.
use Rattle.std.specs.Prelude.{◌≡◌, ◌<◌, ℕ, true, false, List, length, slice_get, Option, Some, None}
use Rattle.clu_base.specs.declared.constants.Const.{Const}
use Rattle.clu_tree.specs.declared.node.NodeKind.TheVariants as kind
use Rattle.clu_types.specs.CluType.{CluType}
use Rattle.clu_types.specs.Arena.{ActualsBelow, actuals_at, type_at, types_of}
use Rattle.clu_types.specs.declared.term.Term.{Term}
use Rattle.clu_types.specs.declared.term.TypeId.{TypeId}
use Rattle.clu_syntax.specs.Kinds.{is_expression}
use Rattle.clu_meaning.specs.Settling.{Value, settled_type, settled_constant, settled_parameter}
use Rattle.clu_checking.specs.ConstantRules.{is_constant_value}
use Rattle.clu_checking.specs.Files.{File, is_kind, item, kind_in}
use Rattle.clu_checking.specs.Invoked.{Invoked, of_builtin, of_cluster, of_module, of_parameter, stored, invoked_at}
use Rattle.clu_checking.specs.Settled.{value_settled}
use Rattle.clu_checking.specs.Typing.{is_type_value, type_of}
use Rattle.clu_settle.specs.Names.{is_constant}
use Rattle.clu_settle.specs.Values.{constant_at}
use Rattle.clu_bindings.specs.Tables.{optional}
use Rattle.clu_typing.specs.Typing.{IsType}
use Rattle.clu_core.specs.declared.checked.Checked.{Checked}
use Rattle.clu_core.specs.declared.checked.NamedConstant.{NamedConstant}
use Rattle.clu_core.specs.declared.checked.NamedConstant.TheVariants as constant
use Rattle.clu_core.specs.declared.op_ref.OpRef.{OpRef}
use Rattle.clu_core.specs.declared.op_ref.OpRef.TheVariants as op
use Rattle.clu_passes.specs.Lost.{is_cvt_at}

-- the type of the arena to which a text settles, or that it settles to none
abbrev pub IsDenoted : List Term → Option TypeId → Value → Type 0
IsDenoted terms (Some id) v = (id.0 < length terms) × (v ≡ settled_type (type_at (types_of terms) id))
IsDenoted terms None v = is_type_value v ≡ false

-- the same of its constant, in the list of all
abbrev pub IsNamed : List Const → Option NamedConstant → Value → Type 0
IsNamed constants (Some (constant.Known k)) v = (k < length constants) × (v ≡ settled_constant (constant_at constants k))
IsNamed constants (Some (constant.Parameter k)) v = v ≡ settled_parameter k
IsNamed constants None v = is_constant_value v ≡ false

-- ---- operations

-- what is invoked, by the types of an arena
abbrev pub op_told : List CluType → OpRef → Invoked
op_told types (op.Builtin of name) = of_builtin (type_at types of) name
op_told types (op.Cluster of name) = of_cluster (type_at types of) name
op_told types (op.Module name given) = of_module name (actuals_at types given)
op_told types (op.Param number name) = of_parameter number name
op_told types op.Stored = stored

-- the types that it names are of this arena
abbrev pub NamesTypesOf : List Term → OpRef → Type 0
NamesTypesOf terms (op.Builtin of name) = of.0 < length terms
NamesTypesOf terms (op.Cluster of name) = of.0 < length terms
NamesTypesOf terms (op.Module name given) = ActualsBelow (length terms) given
NamesTypesOf terms (op.Param number name) = Unit {0}
NamesTypesOf terms op.Stored = Unit {0}

-- both are nothing, or the one tells the other
abbrev pub IsOperation : List Term → Option OpRef → Option Invoked → Type 0
IsOperation terms (Some o) i = NamesTypesOf terms o × (i ≡ Some (op_told (types_of terms) o))
IsOperation terms None i = i ≡ None

pub record IsHandedOn (f : File) (checked : Checked) : Type 0 where
  -- of each expression the type, if it has one
  pub types : (n : ℕ) → is_expression (kind_in f n) ≡ true → IsType checked.types (optional (slice_get checked.type_of.items n)) (type_of f (item f n).expression)
  -- at each node the operation that it names or invokes, if any; of a comparison with `~` it is the comparison's
  pub operations : (n : ℕ) → IsOperation checked.types (optional (slice_get checked.op_of.items n)) (invoked_at f n)
  -- the types that expressions and types denote; `cvt` stands for another one at each node that sees it
  pub denoted : (n : ℕ) → is_constant f.nodes n ≡ true → is_cvt_at f n ≡ false → IsDenoted checked.types (optional (slice_get checked.denoted.items n)) (value_settled f.scope (item f n).constant)
  -- the constants for which names stand
  pub constants : (n : ℕ) → is_kind f kind.Name n ≡ true → IsNamed checked.constants (optional (slice_get checked.constant_of.items n)) (value_settled f.scope (item f n).constant)
