-- Values of expressions: where they are kept, how they are bound to type any, and what names an operation.
use Rattle.std.specs.Prelude.{ℕ, ◌||◌, [], not, nat_eq, nat_le, Bool, true, false, if◌then◌else◌, List, Option, None, Some}
use Rattle.std.specs.Map.{lookup}
use Rattle.clu_types.specs.CluType.{CluType, parameter}
use Rattle.clu_specs.specs.Texts.{type_text}
use Rattle.clu_base.specs.declared.constants.Const.TheVariants as constant
use Rattle.clu_base.specs.declared.constants.ObjConst.{ObjConst}
use Rattle.clu_base.specs.declared.constants.ObjConst.TheVariants as named
use Rattle.clu_types.specs.Arena.{actuals_at, type_at, types_of}
use Rattle.clu_types.specs.declared.term.Actual.{Actual}
use Rattle.clu_types.specs.declared.term.TypeId.{TypeId}
use Rattle.clu_specs.specs.Seen.{a_module, an_operation, use_text}
use Rattle.clu_core.specs.declared.checked.Checked.{Checked}
use Rattle.clu_core.specs.declared.op_ref.OpRef.{OpRef}
use Rattle.clu_core.specs.declared.op_ref.OpRef.TheVariants as op
use Rattle.clu_wir.specs.declared.hole.HoleKind.{HoleKind}
use Rattle.clu_wir.specs.declared.hole.HoleKind.TheVariants as kind
use Rattle.clu_wir.specs.Plain.{Expr, slot, word, hole, load, binding, bound, expr_and, no_exprs, set, put, bind, expr_of, call, choose, no_stmts, stmt_and}
use Rattle.clu_lower_types.specs.Types.{is_any, operation_of, type_of_node}
use Rattle.clu_lower_types.specs.declared.fixed.Fixed.{Fixed}
use Rattle.clu_lower_types.specs.declared.fixed.OwnVariable.{OwnVariable}
use Rattle.clu_lower_expr.specs.declared.operands.Operand.{Operand}
use Rattle.clu_lower_expr.specs.declared.lowering.TypeOperation.{TypeOperation}
use Rattle.clu_lower_expr.specs.declared.variables.Variable.{Variable}
use Rattle.clu_lower_expr.specs.Low.{Low, assigned, needed, number_of_operation, object_of, pushed, released, took, type_place, used, variable_of, with_constant, with_operation, with_types}

-- it loads nothing but a slot and raises nothing
abbrev pub is_fixed : Expr → Bool
is_fixed (slot n) = true
is_fixed (word w) = true
is_fixed (hole k number) = true
is_fixed _ = false

abbrev pub kept_unless : Bool → Expr → Low → Expr × Low
kept_unless true e low = (e, low)
kept_unless false e low = (slot low.taken, pushed (set low.taken e) (took low))

-- a value that is fixed: any other is kept in a new slot
abbrev pub kept : Expr → Low → Expr × Low
kept e low = kept_unless (is_fixed e) e low

-- ---- numbers of types, and descriptors of uses

abbrev pub type_number : List ℕ → Low → Expr × Low
type_number text low = (hole kind.TypeWord (type_place text low).0, (type_place text low).1)

-- cells with the numbers of types, one after the other
abbrev pub type_cells : List (List ℕ) → Low → Expr × Low
type_cells texts low = (hole kind.TypeCell (with_types texts low).0, (with_types texts low).1)

abbrev pub descriptor : ℕ → Expr
descriptor number = hole kind.Descriptor number

abbrev pub described : List ℕ → Low → Expr × Low
described text low = (descriptor (used text low).0, (used text low).1)

-- the word of a constant that only the linker knows, and of a string
abbrev pub constant_word : ObjConst → Low → Expr × Low
constant_word c low = (hole kind.Constant (with_constant c low).0, (with_constant c low).1)

abbrev pub string_word : List ℕ → Low → Expr × Low
string_word bytes low = constant_word (named.Value (constant.Str bytes)) low

-- ---- operations that are found for nodes

abbrev pub noted_as : TypeOperation → ℕ × Low → Expr × Low
noted_as operation number = (descriptor number.0, with_operation operation number.0 number.1)

abbrev pub operation_by : Option ℕ → TypeOperation → List ℕ → Low → Expr × Low
operation_by (Some number) operation text low = (descriptor number, low)
operation_by None operation text low = noted_as operation (used text low)

-- the operation of a type of the file, whose use is noted once
abbrev pub file_operation : Checked → TypeId → List ℕ → Low → Expr × Low
file_operation c of name low =
    operation_by (number_of_operation (record { of = of; name = name }) low) (record { of = of; name = name }) (use_text (an_operation (type_at (types_of c.types) of) name)) low

-- the operation that a where clause gives of a type parameter
abbrev pub given_operation : ℕ → List ℕ → Low → Expr × Low
given_operation n name low = described (use_text (an_operation (parameter n) name)) low

-- a routine that is a module
abbrev pub module_operation : Checked → List ℕ → List Actual → Low → Expr × Low
module_operation c name given low = described (use_text (a_module name (actuals_at (types_of c.types) given))) low

abbrev pub operation_word : Checked → Option OpRef → Low → Option (Expr × Low)
operation_word c (Some (op.Builtin of name)) low = Some (file_operation c of name low)
operation_word c (Some (op.Cluster of name)) low = Some (file_operation c of name low)
operation_word c (Some (op.Param n name)) low = Some (given_operation n name low)
operation_word c (Some (op.Module name given)) low = Some (module_operation c name given low)
operation_word c (Some op.Stored) low = None
operation_word c None low = None

abbrev pub node_operation : Checked → ℕ → Low → Option (Expr × Low)
node_operation c n low = operation_word c (operation_of c n) low

-- ---- own variables: two words each, of which the second says whether it names an object

abbrev pub own_word : HoleKind → ℕ → ℕ → Expr
own_word k number distance = load (hole k number) distance

abbrev pub own_object : OwnVariable → Expr
own_object own = binding (expr_and (hole own.kind own.number) no_exprs) (needed (load (bound 0) 8) (load (bound 0) 0))

abbrev pub assigned_own : OwnVariable → Expr → Low → Low
assigned_own own e low =
    released low.taken
    (pushed (put (slot low.taken) 8 (word 1)) (pushed (put (slot low.taken) 0 e) (pushed (set low.taken (hole own.kind own.number)) (took low))))

abbrev pub object_by : Option OwnVariable → ℕ → Low → Option Expr
object_by (Some own) place low = Some (own_object own)
object_by None place low = object_of place low

-- the word of the object that a variable names, own or not
abbrev pub object_named : Fixed → ℕ → Low → Option Expr
object_named f place low = object_by (lookup (nat_eq place) f.owns.entries) place low

-- ---- type any

-- the slot of a pair: that of a value in a slot that may change, or else a new one
abbrev pub slot_taken : Bool → ℕ → Low → ℕ × Low
slot_taken true n low = (n, low)
slot_taken false n low = (low.taken, took low)

abbrev pub pair_slot : ℕ → Expr → Low → ℕ × Low
pair_slot free (slot n) low = slot_taken (nat_le free n) n low
pair_slot free _ low = (low.taken, took low)

abbrev pub paired : Expr → ℕ → Expr × Low → Expr × Low
paired e at number = (slot at, pushed (bind number.0 e at) number.1)

abbrev pub into_pair : CluType → Expr → ℕ × Low → Expr × Low
into_pair t e at = paired e at.0 (type_number (type_text t) at.1)

-- an object of a type as it is bound to type any, or to a type that includes its own
abbrev pub bound_as : Bool → CluType → ℕ → Expr → Low → Expr × Low
bound_as to_any t free e low = if not to_any || is_any t then (e, low) else into_pair t e (pair_slot free e low)

-- ---- operands

-- a value with its node and the slot in which it may be kept
pub record Value : Type 0 where
  pub value : Expr
  pub node : ℕ
  pub at : ℕ

abbrev pub value_of : Operand → Value
value_of operand = record { value = expr_of operand.word; node = operand.node; at = operand.slot }

abbrev pub operand_of : Expr → ℕ → Low → Value × Low
operand_of e n low = (record { value = e; node = n; at = low.taken }, if is_fixed e then low else took low)

abbrev pub bound_if : List CluType → Option TypeId → ℕ → Expr → Low → Option (Expr × Low)
bound_if types (Some of) free e low = Some (bound_as true (type_at types of) free e low)
bound_if types None free e low = None

-- an operand bound to type any, by the type of its node, or to a type that includes its own
abbrev pub operand_bound : Checked → Bool → ℕ → Value → Low → Option (Expr × Low)
operand_bound c true free v low = bound_if (types_of c.types) (type_of_node c v.node) free v.value low
operand_bound c false free v low = Some (v.value, low)

-- ---- variables that name an object

abbrev pub assigned_to : Variable → Expr × Low → Low
assigned_to v given = assigned v given.0 given.1

abbrev pub assigned_if : Option Variable → CluType → ℕ → Expr → Low → Option Low
assigned_if (Some v) t free e low = Some (assigned_to v (bound_as v.is_any t free e low))
assigned_if None t free e low = None

abbrev pub own_assigned : OwnVariable → Expr × Low → Low
own_assigned own given = assigned_own own given.0 given.1

abbrev pub assigned_by : Option OwnVariable → ℕ → CluType → ℕ → Expr → Low → Option Low
assigned_by (Some own) place t free e low = Some (own_assigned own (bound_as own.is_any t free e low))
assigned_by None place t free e low = assigned_if (variable_of place low) t free e low

-- the variable of a declaration, own or not, names an object of a type
abbrev pub assigned_named : Fixed → ℕ → CluType → ℕ → Expr → Low → Option Low
assigned_named f place t free e low = assigned_by (lookup (nat_eq place) f.owns.entries) place t free e low

-- the call that sets up the own variables of a cluster, where they were not set up
abbrev pub set_up_by : Expr × Low → Low
set_up_by routine = pushed (choose (own_word kind.ClusterOwn 0 0) no_stmts (stmt_and (call routine.0 [] []) no_stmts)) routine.1

abbrev pub own_set_up : List ℕ → Low → Low
own_set_up text low = set_up_by (described text low)
