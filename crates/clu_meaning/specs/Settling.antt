-- The types and constants that a text names, as terms over the parameters of its module. An equate stands for its right
-- side, which is found by unfolding as often as there are declarations.
use Rattle.std.specs.Prelude.{ℕ, zero, suc, Bool, List, [], ◌∷◌, length, Option, None, Some, if◌then◌else◌, bytes_eq, codes}
use Rattle.std.specs.Option.{option_and_then}
use Rattle.std.specs.Ordering.{is_gt, nat_cmp}
use Rattle.std.specs.Cmp.Lexicographic.{slice_cmp}
use Rattle.clu_base.specs.declared.constants.Const.{Const}
use Rattle.clu_types.specs.CluType.{CluType, null_type, bool_type, int_type, char_type, string_type, any_type, stream_type, array_of, sequence_of, record_of, struct_of, oneof_of, variant_of, proc_of, iter_of, cluster_of, parameter, CluTypes, Fields, no_fields, field_and, Signals, no_signals, signal_and, Actuals, no_actuals, actual_type, actual_const, actual_param}
use Rattle.clu_types.specs.CluType as term
use Rattle.clu_syntax.specs.declared.words.Operator.{Operator}
use Rattle.clu_syntax.specs.declared.words.SimpleType.{SimpleType}
use Rattle.clu_syntax.specs.declared.words.SimpleType.TheVariants as simple
use Rattle.clu_syntax.specs.declared.words.ListType.{ListType}
use Rattle.clu_syntax.specs.declared.words.ListType.TheVariants as list
use Rattle.clu_syntax.specs.declared.words.FieldsType.{FieldsType}
use Rattle.clu_syntax.specs.declared.words.FieldsType.TheVariants as fields
use Rattle.clu_syntax.specs.declared.words.RoutineKind.{RoutineKind}
use Rattle.clu_syntax.specs.declared.words.RoutineKind.TheVariants as kind
use Rattle.clu_syntax.specs.Syntax.{Identifier, Expression, an_infix, a_prefix, a_paren, a_literal, a_name, an_index, Constant, an_expression, a_type, Constants, no_constants, constant_and, TypeExpression, a_simple_type, a_list_type, a_fields_type, a_routine_type, a_named_type, TypeExpressions, no_types, type_and, Selectors, no_selectors, selector_and, Exceptions, no_exceptions, exception_and}
use Rattle.clu_meaning.specs.Constants.{denoted, sugar, folded, prefixed}
use Rattle.clu_meaning.specs.Scoping.{Meaning, is_equate, is_type_parameter, is_constant_parameter, is_module, Scope, meaning_of}

-- what a text settles to
pub data Value : Type 0 where
  settled_type : CluType → Value
  settled_constant : Const → Value
  settled_parameter : ℕ → Value
  unsettled : Value

-- stands for a type that a text doesn't name; no object is of it
abbrev pub no_type : CluType
no_type = parameter 0

abbrev pub type_in : Value → CluType
type_in (settled_type t) = t
type_in _ = no_type

abbrev pub constant_value : Option Const → Value
constant_value (Some c) = settled_constant c
constant_value None = unsettled

abbrev pub constant_in : Value → Option Const
constant_in (settled_constant c) = Some c
constant_in _ = None

-- an operator over constants; a constant parameter stands alone
abbrev pub infix_value : Operator → Option Const → Option Const → Value
infix_value op (Some a) (Some b) = constant_value (folded (sugar op) a b)
infix_value op _ _ = unsettled

-- a name with brackets is a type with actuals; what is no type makes no constant with them
abbrev pub with_brackets : Value → Value
with_brackets (settled_type t) = settled_type t
with_brackets _ = unsettled

-- ---- in ascending order

abbrev pub comes_after : Identifier → Identifier → Bool
comes_after a b = is_gt (slice_cmp nat_cmp a b)

abbrev pub with_field : Identifier → CluType → Fields → Fields
with_field name t no_fields = field_and name t no_fields
with_field name t (field_and other u rest) =
    if comes_after name other then field_and other u (with_field name t rest) else field_and name t (field_and other u rest)

abbrev pub with_fields : List Identifier → CluType → Fields → Fields
with_fields [] t fs = fs
with_fields (name ∷ names) t fs = with_field name t (with_fields names t fs)

abbrev pub with_signal : Identifier → CluTypes → Signals → Signals
with_signal name ts no_signals = signal_and name ts no_signals
with_signal name ts (signal_and other us rest) =
    if comes_after name other then signal_and other us (with_signal name ts rest) else signal_and name ts (signal_and other us rest)

-- failure belongs to every routine and isn't listed
abbrev pub listed_signal : Identifier → CluTypes → Signals → Signals
listed_signal name ts rest = if bytes_eq name (codes "failure") then rest else with_signal name ts rest

-- ---- actuals

abbrev pub with_actual : Value → Actuals → Actuals
with_actual (settled_type t) rest = actual_type t rest
with_actual (settled_constant c) rest = actual_const c rest
with_actual (settled_parameter k) rest = actual_param k rest
with_actual unsettled rest = rest

-- a cluster's type; `stream` is the name of a built-in type where no module has it
abbrev pub module_type : Identifier → Actuals → CluType
module_type name no_actuals = if bytes_eq name (codes "stream") then stream_type else cluster_of name no_actuals
module_type name given = cluster_of name given

-- ---- types of one word, and types made of others

abbrev pub list_type : ListType → CluType → CluType
list_type list.Array t = array_of t
list_type list.Sequence t = sequence_of t

abbrev pub fields_type : FieldsType → Fields → CluType
fields_type fields.Record fs = record_of fs
fields_type fields.Struct fs = struct_of fs
fields_type fields.Oneof fs = oneof_of fs
fields_type fields.Variant fs = variant_of fs

abbrev pub routine_type : RoutineKind → CluTypes → CluTypes → Signals → CluType
routine_type kind.Procedure args results signals = proc_of args results signals
routine_type kind.Iterator args results signals = iter_of args results signals

module _ (scope : Scope) (unfolded : Constant → Value) where
  -- a name that stands for a value, with actuals for a cluster
  abbrev pub value_of_meaning : Identifier → Actuals → Meaning → Value
  value_of_meaning name given (is_equate c) = unfolded c
  value_of_meaning name given (is_type_parameter k) = settled_type (parameter k)
  value_of_meaning name given (is_constant_parameter k) = settled_parameter k
  value_of_meaning name given is_module = settled_type (module_type name given)
  value_of_meaning name given _ = unsettled

  abbrev pub value_of_name : ℕ → Identifier → Actuals → Value
  value_of_name n name given = value_of_meaning name given (meaning_of scope n name)

  -- the representation of the cluster, which is what `cvt` is to the body of a routine
  abbrev pub representation_at : ℕ → CluType
  representation_at n = type_in (value_of_name n (codes "rep") no_actuals)

  abbrev pub simple_type : ℕ → SimpleType → CluType
  simple_type n simple.Null = null_type
  simple_type n simple.Bool = bool_type
  simple_type n simple.Int = int_type
  simple_type n simple.Real = no_type
  simple_type n simple.Char = char_type
  simple_type n simple.String = string_type
  simple_type n simple.Any = any_type
  simple_type n simple.Rep = representation_at n
  simple_type n simple.Cvt = representation_at n

  abbrev mutual
    pub value_of_expression : Expression → Value
    value_of_expression (an_infix n op a b) = infix_value op (constant_in (value_of_expression a)) (constant_in (value_of_expression b))
    value_of_expression (a_prefix n s e) = constant_value (option_and_then (prefixed s) (constant_in (value_of_expression e)))
    value_of_expression (a_paren n e) = value_of_expression e
    value_of_expression (a_literal n literal) = constant_value (denoted literal)
    value_of_expression (a_name n name) = value_of_name n name no_actuals
    value_of_expression (an_index n (a_name m name) cs) = with_brackets (value_of_name m name (actuals cs))
    value_of_expression _ = unsettled

    pub value_of_constant : Constant → Value
    value_of_constant (an_expression e) = value_of_expression e
    value_of_constant (a_type t) = settled_type (type_of t)

    pub actuals : Constants → Actuals
    actuals no_constants = no_actuals
    actuals (constant_and c cs) = with_actual (value_of_constant c) (actuals cs)

    pub type_of : TypeExpression → CluType
    type_of (a_simple_type n word) = simple_type n word
    type_of (a_list_type n word t) = list_type word (type_of t)
    type_of (a_fields_type n word ss) = fields_type word (fields_of ss)
    type_of (a_routine_type n word args results signals) = routine_type word (types_of args) (types_of results) (signals_of signals)
    type_of (a_named_type n name cs) = type_in (value_of_name n name (actuals cs))

    pub types_of : TypeExpressions → CluTypes
    types_of no_types = term.no_types
    types_of (type_and t ts) = term.type_and (type_of t) (types_of ts)

    pub fields_of : Selectors → Fields
    fields_of no_selectors = no_fields
    fields_of (selector_and n names t ss) = with_fields names (type_of t) (fields_of ss)

    pub signals_of : Exceptions → Signals
    signals_of no_exceptions = no_signals
    signals_of (exception_and n name ts es) = listed_signal name (types_of ts) (signals_of es)

-- ---- as many steps of unfolding as there are declarations

unfoldable pub unfolded_to : Scope → ℕ → Constant → Value
unfolded_to scope zero c = unsettled
unfolded_to scope (suc n) c = value_of_constant scope (unfolded_to scope n) c

abbrev pub settled : Scope → Constant → Value
settled scope = unfolded_to scope (length scope.declarations)

abbrev pub type_settled : Scope → TypeExpression → CluType
type_settled scope = type_of scope (settled scope)

abbrev pub actuals_settled : Scope → Constants → Actuals
actuals_settled scope = actuals scope (settled scope)

abbrev pub name_settled : Scope → ℕ → Identifier → Value
name_settled scope n name = value_of_name scope (settled scope) n name no_actuals
