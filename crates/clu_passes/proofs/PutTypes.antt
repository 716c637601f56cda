-- What a text settles to, where actual parameters are put in that change no constant parameter: the parts of a type are those of the
-- parts with the actuals put in.
use Rattle.std.proofs.Common.{◌≡◌, ◌∙◌, ℕ, Bool, true, false, if◌then◌else◌, List, [], ◌∷◌, bytes_eq, codes, Option, Some, None, refl, sym, ap}
use Rattle.clu_base.specs.declared.constants.Const.{Const}
use Rattle.clu_types.specs.CluType.{CluType, stream_type, cluster_of, CluTypes, Fields, no_fields, field_and, Signals, no_signals, signal_and, Actuals, no_actuals, actual_type, actual_const, actual_param}
use Rattle.clu_types.specs.Substituted.{substituted, types_substituted, fields_substituted, signals_substituted, actuals_substituted, constant_put}
use Rattle.clu_syntax.specs.declared.words.Operator.{Operator}
use Rattle.clu_syntax.specs.declared.words.ListType.{ListType}
use Rattle.clu_syntax.specs.declared.words.ListType.TheVariants as list
use Rattle.clu_syntax.specs.declared.words.FieldsType.{FieldsType}
use Rattle.clu_syntax.specs.declared.words.FieldsType.TheVariants as fields
use Rattle.clu_syntax.specs.declared.words.RoutineKind.{RoutineKind}
use Rattle.clu_syntax.specs.declared.words.RoutineKind.TheVariants as kind
use Rattle.clu_syntax.specs.Syntax.{Identifier}
use Rattle.clu_meaning.specs.Constants.{sugar, folded}
use Rattle.clu_meaning.specs.Settling.{Value, settled_type, settled_constant, settled_parameter, unsettled, type_in, constant_value, constant_in, infix_value, with_brackets, comes_after, with_field, with_fields, with_signal, listed_signal, with_actual, module_type, list_type, fields_type, routine_type}

-- no constant parameter is changed
abbrev pub KeepConstants : Actuals → Type 0
KeepConstants given = (n : ℕ) (behind : Actuals) → constant_put given n behind ≡ actual_param n behind

module _ (given : Actuals) where
  abbrev pub value_put : Value → Value
  value_put (settled_type t) = settled_type (substituted given t)
  value_put (settled_constant c) = settled_constant c
  value_put (settled_parameter k) = settled_parameter k
  value_put unsettled = unsettled

  -- ---- values

  pub type_in_put : (v : Value) → type_in (value_put v) ≡ substituted given (type_in v)
  type_in_put (settled_type t) = refl
  type_in_put (settled_constant c) = refl
  type_in_put (settled_parameter k) = refl
  type_in_put unsettled = refl

  pub constant_in_put : (v : Value) → constant_in (value_put v) ≡ constant_in v
  constant_in_put (settled_type t) = refl
  constant_in_put (settled_constant c) = refl
  constant_in_put (settled_parameter k) = refl
  constant_in_put unsettled = refl

  pub constant_put_in : (c : Option Const) → constant_value c ≡ value_put (constant_value c)
  constant_put_in (Some c) = refl
  constant_put_in None = refl

  pub infix_put : (op : Operator) (a b : Option Const) → infix_value op a b ≡ value_put (infix_value op a b)
  infix_put op (Some a) (Some b) = constant_put_in (folded (sugar op) a b)
  infix_put op (Some a) None = refl
  infix_put op None b = refl

  pub brackets_put : (v : Value) → with_brackets (value_put v) ≡ value_put (with_brackets v)
  brackets_put (settled_type t) = refl
  brackets_put (settled_constant c) = refl
  brackets_put (settled_parameter k) = refl
  brackets_put unsettled = refl

  -- ---- components in their order

  field_put : (name : Identifier) (t : CluType) (rest : Fields) → with_field name (substituted given t) (fields_substituted given rest) ≡ fields_substituted given (with_field name t rest)
  field_put name t no_fields = refl
  field_put name t (field_and other u rest) = by (comes_after name other) (field_put name t rest)
    where
      by : (b : Bool) → with_field name (substituted given t) (fields_substituted given rest) ≡ fields_substituted given (with_field name t rest) → (if b then field_and other (substituted given u) (with_field name (substituted given t) (fields_substituted given rest)) else field_and name (substituted given t) (field_and other (substituted given u) (fields_substituted given rest)))
          ≡ fields_substituted given (if b then field_and other u (with_field name t rest) else field_and name t (field_and other u rest))
      by true more = ap (field_and other (substituted given u)) more
      by false more = refl

  pub fields_put : (names : List Identifier) (t : CluType) (rest : Fields) → with_fields names (substituted given t) (fields_substituted given rest) ≡ fields_substituted given (with_fields names t rest)
  fields_put [] t rest = refl
  fields_put (name ∷ names) t rest = ap (with_field name (substituted given t)) (fields_put names t rest) ∙ field_put name t (with_fields names t rest)

  signal_put : (name : Identifier) (ts : CluTypes) (rest : Signals) → with_signal name (types_substituted given ts) (signals_substituted given rest) ≡ signals_substituted given (with_signal name ts rest)
  signal_put name ts no_signals = refl
  signal_put name ts (signal_and other us rest) = by (comes_after name other) (signal_put name ts rest)
    where
      by : (b : Bool) → with_signal name (types_substituted given ts) (signals_substituted given rest) ≡ signals_substituted given (with_signal name ts rest) → (if b then signal_and other (types_substituted given us) (with_signal name (types_substituted given ts) (signals_substituted given rest)) else signal_and name (types_substituted given ts) (signal_and other (types_substituted given us) (signals_substituted given rest)))
          ≡ signals_substituted given (if b then signal_and other us (with_signal name ts rest) else signal_and name ts (signal_and other us rest))
      by true more = ap (signal_and other (types_substituted given us)) more
      by false more = refl

  pub signals_put : (name : Identifier) (ts : CluTypes) (rest : Signals) → listed_signal name (types_substituted given ts) (signals_substituted given rest) ≡ signals_substituted given (listed_signal name ts rest)
  signals_put name ts rest = by (bytes_eq name (codes "failure"))
    where
      by : (b : Bool) → (if b then signals_substituted given rest else with_signal name (types_substituted given ts) (signals_substituted given rest)) ≡ signals_substituted given (if b then rest else with_signal name ts rest)
      by true = refl
      by false = signal_put name ts rest

  -- ---- types made of others

  pub list_put : (word : ListType) (t : CluType) → list_type word (substituted given t) ≡ substituted given (list_type word t)
  list_put list.Array t = refl
  list_put list.Sequence t = refl

  pub fields_type_put : (word : FieldsType) (fs : Fields) → fields_type word (fields_substituted given fs) ≡ substituted given (fields_type word fs)
  fields_type_put fields.Record fs = refl
  fields_type_put fields.Struct fs = refl
  fields_type_put fields.Oneof fs = refl
  fields_type_put fields.Variant fs = refl

  pub routine_put : (word : RoutineKind) (args results : CluTypes) (raised : Signals) → routine_type word (types_substituted given args) (types_substituted given results) (signals_substituted given raised) ≡ substituted given (routine_type word args results raised)
  routine_put kind.Procedure args results raised = refl
  routine_put kind.Iterator args results raised = refl

  -- ---- actual parameters

  module _ (keep : KeepConstants given) where
    pub actual_put : (v : Value) (rest : Actuals) → with_actual (value_put v) (actuals_substituted given rest) ≡ actuals_substituted given (with_actual v rest)
    actual_put (settled_type t) rest = refl
    actual_put (settled_constant c) rest = refl
    actual_put (settled_parameter k) rest = sym (keep k (actuals_substituted given rest))
    actual_put unsettled rest = refl

    pub module_put : (name : Identifier) (its : Actuals) → module_type name (actuals_substituted given its) ≡ substituted given (module_type name its)
    module_put name no_actuals = by (bytes_eq name (codes "stream"))
      where
        by : (b : Bool) → (if b then stream_type else cluster_of name no_actuals) ≡ substituted given (if b then stream_type else cluster_of name no_actuals)
        by true = refl
        by false = refl
    module_put name (actual_type t rest) = refl
    module_put name (actual_const c rest) = refl
    module_put name (actual_param n rest) =
        ap (module_type name) (keep n (actuals_substituted given rest)) ∙ ap (cluster_of name) (sym (keep n (actuals_substituted given rest)))
