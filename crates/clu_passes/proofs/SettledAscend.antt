-- The components of each type that a text names ascend.
use Rattle.std.proofs.Common.{◌≡◌, ◌∙◌, ℕ, zero, suc, Bool, true, false, if◌then◌else◌, List, [], ◌∷◌, bytes_eq, codes, Option, Some, None, refl, sym, ap, length}
use Rattle.std.specs.Option.{option_and_then}
use Rattle.std.specs.Ordering.{is_gt, nat_cmp, ordering_reverse}
use Rattle.std.specs.Cmp.Lexicographic.{slice_cmp}
use Rattle.std.specs.declared.cmp.Ordering.{Ordering}
use Rattle.std.specs.declared.cmp.Ordering.TheVariants.{Less, Equal, Greater}
use Rattle.std.proofs.lemmas.Bool.{true≢false}
use Rattle.std.proofs.lemmas.Cmp.{nat_list_cmp_total}
use Rattle.clu_base.specs.declared.constants.Const.{Const}
use Rattle.clu_types.specs.CluType.{CluType, stream_type, cluster_of, CluTypes, Fields, no_fields, field_and, Signals, no_signals, signal_and, Actuals, no_actuals, actual_type, actual_const, actual_param}
use Rattle.clu_syntax.specs.declared.words.Operator.{Operator}
use Rattle.clu_syntax.specs.declared.words.SimpleType.{SimpleType}
use Rattle.clu_syntax.specs.declared.words.SimpleType.TheVariants as simple
use Rattle.clu_syntax.specs.declared.words.ListType.{ListType}
use Rattle.clu_syntax.specs.declared.words.ListType.TheVariants as list
use Rattle.clu_syntax.specs.declared.words.FieldsType.{FieldsType}
use Rattle.clu_syntax.specs.declared.words.FieldsType.TheVariants as fields
use Rattle.clu_syntax.specs.declared.words.RoutineKind.{RoutineKind}
use Rattle.clu_syntax.specs.declared.words.RoutineKind.TheVariants as kind
use Rattle.clu_syntax.specs.Syntax.{Identifier, Expression, an_infix, a_prefix, a_paren, a_literal, a_name, an_index, Constant, an_expression, a_type, Constants, no_constants, constant_and, TypeExpression, a_simple_type, a_list_type, a_fields_type, a_routine_type, a_named_type, TypeExpressions, no_types, type_and, Selectors, no_selectors, selector_and, Exceptions, no_exceptions, exception_and}
use Rattle.clu_meaning.specs.Constants.{denoted, sugar, folded, prefixed}
use Rattle.clu_meaning.specs.Scoping.{Meaning, is_equate, is_module, Scope, meaning_of}
use Rattle.clu_meaning.specs.Settling.{Value, settled_type, settled_constant, settled_parameter, unsettled, type_in, constant_value, constant_in, infix_value, with_brackets, comes_after, with_field, with_fields, with_signal, listed_signal, with_actual, module_type, list_type, fields_type, routine_type, value_of_meaning, value_of_name, representation_at, simple_type, value_of_expression, value_of_constant, actuals, type_of, types_of, fields_of, signals_of, unfolded_to, settled, type_settled, actuals_settled}
use Rattle.clu_checking.specs.Settled.{value_settled}
use Rattle.clu_passes.specs.Ascending.{ComesFirst, Ascends, TypesAscend, FieldsAscend, SignalsAscend, ActualsAscend}

-- ---- components in their order

reversed : (o : Ordering) → is_gt o ≡ true → is_gt (ordering_reverse o) ≡ false
reversed Less e = absurd (true≢false (sym e))
reversed Equal e = absurd (true≢false (sym e))
reversed Greater e = refl

not_after : (m n : List ℕ) → comes_after m n ≡ true → comes_after n m ≡ false
not_after m n e = ap is_gt (nat_list_cmp_total.antisymm n m) ∙ reversed (slice_cmp nat_cmp m n) e

first_put : (other name : List ℕ) (t : CluType) (rest : Fields) → comes_after name other ≡ true → ComesFirst other rest → ComesFirst other (with_field name t rest)
first_put other name t no_fields e first = not_after name other e
first_put other name t (field_and third u rest) e first = by (comes_after name third)
  where
    by : (b : Bool) → ComesFirst other (if b then field_and third u (with_field name t rest) else field_and name t (field_and third u rest))
    by true = first
    by false = not_after name other e

field_put : (name : List ℕ) (t : CluType) (rest : Fields) → Ascends t → FieldsAscend rest → FieldsAscend (with_field name t rest)
field_put name t no_fields up all = (tt, up, tt)
field_put name t (field_and other u rest) up all = by (comes_after name other) refl (field_put name t rest up all.2)
  where
    by : (b : Bool) → comes_after name other ≡ b → FieldsAscend (with_field name t rest) → FieldsAscend (if b then field_and other u (with_field name t rest) else field_and name t (field_and other u rest))
    by true e more = (first_put other name t rest e all.0, all.1, more)
    by false e more = (e, up, all)

fields_put : (names : List Identifier) (t : CluType) (rest : Fields) → Ascends t → FieldsAscend rest → FieldsAscend (with_fields names t rest)
fields_put [] t rest up all = all
fields_put (name ∷ names) t rest up all = field_put name t (with_fields names t rest) up (fields_put names t rest up all)

signal_put : (name : List ℕ) (ts : CluTypes) (rest : Signals) → TypesAscend ts → SignalsAscend rest → SignalsAscend (with_signal name ts rest)
signal_put name ts no_signals up all = (up, tt)
signal_put name ts (signal_and other us rest) up all = by (comes_after name other) (signal_put name ts rest up all.1)
  where
    by : (b : Bool) → SignalsAscend (with_signal name ts rest) → SignalsAscend (if b then signal_and other us (with_signal name ts rest) else signal_and name ts (signal_and other us rest))
    by true more = (all.0, more)
    by false more = (up, all)

signal_listed : (name : List ℕ) (ts : CluTypes) (rest : Signals) → TypesAscend ts → SignalsAscend rest → SignalsAscend (listed_signal name ts rest)
signal_listed name ts rest up all = by (bytes_eq name (codes "failure"))
  where
    by : (b : Bool) → SignalsAscend (if b then rest else with_signal name ts rest)
    by true = all
    by false = signal_put name ts rest up all

-- ---- values

abbrev pub ValueAscends : Value → Type 0
ValueAscends (settled_type t) = Ascends t
ValueAscends _ = Unit {0}

in_value : (v : Value) → ValueAscends v → Ascends (type_in v)
in_value (settled_type t) up = up
in_value (settled_constant c) up = tt
in_value (settled_parameter k) up = tt
in_value unsettled up = tt

of_constant : (c : Option Const) → ValueAscends (constant_value c)
of_constant (Some c) = tt
of_constant None = tt

of_infix : (op : Operator) (a b : Option Const) → ValueAscends (infix_value op a b)
of_infix op (Some a) (Some b) = of_constant (folded (sugar op) a b)
of_infix op (Some a) None = tt
of_infix op None b = tt

of_brackets : (v : Value) → ValueAscends v → ValueAscends (with_brackets v)
of_brackets (settled_type t) up = up
of_brackets (settled_constant c) up = tt
of_brackets (settled_parameter k) up = tt
of_brackets unsettled up = tt

actual_put : (v : Value) (rest : Actuals) → ValueAscends v → ActualsAscend rest → ActualsAscend (with_actual v rest)
actual_put (settled_type t) rest up all = (up, all)
actual_put (settled_constant c) rest up all = all
actual_put (settled_parameter k) rest up all = all
actual_put unsettled rest up all = all

module_ascends : (name : List ℕ) (given : Actuals) → ActualsAscend given → Ascends (module_type name given)
module_ascends name no_actuals all = by (bytes_eq name (codes "stream"))
  where
    by : (b : Bool) → Ascends (if b then stream_type else cluster_of name no_actuals)
    by true = tt
    by false = tt
module_ascends name (actual_type t given) all = all
module_ascends name (actual_const c given) all = all
module_ascends name (actual_param n given) all = all

list_ascends : (word : ListType) (t : CluType) → Ascends t → Ascends (list_type word t)
list_ascends list.Array t up = up
list_ascends list.Sequence t up = up

fields_ascend : (word : FieldsType) (fs : Fields) → FieldsAscend fs → Ascends (fields_type word fs)
fields_ascend fields.Record fs all = all
fields_ascend fields.Struct fs all = all
fields_ascend fields.Oneof fs all = all
fields_ascend fields.Variant fs all = all

pub routine_ascends : (word : RoutineKind) (args results : CluTypes) (signals : Signals) → TypesAscend args → TypesAscend results → SignalsAscend signals → Ascends (routine_type word args results signals)
routine_ascends kind.Procedure args results raised a r s = (a, r, s)
routine_ascends kind.Iterator args results raised a r s = (a, r, s)

-- ---- where what equates stand for ascends

module _ (scope : Scope) (unfolded : Constant → Value) (known : (c : Constant) → ValueAscends (unfolded c)) where
  meaning_ascends : (name : Identifier) (given : Actuals) (its : Meaning) → ActualsAscend given → ValueAscends (value_of_meaning scope unfolded name given its)
  meaning_ascends name given (is_equate c) all = known c
  meaning_ascends name given is_module all = module_ascends name given all
  meaning_ascends name given _ all = tt

  name_ascends : (n : ℕ) (name : Identifier) (given : Actuals) → ActualsAscend given → ValueAscends (value_of_name scope unfolded n name given)
  name_ascends n name given all = meaning_ascends name given (meaning_of scope n name) all

  representation_ascends : (n : ℕ) → Ascends (representation_at scope unfolded n)
  representation_ascends n = in_value (value_of_name scope unfolded n (codes "rep") no_actuals) (name_ascends n (codes "rep") no_actuals tt)

  simple_ascends : (n : ℕ) (word : SimpleType) → Ascends (simple_type scope unfolded n word)
  simple_ascends n simple.Rep = representation_ascends n
  simple_ascends n simple.Cvt = representation_ascends n
  simple_ascends n _ = tt

  mutual
    expression_ascends : (e : Expression) → ValueAscends (value_of_expression scope unfolded e)
    expression_ascends (an_infix n op a b) = of_infix op (constant_in (value_of_expression scope unfolded a)) (constant_in (value_of_expression scope unfolded b))
    expression_ascends (a_prefix n s e) = of_constant (option_and_then (prefixed s) (constant_in (value_of_expression scope unfolded e)))
    expression_ascends (a_paren n e) = expression_ascends e
    expression_ascends (a_literal n literal) = of_constant (denoted literal)
    expression_ascends (a_name n name) = name_ascends n name no_actuals tt
    expression_ascends (an_index n (a_name m name) cs) = of_brackets (value_of_name scope unfolded m name (actuals scope unfolded cs)) (name_ascends m name (actuals scope unfolded cs) (actuals_ascend cs))
    expression_ascends _ = tt

    constant_ascends : (c : Constant) → ValueAscends (value_of_constant scope unfolded c)
    constant_ascends (an_expression e) = expression_ascends e
    constant_ascends (a_type t) = type_ascends t

    actuals_ascend : (cs : Constants) → ActualsAscend (actuals scope unfolded cs)
    actuals_ascend no_constants = tt
    actuals_ascend (constant_and c cs) = actual_put (value_of_constant scope unfolded c) (actuals scope unfolded cs) (constant_ascends c) (actuals_ascend cs)

    type_ascends : (t : TypeExpression) → Ascends (type_of scope unfolded t)
    type_ascends (a_simple_type n word) = simple_ascends n word
    type_ascends (a_list_type n word t) = list_ascends word (type_of scope unfolded t) (type_ascends t)
    type_ascends (a_fields_type n word ss) = fields_ascend word (fields_of scope unfolded ss) (selectors_ascend ss)
    type_ascends (a_routine_type n word args results signals) =
        routine_ascends word (types_of scope unfolded args) (types_of scope unfolded results) (signals_of scope unfolded signals) (types_ascend args) (types_ascend results) (exceptions_ascend signals)
    type_ascends (a_named_type n name cs) = in_value (value_of_name scope unfolded n name (actuals scope unfolded cs)) (name_ascends n name (actuals scope unfolded cs) (actuals_ascend cs))

    types_ascend : (ts : TypeExpressions) → TypesAscend (types_of scope unfolded ts)
    types_ascend no_types = tt
    types_ascend (type_and t ts) = (type_ascends t, types_ascend ts)

    selectors_ascend : (ss : Selectors) → FieldsAscend (fields_of scope unfolded ss)
    selectors_ascend no_selectors = tt
    selectors_ascend (selector_and n names t ss) = fields_put names (type_of scope unfolded t) (fields_of scope unfolded ss) (type_ascends t) (selectors_ascend ss)

    exceptions_ascend : (es : Exceptions) → SignalsAscend (signals_of scope unfolded es)
    exceptions_ascend no_exceptions = tt
    exceptions_ascend (exception_and n name ts es) = signal_listed name (types_of scope unfolded ts) (signals_of scope unfolded es) (types_ascend ts) (exceptions_ascend es)

-- ---- after any number of steps

unfolded_ascends : (scope : Scope) (n : ℕ) (c : Constant) → ValueAscends (unfolded_to scope n c)
unfolding unfolded_to
unfolded_ascends scope zero c = tt
unfolded_ascends scope (suc n) c = constant_ascends scope (unfolded_to scope n) (unfolded_ascends scope n) c

pub value_settled_ascends : (scope : Scope) (c : Constant) → ValueAscends (value_settled scope c)
value_settled_ascends scope c = constant_ascends scope (settled scope) (unfolded_ascends scope (length scope.declarations)) c

pub type_settled_ascends : (scope : Scope) (t : TypeExpression) → Ascends (type_settled scope t)
type_settled_ascends scope t = type_ascends scope (settled scope) (unfolded_ascends scope (length scope.declarations)) t

pub actuals_settled_ascend : (scope : Scope) (cs : Constants) → ActualsAscend (actuals_settled scope cs)
actuals_settled_ascend scope cs = actuals_ascend scope (settled scope) (unfolded_ascends scope (length scope.declarations)) cs
