-- The types of expressions, each from the types of what stands in it. An expression that violates a rule may have none.
use Rattle.std.specs.Prelude.{ℕ, ◌++◌, ◌||◌, Bool, true, false, codes, if◌then◌else◌, Option, Some, None}
use Rattle.std.specs.Option.{option_and_then}
use Rattle.clu_base.specs.declared.constants.Const.{Const}
use Rattle.clu_base.specs.declared.constants.Const.TheVariants as constant
use Rattle.clu_types.specs.CluType.{CluType, null_type, bool_type, int_type, char_type, string_type, any_type, proc_of, iter_of, CluTypes, no_types, type_and, Signals, no_signals, signal_and, Actuals, no_actuals}
use Rattle.clu_syntax.specs.Syntax.{Identifier, Literal, nil, true_literal, false_literal, integer, real, character, string, Expression, an_infix, a_prefix, a_paren, a_literal, a_name, an_index, a_get, a_call, fields, elements, elements_from, an_operation, a_force, an_up, a_down, Constants}
use Rattle.clu_meaning.specs.Constants.{Sugar, is_cand, is_cor, is_operation, is_negated, sugar, prefix_name}
use Rattle.clu_meaning.specs.Scoping.{Meaning, is_equate, is_type_set, is_type_parameter, is_constant_parameter, is_local, is_own_of_routine, is_own_of_cluster, is_routine_of_cluster, is_module}
use Rattle.clu_meaning.specs.Settling.{Value, settled_type, settled_constant, settled_parameter, type_settled, actuals_settled}
use Rattle.clu_checking.specs.Settled.{value_settled}
use Rattle.clu_checking.specs.Specifications.{Form, of_routine, of_cluster, Specification}
use Rattle.clu_checking.specs.Files.{File, meaning}
use Rattle.clu_checking.specs.Equates.{is_set_name}
use Rattle.clu_checking.specs.Headings.{is_refused_rep, known_inside, own_type, parameter_type, specification}
use Rattle.clu_checking.specs.Operations.{Found, routine_found, operation_found}

-- ---- routine types

-- the only result of a routine; another number of results, and what is no routine, gives none
abbrev pub only : CluTypes → Option CluType
only (type_and t no_types) = Some t
only _ = None

abbrev pub results_of : CluType → CluTypes
results_of (proc_of args results ss) = results
results_of (iter_of args results ss) = results
results_of _ = no_types

abbrev pub arguments_of : CluType → CluTypes
arguments_of (proc_of args results ss) = args
arguments_of (iter_of args results ss) = args
arguments_of _ = no_types

abbrev pub signals_of : CluType → Signals
signals_of (proc_of args results ss) = ss
signals_of (iter_of args results ss) = ss
signals_of _ = no_signals

abbrev pub result_of : CluType → Option CluType
result_of t = only (results_of t)

-- ---- literals and constants

abbrev pub literal_type : Literal → Option CluType
literal_type nil = Some null_type
literal_type true_literal = Some bool_type
literal_type false_literal = Some bool_type
literal_type (integer digits) = Some int_type
literal_type (real text) = None
literal_type (character text) = Some char_type
literal_type (string text) = Some string_type

abbrev pub constant_type : Const → CluType
constant_type constant.Null = null_type
constant_type (constant.Bool b) = bool_type
constant_type (constant.Int n) = int_type
constant_type (constant.Char c) = char_type
constant_type (constant.Str bytes) = string_type

-- force[t]
abbrev pub force_type : CluType → CluType
force_type t = proc_of (type_and any_type no_types) (type_and t no_types) (signal_and (codes "wrong_type") no_types no_signals)

-- `rep` is the name of an equate of the cluster
abbrev pub representation_of : Value → Option CluType
representation_of (settled_type t) = Some t
representation_of _ = None

abbrev pub found_in : Actuals → Form → Option Found
found_in given (of_routine h) = Some (routine_found given h)
found_in given (of_cluster ds hs) = None

abbrev pub heading_in : Actuals → Option Specification → Option Found
heading_in given (Some s) = found_in given s.form
heading_in given None = None

abbrev pub found_type : Option Found → Option CluType
found_type found = option_and_then (λ x. x.type) found

abbrev pub is_type_value : Value → Bool
is_type_value (settled_type t) = true
is_type_value _ = false

module _ (f : File) where
  -- ---- names

  abbrev pub value_type : ℕ → Value → Option CluType
  value_type n (settled_constant c) = Some (constant_type c)
  value_type n (settled_parameter k) = parameter_type f n k
  value_type n _ = None

  -- the routine of a module, with actuals
  abbrev pub module_found : Identifier → Actuals → Option Found
  module_found name given = heading_in given (specification f name)

  -- the routine of the cluster round a node by its name alone
  abbrev pub own_found : ℕ → Identifier → Option Found
  own_found n name = option_and_then (λ t. operation_found f n t name) (own_type f n)

  -- a name by what it denotes
  abbrev pub type_of_meaning : ℕ → Identifier → Meaning → Option CluType
  type_of_meaning n name (is_local t) = known_inside f n t
  type_of_meaning n name (is_own_of_routine t) = known_inside f n t
  type_of_meaning n name (is_own_of_cluster t) = known_inside f n t
  type_of_meaning n name (is_equate c) = value_type n (value_settled f.scope c)
  type_of_meaning n name (is_constant_parameter k) = parameter_type f n k
  type_of_meaning n name is_routine_of_cluster = found_type (own_found n name)
  type_of_meaning n name is_module = found_type (module_found name no_actuals)
  type_of_meaning n name _ = None

  abbrev pub name_type : ℕ → Identifier → Option CluType
  name_type n name = type_of_meaning n name (meaning f n name)

  -- brackets after the name hold actuals, and no index: it is a module's, or stands for a type or a type set
  abbrev pub takes_actuals_by : ℕ → Identifier → Meaning → Bool
  takes_actuals_by n name (is_equate c) = is_type_value (value_settled f.scope c) || is_set_name f n name
  takes_actuals_by n name is_type_set = true
  takes_actuals_by n name (is_type_parameter k) = true
  takes_actuals_by n name is_module = true
  takes_actuals_by n name _ = false

  abbrev pub takes_actuals : ℕ → Identifier → Bool
  takes_actuals n name = takes_actuals_by n name (meaning f n name)

  -- ---- sugar: an operation of the left operand's type

  abbrev pub sugar_found : ℕ → Identifier → Option CluType → Option Found
  sugar_found n name t = option_and_then (λ t. operation_found f n t name) t

  abbrev pub sugar_type : ℕ → Identifier → Option CluType → Option CluType
  sugar_type n name t = option_and_then result_of (found_type (sugar_found n name t))

  -- a ~= b is ~(a = b), and so for the other comparisons
  abbrev pub infix_type : ℕ → Sugar → Option CluType → Option CluType
  infix_type n is_cand t = Some bool_type
  infix_type n is_cor t = Some bool_type
  infix_type n (is_operation name) t = sugar_type n name t
  infix_type n (is_negated name) t = sugar_type n (codes "not") (sugar_type n name t)

  -- ---- up and down

  abbrev pub rep_value : Meaning → Option CluType
  rep_value (is_equate c) = representation_of (value_settled f.scope c)
  rep_value _ = None

  -- the representation of the cluster round a node, unless it is refused where it stands
  abbrev pub representation : ℕ → Option CluType
  representation n = if is_refused_rep f n then None else rep_value (meaning f n (codes "rep"))

  -- ---- expressions

  -- the routine of a module with actuals
  abbrev pub instance_found : Meaning → Identifier → Constants → Option Found
  instance_found is_module name cs = module_found name (actuals_settled f.scope cs)
  instance_found _ name cs = None

  abbrev pub index_type : Bool → ℕ → ℕ → Identifier → Constants → Option CluType
  index_type true n m name cs = found_type (instance_found (meaning f m name) name cs)
  index_type false n m name cs = sugar_type n (codes "fetch") (name_type m name)

  abbrev pub type_of : Expression → Option CluType
  type_of (an_infix n op a b) = infix_type n (sugar op) (type_of a)
  type_of (a_prefix n s e) = sugar_type n (prefix_name s) (type_of e)
  type_of (a_paren n e) = type_of e
  type_of (a_literal n literal) = literal_type literal
  type_of (a_name n name) = name_type n name
  type_of (an_index n (a_name m name) cs) = index_type (takes_actuals m name) n m name cs
  type_of (an_index n e cs) = sugar_type n (codes "fetch") (type_of e)
  type_of (a_get n e name) = sugar_type n (codes "get_" ++ name) (type_of e)
  type_of (a_call n e es) = option_and_then result_of (type_of e)
  type_of (fields n t cs) = Some (type_settled f.scope t)
  type_of (elements n t es) = Some (type_settled f.scope t)
  type_of (elements_from n t e es) = Some (type_settled f.scope t)
  type_of (an_operation n t name) = found_type (operation_found f n (type_settled f.scope t) name)
  type_of (a_force n t) = Some (force_type (type_settled f.scope t))
  type_of (an_up n e) = own_type f n
  type_of (a_down n e) = representation n
