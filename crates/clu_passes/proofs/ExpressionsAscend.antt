-- Components ascend in the types of expressions, and in those of the operations that types have.
use Rattle.std.proofs.Common.{◌≡◌, ℕ, Bool, true, false, if◌then◌else◌, ◌++◌, bytes_eq, codes, option_map, option_and_then, Option, Some, None, refl}
use Rattle.clu_base.specs.declared.constants.Const.{Const}
use Rattle.clu_base.specs.declared.constants.Const.TheVariants as constant
use Rattle.clu_types.specs.CluType.{CluType, proc_of, iter_of, cluster_of, parameter, CluTypes, no_types, type_and, Actuals, no_actuals}
use Rattle.clu_types.specs.Substituted.{substituted}
use Rattle.clu_types.specs.declared.spec.ParamKind.{ParamKind}
use Rattle.clu_builtin.specs.Operation.{Operation}
use Rattle.clu_builtin.specs.Table.{operation}
use Rattle.clu_syntax.specs.Syntax.{Identifier, Literal, nil, true_literal, false_literal, integer, real, character, string, TypeExpression, Routine, Cluster, Expression, an_infix, a_prefix, a_paren, a_literal, a_name, an_index, a_get, a_call, fields, elements, elements_from, an_operation, a_force, an_up, a_down, Constants}
use Rattle.clu_meaning.specs.Constants.{Sugar, is_cand, is_cor, is_operation, is_negated, sugar, prefix_name}
use Rattle.clu_meaning.specs.Scoping.{Meaning, is_equate, is_local, is_own_of_routine, is_own_of_cluster, is_constant_parameter, is_routine_of_cluster, is_module}
use Rattle.clu_meaning.specs.Settling.{Value, settled_type, settled_constant, settled_parameter, unsettled, type_settled, actuals_settled}
use Rattle.clu_meaning.specs.Resolving.{heading_type}
use Rattle.clu_checking.specs.Settled.{value_settled}
use Rattle.clu_checking.specs.Specifications.{Demand, Heading, Form, of_routine, of_cluster, Specification, heading_named}
use Rattle.clu_checking.specs.Files.{File, item, meaning, routine_round, cluster_round, variable_number}
use Rattle.clu_checking.specs.Headings.{legal_type, kind_of_parameter, for_body, is_represented, is_refused_rep, is_refused_inside, place_at, own_type, known_inside, declared_parameter, parameter_type_of, parameter_type, routines_of, specification}
use Rattle.clu_checking.specs.Operations.{Found, is_given, given_of, builtin_type, builtin_found, routine_found, given_by_set, sets_round, given_by_sets, given_by_routine, given_by_cluster, given_at, exported_headings, headings_seen, given_found, operation_found}
use Rattle.clu_checking.specs.Typing.{only, result_of, literal_type, constant_type, representation_of, found_in, heading_in, found_type, value_type, module_found, own_found, type_of_meaning, name_type, takes_actuals, sugar_found, sugar_type, infix_type, rep_value, representation, instance_found, index_type, type_of}
use Rattle.clu_passes.specs.Ascending.{Ascends, TypesAscend, ActualsAscend, AscendsIf, SpecificationsAscend}
use Rattle.clu_passes.proofs.SettledAscend.{ValueAscends, value_settled_ascends, type_settled_ascends, actuals_settled_ascend}
use Rattle.clu_passes.proofs.SubstitutedAscend.{type_put_in}
use Rattle.clu_passes.proofs.OperationsAscend.{HeadingAscends, operation_ascends}
use Rattle.clu_passes.proofs.HeadingsAscend.{Each, If, each_behind, each_found, each_joined, HeadingUp, DemandUp, FormUp, SpecificationUp, operations_up, body_up, heading_type_up, place_up, routines_up, specification_up, set_up, demands_up}

-- ---- what was found

abbrev FoundUp : Found → Type 0
FoundUp found = AscendsIf found.type

found_type_up : (found : Option Found) → If FoundUp found → AscendsIf (found_type found)
found_type_up (Some found) up = up
found_type_up None up = tt

builtin_type_up : (iter : Bool) (o : Operation) → HeadingAscends o → Ascends (builtin_type iter o)
builtin_type_up true o up = (up.args, up.results, up.signals)
builtin_type_up false o up = (up.args, up.results, up.signals)

builtin_up : (t : CluType) → Ascends t → (name : Identifier) → If FoundUp (option_map builtin_found (operation t name))
builtin_up t up name = by (operation t name) refl
  where
    by : (o : Option Operation) → operation t name ≡ o → If FoundUp (option_map builtin_found o)
    by (Some o) e = builtin_type_up o.iter o (operation_ascends t up name o e)
    by None e = tt

type_given_up : (given : Actuals) → ActualsAscend given → (t : Option CluType) → AscendsIf t → AscendsIf (option_map (substituted given) t)
type_given_up given all (Some t) up = type_put_in given all t up
type_given_up given all None up = tt

heading_found_up : (given : Actuals) → ActualsAscend given → (h : Option Heading) → If HeadingUp h → If FoundUp (option_map (routine_found given) h)
heading_found_up given all (Some h) up = type_given_up given all h.type up
heading_found_up given all None up = tt

-- ---- the result of a routine

only_up : (ts : CluTypes) → TypesAscend ts → AscendsIf (only ts)
only_up no_types all = tt
only_up (type_and t no_types) all = all.0
only_up (type_and t (type_and u us)) all = tt

result_up : (t : CluType) → Ascends t → AscendsIf (result_of t)
result_up (proc_of args results raised) up = only_up results up.1
result_up (iter_of args results raised) up = only_up results up.1
result_up _ up = tt

result_if_up : (t : Option CluType) → AscendsIf t → AscendsIf (option_and_then result_of t)
result_if_up (Some t) up = result_up t up
result_if_up None up = tt

constant_type_up : (c : Const) → Ascends (constant_type c)
constant_type_up constant.Null = tt
constant_type_up (constant.Bool b) = tt
constant_type_up (constant.Int n) = tt
constant_type_up (constant.Char c) = tt
constant_type_up (constant.Str bytes) = tt

literal_type_up : (literal : Literal) → AscendsIf (literal_type literal)
literal_type_up nil = tt
literal_type_up true_literal = tt
literal_type_up false_literal = tt
literal_type_up (integer digits) = tt
literal_type_up (real text) = tt
literal_type_up (character text) = tt
literal_type_up (string text) = tt

module _ (f : File) (library : SpecificationsAscend f.library) where
  -- ---- the operations of a type

  given_up : (n : ℕ) → Each DemandUp (given_at f n)
  given_up n =
      each_behind DemandUp (given_by_routine f (routine_round f n) ++ given_by_cluster f (cluster_round f n)) (given_by_sets f n)
      (each_behind DemandUp (given_by_routine f (routine_round f n)) (given_by_cluster f (cluster_round f n)) (of_routine_up (routine_round f n)) (of_cluster_up (cluster_round f n)))
      (each_joined DemandUp (λ s. given_by_set f s (item f s).type_set) (λ s. set_up f (variable_number f.nodes f.rounds s) (item f s).type_set) (sets_round f n))
    where
      of_routine_up : (r : Option Routine) → Each DemandUp (given_by_routine f r)
      of_routine_up (Some r) = demands_up f r.restrictions
      of_routine_up None = tt

      of_cluster_up : (c : Option Cluster) → Each DemandUp (given_by_cluster f c)
      of_cluster_up (Some c) = demands_up f c.restrictions
      of_cluster_up None = tt

  exported_up : (s : Option Specification) → If SpecificationUp s → Each HeadingUp (exported_headings f s)
  exported_up (Some s) up = operations_up s.form up
  exported_up None up = tt

  headings_seen_up : (name : Identifier) (c : Option Cluster) → Each HeadingUp (headings_seen f name c)
  headings_seen_up name (Some c) = by (bytes_eq c.name name)
    where
      by : (b : Bool) → Each HeadingUp (if b then routines_of f c else exported_headings f (specification f name))
      by true = routines_up f c
      by false = exported_up (specification f name) (specification_up f library name)
  headings_seen_up name None = exported_up (specification f name) (specification_up f library name)

  given_found_up : (d : Option Demand) → If DemandUp d → If FoundUp (option_map (given_found f) d)
  given_found_up (Some d) up = up
  given_found_up None up = tt

  operation_found_up : (n : ℕ) (t : CluType) → Ascends t → (name : Identifier) → If FoundUp (operation_found f n t name)
  operation_found_up n (cluster_of c given) up name =
      heading_found_up given up (heading_named (headings_seen f c (cluster_round f n)) name)
      (each_found HeadingUp (λ h. bytes_eq h.name name) (headings_seen f c (cluster_round f n)) (headings_seen_up c (cluster_round f n)))
  operation_found_up n (parameter k) up name = given_found_up (given_of (given_at f n) k name) (each_found DemandUp (is_given k name) (given_at f n) (given_up n))
  operation_found_up n t up name = builtin_up t up name

  operation_if_up : (n : ℕ) (t : Option CluType) → AscendsIf t → (name : Identifier) → If FoundUp (option_and_then (λ t. operation_found f n t name) t)
  operation_if_up n (Some t) up name = operation_found_up n t up name
  operation_if_up n None up name = tt

  -- ---- names

  legal_up : (t : TypeExpression) → AscendsIf (legal_type (type_settled f.scope t) (kind_of_parameter f (Some t)))
  legal_up t = by (kind_of_parameter f (Some t))
    where
      by : (k : Option ParamKind) → AscendsIf (legal_type (type_settled f.scope t) k)
      by (Some k) = type_settled_ascends f.scope t
      by None = tt

  parameter_up : (n k : ℕ) → AscendsIf (parameter_type f n k)
  parameter_up n k = by (declared_parameter f n k)
    where
      by : (t : Option TypeExpression) → AscendsIf (parameter_type_of f t)
      by (Some t) = legal_up t
      by None = tt

  known_up : (n : ℕ) (t : TypeExpression) → AscendsIf (known_inside f n t)
  known_up n t = by (is_refused_inside f n t)
    where
      by : (b : Bool) → AscendsIf (if b then None else Some (for_body (is_represented f n) (heading_type (place_at f n) t)))
      by true = tt
      by false = body_up (is_represented f n) (heading_type (place_at f n) t) (heading_type_up (place_at f n) (place_up f (cluster_round f n)) t)

  form_found_up : (given : Actuals) → ActualsAscend given → (s : Option Specification) → If SpecificationUp s → If FoundUp (heading_in given s)
  form_found_up given all (Some s) up = by s.form up
    where
      by : (form : Form) → FormUp form → If FoundUp (found_in given form)
      by (of_routine h) up = type_given_up given all h.type up
      by (of_cluster demands headings) up = tt
  form_found_up given all None up = tt

  module_up : (name : Identifier) (given : Actuals) → ActualsAscend given → If FoundUp (module_found f name given)
  module_up name given all = form_found_up given all (specification f name) (specification_up f library name)

  value_up : (n : ℕ) (v : Value) → AscendsIf (value_type f n v)
  value_up n (settled_constant c) = constant_type_up c
  value_up n (settled_parameter k) = parameter_up n k
  value_up n (settled_type t) = tt
  value_up n unsettled = tt

  named_up : (n : ℕ) (name : Identifier) (its : Meaning) → AscendsIf (type_of_meaning f n name its)
  named_up n name (is_local t) = known_up n t
  named_up n name (is_own_of_routine t) = known_up n t
  named_up n name (is_own_of_cluster t) = known_up n t
  named_up n name (is_equate c) = value_up n (value_settled f.scope c)
  named_up n name (is_constant_parameter k) = parameter_up n k
  named_up n name is_routine_of_cluster = found_type_up (own_found f n name) (operation_if_up n (own_type f n) (place_up f (cluster_round f n)) name)
  named_up n name is_module = found_type_up (module_found f name no_actuals) (module_up name no_actuals tt)
  named_up n name _ = tt

  pub name_up : (n : ℕ) (name : Identifier) → AscendsIf (name_type f n name)
  name_up n name = named_up n name (meaning f n name)

  -- ---- sugar

  pub sugar_up : (n : ℕ) (name : Identifier) (t : Option CluType) → AscendsIf t → AscendsIf (sugar_type f n name t)
  sugar_up n name t up = result_if_up (found_type (sugar_found f n name t)) (found_type_up (sugar_found f n name t) (operation_if_up n t up name))

  pub sugar_result_up : (n : ℕ) (t : CluType) → Ascends t → (name : Identifier) → AscendsIf (option_and_then result_of (found_type (operation_found f n t name)))
  sugar_result_up n t up name = result_if_up (found_type (operation_found f n t name)) (found_type_up (operation_found f n t name) (operation_found_up n t up name))

  infix_up : (n : ℕ) (its : Sugar) (t : Option CluType) → AscendsIf t → AscendsIf (infix_type f n its t)
  infix_up n is_cand t up = tt
  infix_up n is_cor t up = tt
  infix_up n (is_operation name) t up = sugar_up n name t up
  infix_up n (is_negated name) t up = sugar_up n (codes "not") (sugar_type f n name t) (sugar_up n name t up)

  -- ---- expressions

  settled_value_up : (v : Value) → ValueAscends v → AscendsIf (representation_of v)
  settled_value_up (settled_type t) up = up
  settled_value_up (settled_constant c) up = tt
  settled_value_up (settled_parameter k) up = tt
  settled_value_up unsettled up = tt

  rep_up : (its : Meaning) → AscendsIf (rep_value f its)
  rep_up (is_equate c) = settled_value_up (value_settled f.scope c) (value_settled_ascends f.scope c)
  rep_up _ = tt

  representation_up : (n : ℕ) → AscendsIf (representation f n)
  representation_up n = by (is_refused_rep f n)
    where
      by : (b : Bool) → AscendsIf (if b then None else rep_value f (meaning f n (codes "rep")))
      by true = tt
      by false = rep_up (meaning f n (codes "rep"))

  instance_up : (its : Meaning) (name : Identifier) (cs : Constants) → If FoundUp (instance_found f its name cs)
  instance_up is_module name cs = module_up name (actuals_settled f.scope cs) (actuals_settled_ascend f.scope cs)
  instance_up _ name cs = tt

  index_up : (takes : Bool) (n m : ℕ) (name : Identifier) (cs : Constants) → AscendsIf (index_type f takes n m name cs)
  index_up true n m name cs = found_type_up (instance_found f (meaning f m name) name cs) (instance_up (meaning f m name) name cs)
  index_up false n m name cs = sugar_up n (codes "fetch") (name_type f m name) (name_up m name)

  pub expression_up : (e : Expression) → AscendsIf (type_of f e)
  expression_up (an_infix n op a b) = infix_up n (sugar op) (type_of f a) (expression_up a)
  expression_up (a_prefix n s e) = sugar_up n (prefix_name s) (type_of f e) (expression_up e)
  expression_up (a_paren n e) = expression_up e
  expression_up (a_literal n literal) = literal_type_up literal
  expression_up (a_name n name) = name_up n name
  expression_up (an_index n (a_name m name) cs) = index_up (takes_actuals f m name) n m name cs
  expression_up (an_index n e cs) = sugar_up n (codes "fetch") (type_of f e) (expression_up e)
  expression_up (a_get n e name) = sugar_up n (codes "get_" ++ name) (type_of f e) (expression_up e)
  expression_up (a_call n e es) = result_if_up (type_of f e) (expression_up e)
  expression_up (fields n t cs) = type_settled_ascends f.scope t
  expression_up (elements n t es) = type_settled_ascends f.scope t
  expression_up (elements_from n t e es) = type_settled_ascends f.scope t
  expression_up (an_operation n t name) = found_type_up (operation_found f n (type_settled f.scope t) name) (operation_found_up n (type_settled f.scope t) (type_settled_ascends f.scope t) name)
  expression_up (a_force n t) = ((tt, tt), (type_settled_ascends f.scope t, tt), (tt, tt))
  expression_up (an_up n e) = place_up f (cluster_round f n)
  expression_up (a_down n e) = representation_up n
