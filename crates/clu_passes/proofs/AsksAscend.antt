-- What is asked at a node is asked of types of which the components ascend.
use Rattle.std.proofs.Common.{◌≡◌, ℕ, zero, suc, ◌<◌, ◌&&◌, Bool, true, false, List, [], ◌∷◌, ◌++◌, Contains, length, map, flat_map, get_or, codes, option_map, option_and_then, Option, Some, None, refl, subst, arith}
use Rattle.clu_types.specs.CluType.{CluType, cluster_of, parameter, Actuals}
use Rattle.clu_builtin.specs.Operation.{Needed, Operation}
use Rattle.clu_builtin.specs.Table.{operation}
use Rattle.clu_tree.specs.declared.node.NodeKind.{NodeKind}
use Rattle.clu_tree.specs.declared.node.NodeKind.TheVariants as kind
use Rattle.clu_syntax.specs.Syntax.{Identifier, Expression, an_infix, a_prefix, a_name, an_index, a_get, a_call, an_operation, Constants, Statement, a_set_field, a_set_index}
use Rattle.clu_meaning.specs.Constants.{Sugar, is_cand, is_cor, is_operation, is_negated, sugar, prefix_name}
use Rattle.clu_meaning.specs.Scoping.{Meaning, is_routine_of_cluster}
use Rattle.clu_meaning.specs.Settling.{type_settled, actuals_settled}
use Rattle.clu_checking.specs.Specifications.{Demand, Heading, Specification, demands_of, heading_named}
use Rattle.clu_checking.specs.Files.{File, item, kind_in, meaning, is_of_module, cluster_round}
use Rattle.clu_checking.specs.Headings.{own_type, specification}
use Rattle.clu_checking.specs.Operations.{Asked, Found, needed, builtin_found, asked_as, demanded, routine_found, given_at, given_of, given_found, headings_seen, operation_found}
use Rattle.clu_checking.specs.Typing.{type_of, name_type, takes_actuals}
use Rattle.clu_checking.specs.Wanted.{wanted, Named, named_at, has_fitting_kinds}
use Rattle.clu_checking.specs.Invocations.{Invocation, is_object_wanted, types_of, types_of_indexes, by_sugar, result_in, negations, by_infix, by_call, by_index, by_expression, by_statement, if_object, invocations_by, invocations, operation_by, if_named, own_routine, named_routine, operations_by, operations_at, asks_of, asks_by, asks_of_module, asks_of_name, asks_at}
use Rattle.clu_passes.specs.Ascending.{Ascends, AscendsIf, ActualsAscend, SpecificationsAscend}
use Rattle.clu_passes.proofs.AscendTests.{part_up, put_up}
use Rattle.clu_passes.proofs.ExpressionsAscend.{expression_up, name_up, sugar_result_up}
use Rattle.clu_passes.proofs.HeadingsAscend.{Each, If, each_behind, each_joined, place_up}
use Rattle.clu_passes.proofs.PartNeeds.{needs_of_parts}
use Rattle.clu_passes.proofs.SettledAscend.{type_settled_ascends, actuals_settled_ascend}

abbrev AskUp : Asked → Type 0
AskUp a = Ascends a.of

abbrev AsksUp : Found → Type 0
AsksUp x = Each AskUp x.asks

-- ---- one operation

needs_up : (needs : List Needed) → ((x : Needed) → Contains needs x → Ascends x.of) → Each AskUp (map needed needs)
needs_up [] each = tt
needs_up (x ∷ needs) each = (each x (0, omega arith, refl), needs_up needs (λ y h. each y (suc h.0, omega (arith, h.1), h.2)))

builtin_asks : (t : CluType) → Ascends t → (name : Identifier) → If AsksUp (option_map builtin_found (operation t name))
builtin_asks t up name = by (operation t name) refl
  where
    by : (o : Option Operation) → operation t name ≡ o → If AsksUp (option_map builtin_found o)
    by (Some o) e = needs_up o.needs (λ x h. part_up t up x.of (needs_of_parts t name o e x h))
    by None e = tt

demand_asks : (given : Actuals) → ActualsAscend given → (d : Demand) → Each AskUp (demanded given d)
demand_asks given all d = by d.wanted
  where
    by : (o : Option CluType) → Each AskUp (asked_as given d o)
    by (Some wanted) = (put_up given all d.parameter, tt)
    by None = tt

demands_ask : (given : Actuals) → ActualsAscend given → (ds : List Demand) → Each AskUp (flat_map (demanded given) ds)
demands_ask given all ds = each_joined AskUp (demanded given) (demand_asks given all) ds

heading_asks : (given : Actuals) → ActualsAscend given → (h : Option Heading) → If AsksUp (option_map (routine_found given) h)
heading_asks given all (Some h) = demands_ask given all h.demands
heading_asks given all None = tt

module _ (f : File) (library : SpecificationsAscend f.library) where
  given_asks : (d : Option Demand) → If AsksUp (option_map (given_found f) d)
  given_asks (Some d) = tt
  given_asks None = tt

  operation_asks : (n : ℕ) (t : CluType) → Ascends t → (name : Identifier) → If AsksUp (operation_found f n t name)
  operation_asks n (cluster_of c given) up name = heading_asks given up (heading_named (headings_seen f c (cluster_round f n)) name)
  operation_asks n (parameter k) up name = given_asks (given_of (given_at f n) k name)
  operation_asks n t up name = builtin_asks t up name

  operation_if_asks : (n : ℕ) (t : Option CluType) → AscendsIf t → (name : Identifier) → If AsksUp (option_and_then (λ t. operation_found f n t name) t)
  operation_if_asks n (Some t) up name = operation_asks n t up name
  operation_if_asks n None up name = tt

  -- ---- invocations

  abbrev InvokedUp : Invocation → Type 0
  InvokedUp i = If AsksUp i.invoked

  sugar_asks : (n : ℕ) (name : Identifier) (t : Option CluType) → AscendsIf t → (arguments : List (Option CluType)) → Each InvokedUp (by_sugar f n name t arguments)
  sugar_asks n name (Some t) up arguments = (operation_asks n t up name, tt)
  sugar_asks n name None up arguments = tt

  -- of what is invoked by sugar the result ascends
  negated_asks : (n : ℕ) (name : Identifier) (t : Option CluType) → AscendsIf t → (arguments : List (Option CluType)) → Each InvokedUp (negations f n (by_sugar f n name t arguments))
  negated_asks n name (Some t) up arguments =
      each_behind InvokedUp (by_sugar f n (codes "not") (result_in f (record { invoked = operation_found f n t name; arguments = Some t ∷ arguments })) []) []
      (sugar_asks n (codes "not") (result_in f (record { invoked = operation_found f n t name; arguments = Some t ∷ arguments })) (sugar_result_up f library n t up name) []) tt
  negated_asks n name None up arguments = tt

  infix_asks : (n : ℕ) (its : Sugar) (a b : Expression) → Each InvokedUp (by_infix f n its a b)
  infix_asks n is_cand a b = tt
  infix_asks n is_cor a b = tt
  infix_asks n (is_operation name) a b = sugar_asks n name (type_of f a) (expression_up f library a) (type_of f b ∷ [])
  infix_asks n (is_negated name) a b =
      each_behind InvokedUp (by_sugar f n name (type_of f a) (type_of f b ∷ [])) (negations f n (by_sugar f n name (type_of f a) (type_of f b ∷ [])))
      (sugar_asks n name (type_of f a) (expression_up f library a) (type_of f b ∷ [])) (negated_asks n name (type_of f a) (expression_up f library a) (type_of f b ∷ []))

  call_asks : (t : Option CluType) (arguments : List (Option CluType)) → Each InvokedUp (by_call f t arguments)
  call_asks (Some t) arguments = (tt, tt)
  call_asks None arguments = tt

  index_asks : (takes : Bool) (n : ℕ) (t : Option CluType) → AscendsIf t → (cs : Constants) → Each InvokedUp (by_index f takes n t cs)
  index_asks true n t up cs = tt
  index_asks false n t up cs = sugar_asks n (codes "fetch") t up (types_of_indexes f cs)

  expression_asks : (e : Expression) → Each InvokedUp (by_expression f e)
  expression_asks (an_infix n op a b) = infix_asks n (sugar op) a b
  expression_asks (a_prefix n s e) = sugar_asks n (prefix_name s) (type_of f e) (expression_up f library e) []
  expression_asks (an_index n (a_name m name) cs) = index_asks (takes_actuals f m name) n (name_type f m name) (name_up f library m name) cs
  expression_asks (an_index n e cs) = index_asks false n (type_of f e) (expression_up f library e) cs
  expression_asks (a_get n e name) = sugar_asks n (codes "get_" ++ name) (type_of f e) (expression_up f library e) []
  expression_asks (a_call n e es) = call_asks (type_of f e) (types_of f es)
  expression_asks _ = tt

  statement_asks : (s : Statement) → Each InvokedUp (by_statement f s)
  statement_asks (a_set_field n r name e) = sugar_asks n (codes "set_" ++ name) (type_of f r) (expression_up f library r) (type_of f e ∷ [])
  statement_asks (a_set_index n a i e) = sugar_asks n (codes "store") (type_of f a) (expression_up f library a) (type_of f i ∷ type_of f e ∷ [])
  statement_asks _ = tt

  object_asks : (b : Bool) (n : ℕ) → Each InvokedUp (if_object f b n)
  object_asks true n = expression_asks (item f n).expression
  object_asks false n = tt

  kind_asks : (k : NodeKind) (n : ℕ) → Each InvokedUp (invocations_by f k n)
  kind_asks kind.Infix n = object_asks (is_object_wanted (wanted f n)) n
  kind_asks kind.Prefix n = object_asks (is_object_wanted (wanted f n)) n
  kind_asks kind.Index n = object_asks (is_object_wanted (wanted f n)) n
  kind_asks kind.Get n = object_asks (is_object_wanted (wanted f n)) n
  kind_asks kind.Call n = object_asks (is_object_wanted (wanted f n)) n
  kind_asks kind.SetField n = statement_asks (item f n).statement
  kind_asks kind.SetIndex n = statement_asks (item f n).statement
  kind_asks _ n = tt

  -- ---- operations that are named

  abbrev OperationUp : Option Found → Type 0
  OperationUp o = If AsksUp o

  named_asks : (e : Expression) → Each OperationUp (operation_by f e)
  named_asks (an_operation n t name) = (operation_asks n (type_settled f.scope t) (type_settled_ascends f.scope t) name, tt)
  named_asks _ = tt

  if_named_asks : (b : Bool) (n : ℕ) → Each OperationUp (if_named f b n)
  if_named_asks true n = named_asks (item f n).expression
  if_named_asks false n = tt

  own_asks : (n : ℕ) (name : Identifier) (its : Meaning) → Each OperationUp (own_routine f n name its)
  own_asks n name is_routine_of_cluster = (operation_if_asks n (own_type f n) (place_up f (cluster_round f n)) name, tt)
  own_asks n name _ = tt

  routine_asks : (b : Bool) (e : Expression) → Each OperationUp (named_routine f b e)
  routine_asks true (a_name n name) = own_asks n name (meaning f n name)
  routine_asks true _ = tt
  routine_asks false e = tt

  operations_ask : (k : NodeKind) (n : ℕ) → Each OperationUp (operations_by f k n)
  operations_ask kind.OperOf n = if_named_asks (is_object_wanted (wanted f n)) n
  operations_ask kind.Name n = routine_asks (is_object_wanted (wanted f n)) (item f n).expression
  operations_ask _ n = tt

  invoked_ask : (is : List Invocation) → Each InvokedUp is → Each OperationUp (map (λ i. i.invoked) is)
  invoked_ask [] all = tt
  invoked_ask (i ∷ is) all = (all.0, invoked_ask is all.1)

  all_ask : (os : List (Option Found)) → Each OperationUp os → Each AskUp (flat_map (asks_of f) os)
  all_ask [] all = tt
  all_ask (o ∷ os) all = each_behind AskUp (asks_of f o) (flat_map (asks_of f) os) (one o all.0) (all_ask os all.1)
    where
      one : (o : Option Found) → OperationUp o → Each AskUp (asks_of f o)
      one (Some x) up = up
      one None up = tt

  -- ---- modules that are named

  module_asks : (b : Bool) (x : Named) → Each AskUp (asks_of_module f b x)
  module_asks true x = by (specification f x.name)
    where
      by : (s : Option Specification) → Each AskUp (asks_by f x.constants s)
      by (Some s) = demands_ask (actuals_settled f.scope x.constants) (actuals_settled_ascend f.scope x.constants) (demands_of s.form)
      by None = tt
  module_asks false x = tt

  asks_each : (n : ℕ) → Each AskUp (asks_at f n)
  asks_each n =
      each_behind AskUp (flat_map (asks_of f) (operations_at f n)) (flat_map (asks_of_name f) (named_at f n))
      (all_ask (operations_at f n)
      (each_behind OperationUp (map (λ i. i.invoked) (invocations f n)) (operations_by f (kind_in f n) n) (invoked_ask (invocations f n) (kind_asks (kind_in f n) n)) (operations_ask (kind_in f n) n)))
      (each_joined AskUp (asks_of_name f) (λ x. module_asks (is_of_module f x.node x.name && has_fitting_kinds f x) x) (named_at f n))

  of_each : (asks : List Asked) → Each AskUp asks → (a : Asked) → Contains asks a → Ascends a.of
  of_each [] all a h = absurd (omega (arith, h.1))
  of_each (x ∷ asks) all a h = by (of_each asks all.1 a) h.0 h.1 h.2
    where
      by : (Contains asks a → Ascends a.of) → (k : ℕ) → k < length (x ∷ asks) → get_or (x ∷ asks) k a ≡ a → Ascends a.of
      by rest zero lt is = subst AskUp is all.0
      by rest (suc k) lt is = rest (k, omega (arith, lt), is)

  pub asks_ascend : (n : ℕ) (a : Asked) → Contains (asks_at f n) a → Ascends a.of
  asks_ascend n a h = of_each (asks_at f n) (asks_each n) a h
