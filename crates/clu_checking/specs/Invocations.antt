-- What is invoked at a node, by a call or by sugar, and what is asked of types there.
use Rattle.std.specs.Prelude.{ℕ, ◌++◌, ◌&&◌, Bool, true, false, List, [], ◌∷◌, map, flat_map, codes, Option, Some, None}
use Rattle.std.specs.Option.{option_and_then}
use Rattle.clu_types.specs.CluType.{CluType}
use Rattle.clu_tree.specs.declared.node.NodeKind.{NodeKind}
use Rattle.clu_tree.specs.declared.node.NodeKind.TheVariants as kind
use Rattle.clu_syntax.specs.Syntax.{Identifier, Expression, an_infix, a_prefix, a_name, an_index, a_get, a_call, an_operation, Expressions, no_expressions, expression_and, Constant, an_expression, a_type, Constants, no_constants, constant_and, Statement, a_set_field, a_set_index}
use Rattle.clu_meaning.specs.Constants.{Sugar, is_cand, is_cor, is_operation, is_negated, sugar, prefix_name}
use Rattle.clu_meaning.specs.Scoping.{Meaning, is_routine_of_cluster}
use Rattle.clu_meaning.specs.Settling.{type_settled, actuals_settled}
use Rattle.clu_checking.specs.Specifications.{Specification, demands_of}
use Rattle.clu_checking.specs.Files.{File, item, kind_in, meaning, is_of_module}
use Rattle.clu_checking.specs.Headings.{specification}
use Rattle.clu_checking.specs.Operations.{Asked, demanded, Found, operation_found}
use Rattle.clu_checking.specs.Typing.{type_of, name_type, own_found, found_type, result_of, takes_actuals}
use Rattle.clu_checking.specs.Wanted.{Wanted, an_object, some_objects, a_loop_call, a_type, wanted, Named, named_at, has_fitting_kinds}

-- What is invoked, unless the left operand's type has no such operation; and the types of the arguments, as far as they
-- have some.
pub record Invocation : Type 0 where
  pub invoked : Option Found
  pub arguments : List (Option CluType)

abbrev pub is_object_wanted : Wanted → Bool
is_object_wanted an_object = true
is_object_wanted some_objects = true
is_object_wanted a_loop_call = true
is_object_wanted _ = false

module _ (f : File) where
  abbrev pub types_of : Expressions → List (Option CluType)
  types_of no_expressions = []
  types_of (expression_and e es) = type_of f e ∷ types_of es

  abbrev pub type_of_index : Constant → Option CluType
  type_of_index (an_expression e) = type_of f e
  type_of_index (a_type t) = None

  abbrev pub types_of_indexes : Constants → List (Option CluType)
  types_of_indexes no_constants = []
  types_of_indexes (constant_and c cs) = type_of_index c ∷ types_of_indexes cs

  -- ---- sugar: the operation of this name of the first argument's type

  abbrev pub by_sugar : ℕ → Identifier → Option CluType → List (Option CluType) → List Invocation
  by_sugar n name (Some t) arguments = record { invoked = operation_found f n t name; arguments = Some t ∷ arguments } ∷ []
  by_sugar n name None arguments = []

  abbrev pub result_in : Invocation → Option CluType
  result_in i = option_and_then result_of (found_type i.invoked)

  -- of what a comparison gives `not` is invoked
  abbrev pub negations : ℕ → List Invocation → List Invocation
  negations n is = flat_map (λ i. by_sugar n (codes "not") (result_in i) []) is

  abbrev pub by_infix : ℕ → Sugar → Expression → Expression → List Invocation
  by_infix n is_cand a b = []
  by_infix n is_cor a b = []
  by_infix n (is_operation name) a b = by_sugar n name (type_of f a) (type_of f b ∷ [])
  by_infix n (is_negated name) a b =
      let compared = by_sugar n name (type_of f a) (type_of f b ∷ []) in
      compared ++ negations n compared

  abbrev pub by_call : Option CluType → List (Option CluType) → List Invocation
  by_call (Some t) arguments = record { invoked = Some (record { type = Some t; asks = [] }); arguments = arguments } ∷ []
  by_call None arguments = []

  abbrev pub by_index : Bool → ℕ → Option CluType → Constants → List Invocation
  by_index true n t cs = []
  by_index false n t cs = by_sugar n (codes "fetch") t (types_of_indexes cs)

  abbrev pub by_expression : Expression → List Invocation
  by_expression (an_infix n op a b) = by_infix n (sugar op) a b
  by_expression (a_prefix n s e) = by_sugar n (prefix_name s) (type_of f e) []
  by_expression (an_index n (a_name m name) cs) = by_index (takes_actuals f m name) n (name_type f m name) cs
  by_expression (an_index n e cs) = by_index false n (type_of f e) cs
  by_expression (a_get n e name) = by_sugar n (codes "get_" ++ name) (type_of f e) []
  by_expression (a_call n e es) = by_call (type_of f e) (types_of es)
  by_expression _ = []

  abbrev pub by_statement : Statement → List Invocation
  by_statement (a_set_field n r name e) = by_sugar n (codes "set_" ++ name) (type_of f r) (type_of f e ∷ [])
  by_statement (a_set_index n a i e) = by_sugar n (codes "store") (type_of f a) (type_of f i ∷ type_of f e ∷ [])
  by_statement _ = []

  -- a constant as a whole is no invocation
  abbrev pub if_object : Bool → ℕ → List Invocation
  if_object true n = by_expression (item f n).expression
  if_object false n = []

  abbrev pub invocations_by : NodeKind → ℕ → List Invocation
  invocations_by kind.Infix n = if_object (is_object_wanted (wanted f n)) n
  invocations_by kind.Prefix n = if_object (is_object_wanted (wanted f n)) n
  invocations_by kind.Index n = if_object (is_object_wanted (wanted f n)) n
  invocations_by kind.Get n = if_object (is_object_wanted (wanted f n)) n
  invocations_by kind.Call n = if_object (is_object_wanted (wanted f n)) n
  invocations_by kind.SetField n = by_statement (item f n).statement
  invocations_by kind.SetIndex n = by_statement (item f n).statement
  invocations_by _ n = []

  -- what is invoked at a node
  abbrev pub invocations : ℕ → List Invocation
  invocations n = invocations_by (kind_in f n) n

  -- ---- operations that are named and not invoked: `t$op`, and a cluster's routine by its name alone

  abbrev pub operation_by : Expression → List (Option Found)
  operation_by (an_operation n t name) = operation_found f n (type_settled f.scope t) name ∷ []
  operation_by _ = []

  abbrev pub if_named : Bool → ℕ → List (Option Found)
  if_named true n = operation_by (item f n).expression
  if_named false n = []

  abbrev pub own_routine : ℕ → Identifier → Meaning → List (Option Found)
  own_routine n name is_routine_of_cluster = own_found f n name ∷ []
  own_routine n name _ = []

  abbrev pub named_routine : Bool → Expression → List (Option Found)
  named_routine true (a_name n name) = own_routine n name (meaning f n name)
  named_routine _ e = []

  abbrev pub operations_by : NodeKind → ℕ → List (Option Found)
  operations_by kind.OperOf n = if_named (is_object_wanted (wanted f n)) n
  operations_by kind.Name n = named_routine (is_object_wanted (wanted f n)) (item f n).expression
  operations_by _ n = []

  -- the operations that are named or invoked at a node; None where the type has none of this name
  abbrev pub operations_at : ℕ → List (Option Found)
  operations_at n = map (λ i. i.invoked) (invocations n) ++ operations_by (kind_in f n) n

  -- ---- what is asked of types at a node: by the operations, and by a module of the actuals for its parameters

  abbrev pub asks_of : Option Found → List Asked
  asks_of (Some x) = x.asks
  asks_of None = []

  abbrev pub asks_by : Constants → Option Specification → List Asked
  asks_by cs (Some s) = flat_map (demanded (actuals_settled f.scope cs)) (demands_of s.form)
  asks_by cs None = []

  abbrev pub asks_of_module : Bool → Named → List Asked
  asks_of_module true x = asks_by x.constants (specification f x.name)
  asks_of_module false x = []

  abbrev pub asks_of_name : Named → List Asked
  asks_of_name x = asks_of_module (is_of_module f x.node x.name && has_fitting_kinds f x) x

  abbrev pub asks_at : ℕ → List Asked
  asks_at n = flat_map asks_of (operations_at n) ++ flat_map asks_of_name (named_at f n)
