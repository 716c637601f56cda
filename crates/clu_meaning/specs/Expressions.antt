-- What expressions give: as many objects as an invocation returns, and one of any other expression. Parts are evaluated from
-- left to right.
use Rattle.std.specs.Prelude.{ℕ, zero, suc, pos, Bool, true, false, List, [], ◌∷◌, ◌++◌, map, length, Option, None, Some, if◌then◌else◌, nat_eq, bytes_eq, codes}
use Rattle.clu_base.specs.declared.constants.Const.{Const}
use Rattle.clu_types.specs.CluType.{CluType, array_of, sequence_of, struct_of, record_of, cluster_of, Fields, no_fields, field_and, Actuals, no_actuals, actual_type, actual_const, actual_param}
use Rattle.clu_types.specs.Substituted.{substituted}
use Rattle.clu_layout.specs.Objects.{Routine, operation_of, Object, bool_object, int_object, routine_object, sealed, own_type, object_of, routine_substituted}
use Rattle.clu_layout.specs.SameType.{fits}
use Rattle.clu_layout.specs.Primitive.{array_construction, sequence_construction, struct_construction, record_construction}
use Rattle.clu_meaning.specs.Lists.{selectors, in_front}
use Rattle.clu_meaning.specs.Programs.{Variable, local, own_of_routine, own_of_cluster, Expression, constant, constant_parameter, variable, routine, parenthesized, operator, negated, cand, cor, call, fields, elements, elements_from, up, down, besides, Expressions, no_expressions, expression_and, Components, no_components, component_and, ClusterDefinition, Program}
use Rattle.clu_meaning.specs.Computations.{Computation, gives, goes_wrong, and_then, need, needed, with_one, with_bool, with_routine, either, if_there, sees_frame, sees_owns, counts, node, fails, does}
use Rattle.clu_meaning.specs.Binding.{Running, cluster_instance, opened}
use Rattle.clu_meaning.specs.Operations.{defined, undefined, headed, may_name}
use Rattle.clu_meaning.specs.Calls.{Round, here, Level, calls}

-- ---- constants

-- the constant among actuals at a place, from 0
abbrev pub constant_after : ℕ → Actuals → Option Const
constant_after n no_actuals = None
constant_after zero (actual_const c rest) = Some c
constant_after zero (actual_type t rest) = None
constant_after zero (actual_param p rest) = None
constant_after (suc n) (actual_type t rest) = constant_after n rest
constant_after (suc n) (actual_const c rest) = constant_after n rest
constant_after (suc n) (actual_param p rest) = constant_after n rest

-- parameters are numbered from 1
abbrev pub constant_at : Actuals → ℕ → Option Const
constant_at given zero = None
constant_at given (suc n) = constant_after n given

-- ---- constructors

-- each selector with its object
abbrev pub each_with : List (List ℕ) → Object → List (List ℕ × Object)
each_with names o = map (λ name. (name, o)) names

abbrev pub object_named : List (List ℕ × Object) → List ℕ → Option Object
object_named [] name = None
object_named (named ∷ rest) name = if bytes_eq named.0 name then Some named.1 else object_named rest name

-- the objects in the order of the type's selectors
abbrev pub arranged : Fields → List (List ℕ × Object) → Option (List Object)
arranged no_fields named = Some []
arranged (field_and name t rest) named = in_front (object_named named name) (arranged rest named)

-- exactly the type's selectors have objects
abbrev pub arranged_exactly : Fields → List (List ℕ × Object) → Option (List Object)
arranged_exactly fs named = if nat_eq (length named) (selectors fs) then arranged fs named else None

unfoldable pub makes_fields : CluType → List (List ℕ × Object) → Computation (List Object)
makes_fields (struct_of fs) named = needed (arranged_exactly fs named) (λ os. does (struct_construction fs os))
makes_fields (record_of fs) named = needed (arranged_exactly fs named) (λ os. does (record_construction fs os))
makes_fields _ named = goes_wrong

-- the low bound of an array is 1 if none is given
unfoldable pub makes_elements : CluType → List Object → Computation (List Object)
makes_elements (array_of t) os = does (array_construction t (pos 1) os)
makes_elements (sequence_of t) os = does (sequence_construction t os)
makes_elements _ os = goes_wrong

unfoldable pub makes_elements_from : CluType → Object → List Object → Computation (List Object)
makes_elements_from (array_of t) (int_object low) os = does (array_construction t low os)
makes_elements_from _ _ os = goes_wrong

-- ---- sealed objects

abbrev pub cluster_type : ClusterDefinition → Actuals → CluType
cluster_type cluster given = cluster_of cluster.name given

-- up, of an object of the representation
abbrev pub sealed_by : Actuals → ClusterDefinition → Object → Computation (List Object)
sealed_by given cluster o =
    need (fits (own_type o) (substituted given cluster.representation)) (gives (sealed cluster.name given o ∷ []))

-- down, of an object that this instance of the cluster sealed
abbrev pub opened_by : Actuals → ClusterDefinition → Object → Computation (List Object)
opened_by given cluster o = needed (opened (cluster_type cluster given) o) (λ inside. gives (inside ∷ []))

-- ---- one object

abbrev pub value : {A : Type 0} → Computation (List Object) → (Object → Computation A) → Computation A
value evaluation rest = and_then evaluation (λ os. with_one os rest)

-- as a condition
abbrev pub condition : {A : Type 0} → Computation (List Object) → (Bool → Computation A) → Computation A
condition evaluation rest = value evaluation (λ o. with_bool o rest)

-- ---- variables

-- a variable that names no object fails
abbrev pub gives_named : Option Object → Computation (List Object)
gives_named o = if_there o (λ named. gives (named ∷ [])) (fails (codes "uninitialized variable"))

unfoldable pub uses : Running → Variable → Computation (List Object)
uses r (local n) = sees_frame (λ frame. gives_named (frame.variables n))
uses r (own_of_routine n) = sees_owns (λ owns. gives_named (owns.variables r.instance n))
uses r (own_of_cluster n) = sees_owns (λ owns. gives_named (owns.variables (cluster_instance r) n))

-- ---- clusters

abbrev pub seals_here : Running → Object → Computation (List Object)
seals_here r o = needed r.home (λ cluster. sealed_by r.given cluster o)

abbrev pub opens_here : Running → Object → Computation (List Object)
opens_here r o = needed r.home (λ cluster. opened_by r.given cluster o)

module _ (program : Program) (low : Level) (round : Round) where
  -- ---- routines

  abbrev pub with_named : Routine → Computation (List Object) → Computation (List Object)
  with_named r rest = need (may_name program (here round).home r) rest

  -- a routine as an object, whose type is its heading
  abbrev pub names_routine : Routine → Computation (List Object)
  names_routine r = with_named r (needed (headed program r) (λ heading. gives (routine_object r heading ∷ [])))

  abbrev pub invokes : Routine → List Object → Computation (List Object)
  invokes r os = if_there (defined program r) (λ callee. calls low callee os) (does (undefined r os))

  -- an operation of the first object's own type, with these objects
  unfoldable pub operates : List ℕ → List Object → Computation (List Object)
  operates name [] = goes_wrong
  operates name (o ∷ os) = with_named (operation_of (own_type o) name) (invokes (operation_of (own_type o) name) (o ∷ os))

  -- not of the result's own type
  abbrev pub operates_not : List Object → Computation (List Object)
  operates_not os = with_one os (λ o. operates (codes "not") (o ∷ []))

  -- ---- expressions

  unfoldable mutual
    pub eval : Expression → Computation (List Object)
    eval (constant c) = node (gives (object_of c ∷ []))
    eval (constant_parameter n) = node (needed (constant_at (here round).given n) (λ c. gives (object_of c ∷ [])))
    eval (variable x) = node (uses (here round) x)
    eval (routine r) = node (names_routine (routine_substituted (here round).given r))
    eval (parenthesized e) = node (value (eval e) (λ o. gives (o ∷ [])))
    eval (operator name e es) = node (value (eval e) (λ o. and_then (eval_all es) (λ os. operates name (o ∷ os))))
    eval (negated name e es) = node (value (eval e) (λ o. and_then (eval_all es) (λ os. and_then (operates name (o ∷ os)) operates_not)))
    eval (cand e f) = node (condition (eval e) (λ b. either b (condition (eval f) (λ c. gives (bool_object c ∷ []))) (gives (bool_object false ∷ []))))
    eval (cor e f) = node (condition (eval e) (λ b. either b (gives (bool_object true ∷ [])) (condition (eval f) (λ c. gives (bool_object c ∷ [])))))
    eval (call e es) = node (value (eval e) (λ o. and_then (eval_all es) (λ os. with_routine o (λ r. invokes r os))))
    eval (fields t components) = node (and_then (eval_components components) (λ named. makes_fields (substituted (here round).given t) named))
    eval (elements t es) = node (and_then (eval_all es) (λ os. makes_elements (substituted (here round).given t) os))
    eval (elements_from t e es) = node (value (eval e) (λ o. and_then (eval_all es) (λ os. makes_elements_from (substituted (here round).given t) o os)))
    eval (up e) = node (value (eval e) (seals_here (here round)))
    eval (down e) = node (value (eval e) (opens_here (here round)))
    eval (besides n e) = and_then (eval e) (λ os. counts n (gives os))

    -- one object of each
    pub eval_all : Expressions → Computation (List Object)
    eval_all no_expressions = gives []
    eval_all (expression_and e es) = value (eval e) (λ o. and_then (eval_all es) (λ os. gives (o ∷ os)))

    -- each expression is evaluated once
    pub eval_components : Components → Computation (List (List ℕ × Object))
    eval_components no_components = gives []
    eval_components (component_and names e components) = value (eval e) (λ o. and_then (eval_components components) (λ named. gives (each_with names o ++ named)))
