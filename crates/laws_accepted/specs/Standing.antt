-- What is known of a node that stands in the body of a routine: no rule is violated there, and what surrounds it is what surrounds
-- the whole body.
use Rattle.std.specs.Prelude.{◌≡◌, ℕ, true, not, List, [], ◌∷◌, Option, Some}
use Rattle.clu_tree.specs.declared.node.NodeKind.{NodeKind}
use Rattle.clu_types.specs.CluType.{CluType, cluster_of, CluTypes, Actuals}
use Rattle.clu_types.specs.Substituted.{types_substituted}
use Rattle.clu_base.specs.declared.constants.Const.{Const}
use Rattle.clu_layout.specs.Objects.{object_of}
use Rattle.clu_layout.specs.Objects as objects
use Rattle.clu_syntax.specs.Syntax.{Identifier, Cluster, Expression, Constant, TypeExpression, Statement}
use Rattle.clu_meaning.specs.Scoping.{Meaning, is_equate, is_constant_parameter, is_local, is_own_of_routine, is_own_of_cluster, is_routine_of_cluster, number_of, own_actuals}
use Rattle.clu_meaning.specs.Settling.{Value, settled_constant, settled_parameter, settled, type_settled}
use Rattle.clu_meaning.specs.Programs.{Variable, HeadingType, local, own_of_routine, own_of_cluster}
use Rattle.clu_meaning.specs.Expressions.{constant_at}
use Rattle.clu_meaning.specs.Resolving.{cluster_definition}
use Rattle.clu_checking.specs.Typing.{representation}
use Rattle.clu_meaning.specs.Binding.{Running, term_of, inward}
use Rattle.clu_meaning.specs.Statements.{types_of_signal}
use Rattle.clu_checking.specs.Files.{File, item, kind_in, round, routine_round, cluster_round, parameters_round}
use Rattle.clu_checking.specs.Settled.{value_settled}
use Rattle.clu_checking.specs.Headings.{own_type, known_inside, parameter_type, specification}
use Rattle.clu_checking.specs.Wanted.{Wanted, nothing, wanted}
use Rattle.clu_checking.specs.StatementRules.{is_in_procedure, results_round}
use Rattle.clu_checking.specs.ExceptionRules.{objects_listed}
use Rattle.clu_checking.specs.Raising as raising
use Rattle.laws_sound.specs.Raises.{Raise, Covers}
use Rattle.laws_accepted.specs.Legal.{Context, is_legal}
use Rattle.laws_accepted.specs.Lawful.{Routines}
use Rattle.laws_accepted.specs.Accepted.{KeepsRules}
use Rattle.laws_accepted.specs.Instances.{context_at, RunsAt}

module _ (f : File) (routines : Routines) (r : Running) (home : Option CluType) (context : Context) where
  pub record NodeStands (n : ℕ) (k : NodeKind) : Type 0 where
    pub kind : kind_in f n ≡ k
    pub rules : KeepsRules f n
    pub runs : RunsAt f n routines r
    pub around : context_at f n ≡ context
    pub inside : own_type f n ≡ home

  pub record ExpressionAt (n : ℕ) (k : NodeKind) (w : Wanted) (e : Expression) : Type 0 where
    pub stands : NodeStands n k
    pub is : (item f n).expression ≡ e
    pub wants : wanted f n ≡ w

  pub record StatementAt (n : ℕ) (k : NodeKind) (e : Statement) : Type 0 where
    pub stands : NodeStands n k
    pub is : (item f n).statement ≡ e
    pub wants : wanted f n ≡ nothing

  -- the routine round the node is the one that runs: its results, and what it may signal
  pub record InRoutine (n : ℕ) : Type 0 where
    pub iterates : is_in_procedure f (routine_round f n) ≡ not r.definition.is_iterator
    pub results : types_substituted r.given (results_round f (routine_round f n)) ≡ inward r.given r.definition.results
    pub signals : (name : Identifier) (ts : CluTypes) → objects_listed f n name ≡ Some ts → (types : List HeadingType) × (types_of_signal r name ≡ Some types) × (types_substituted r.given ts ≡ inward r.given types)

  -- ---- what the names and types in the text stand for

  -- a type that is written is legal
  abbrev pub WrittenLegal : TypeExpression → Type 0
  WrittenLegal t = is_legal context (specification f) (type_settled f.scope t) ≡ true

  -- a variable is declared with the type that its name has
  pub record VariableAt (n : ℕ) (t : TypeExpression) (x : Variable) : Type 0 where
    pub known : known_inside f n t ≡ Some (type_settled f.scope t)
    pub declared : term_of r x ≡ Some (type_settled f.scope t)
    pub legal : WrittenLegal t

  -- the actual for a constant parameter is of its type
  pub record ParameterAt (n k : ℕ) : Type 0 where
    pub constant : Const
    pub given : constant_at r.given k ≡ Some constant
    pub type : parameter_type f n k ≡ Some (objects.own_type (object_of constant))

  abbrev pub ValueAt : ℕ → Value → Type 0
  ValueAt n (settled_constant c) = Unit {0}
  ValueAt n (settled_parameter k) = ParameterAt n k
  ValueAt n _ = ⊥

  -- an equate has a value, which one step of unfolding more doesn't change
  pub record EquateAt (n : ℕ) (c : Constant) : Type 0 where
    pub value : Value
    pub unfolded : settled f.scope c ≡ value
    pub is : value_settled f.scope c ≡ value
    pub stands : ValueAt n value

  -- a name that denotes an object: a variable, a constant or a routine of the cluster
  abbrev pub MeaningAt : ℕ → Identifier → Meaning → Type 0
  MeaningAt n name (is_local t) = VariableAt n t (local (number_of f.scope n name))
  MeaningAt n name (is_own_of_routine t) = VariableAt n t (own_of_routine (number_of f.scope n name))
  MeaningAt n name (is_own_of_cluster t) = VariableAt n t (own_of_cluster (number_of f.scope n name))
  MeaningAt n name (is_equate c) = EquateAt n c
  MeaningAt n name (is_constant_parameter k) = ParameterAt n k
  MeaningAt n name is_routine_of_cluster = (t : CluType) × (home ≡ Some t) × (is_legal context (specification f) t ≡ true)
  MeaningAt n name _ = ⊥

  -- the cluster round a node, with its type and its representation
  pub record ClusterAt (n : ℕ) (c : Cluster) : Type 0 where
    pub around : cluster_round f n ≡ Some c
    pub parameters : parameters_round f.nodes (round f n).unit ≡ c.parameters
    pub is : representation f n ≡ Some (cluster_definition f.scope c).representation
    pub legal : is_legal context (specification f) (cluster_of c.name (own_actuals 1 c.parameters)) ≡ true
    pub inside : is_legal context (specification f) (cluster_definition f.scope c).representation ≡ true

-- ---- what is raised, with the actuals put in

abbrev pub raises_put : Actuals → List raising.Raise → List Raise
raises_put given [] = []
raises_put given (x ∷ xs) = (x.0, types_substituted given x.1) ∷ raises_put given xs

-- what the rules say that is raised may be raised
abbrev pub MayRaise : Actuals → List raising.Raise → List Raise → Type 0
MayRaise given xs rs = Covers (raises_put given xs) rs
