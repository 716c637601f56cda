-- Where the parts that the code gives of a node stand: they are nodes before it, those in lists of one kind of that kind.
use Rattle.std.specs.Prelude.{◌≡◌, ℕ, ◌<◌, List, length, All, Option, Some, None}
use Rattle.clu_tree.specs.declared.node.Node.{Node}
use Rattle.clu_tree.specs.declared.node.NodeKind.{NodeKind}
use Rattle.clu_tree.specs.declared.node.NodeKind.TheVariants as kind
use Rattle.clu_syntax.specs.declared.expressions.Expression.{Expression}
use Rattle.clu_syntax.specs.declared.expressions.Expression.TheVariants as e
use Rattle.clu_syntax.specs.declared.expressions.TypeExpression.{TypeExpression}
use Rattle.clu_syntax.specs.declared.expressions.TypeExpression.TheVariants as t
use Rattle.clu_syntax.specs.declared.statements.Body.{Body}
use Rattle.clu_syntax.specs.declared.statements.Clause.{Clause}
use Rattle.clu_syntax.specs.declared.statements.Clauses.{Clauses}
use Rattle.clu_syntax.specs.declared.statements.Statement.{Statement}
use Rattle.clu_syntax.specs.declared.statements.Statement.TheVariants as s
use Rattle.clu_syntax.specs.declared.arms.Variable.{Variable}
use Rattle.clu_syntax.specs.declared.arms.TagArm.{TagArm}
use Rattle.clu_syntax.specs.declared.arms.When.{When}
use Rattle.clu_syntax.specs.declared.arms.Others.{Others}
use Rattle.clu_syntax.specs.declared.arms.Taken.{Taken}
use Rattle.clu_syntax.specs.declared.arms.Taken.TheVariants as taken
use Rattle.clu_syntax.specs.declared.declarations.TypeSet.{TypeSet}
use Rattle.clu_syntax.specs.declared.declarations.Restriction.{Restriction}
use Rattle.clu_syntax.specs.declared.declarations.Restriction.TheVariants as r
use Rattle.clu_syntax.specs.declared.declarations.Equated.{Equated}
use Rattle.clu_syntax.specs.declared.declarations.Equated.TheVariants as right
use Rattle.clu_syntax.specs.declared.declarations.Own.{Own}
use Rattle.clu_syntax.specs.declared.declarations.Own.TheVariants as own
use Rattle.clu_syntax.specs.declared.modules.Definition.{Definition}
use Rattle.clu_syntax.specs.declared.modules.Definition.TheVariants as defines
use Rattle.clu_syntax.specs.declared.modules.Routine.{Routine}
use Rattle.clu_syntax.specs.declared.modules.Cluster.{Cluster}
use Rattle.clu_syntax.specs.Kinds.{kind_at}

abbrev pub AreBefore : ℕ → List ℕ → Type 0
AreBefore n cs = All (λ c. c < n) cs

-- a type before n, and the variable of an arm with one
abbrev pub type_option_parts : ℕ → Option ℕ → Type 0
type_option_parts n None = Unit {0}
type_option_parts n (Some c) = c < n

abbrev pub variable_parts : ℕ → Option Variable → Type 0
variable_parts n None = Unit {0}
variable_parts n (Some v) = v.declared < n

-- the clauses after the first are fewer nodes
abbrev pub are_fewer : Option (Clause × Clauses) → List ℕ → Type 0
are_fewer None cs = Unit {0}
are_fewer (Some both) cs = length both.1.rest.now < length cs

module _ (nodes : List Node) where
  -- a node before n, and nodes before n, of this kind
  abbrev pub IsOf : NodeKind → ℕ → ℕ → Type 0
  IsOf k n c = (c < n) × (kind_at nodes c ≡ k)

  abbrev pub AreOf : NodeKind → ℕ → List ℕ → Type 0
  AreOf k n cs = AreBefore n cs × All (λ c. kind_at nodes c ≡ k) cs

  abbrev pub option_parts : NodeKind → ℕ → Option ℕ → Type 0
  option_parts k n None = Unit {0}
  option_parts k n (Some c) = IsOf k n c

  abbrev pub body_parts : ℕ → Body → Type 0
  body_parts n body = AreOf kind.Equate n body.equates.now × AreBefore n body.statements.now

  abbrev pub otherwise_parts : ℕ → Option Body → Type 0
  otherwise_parts n None = Unit {0}
  otherwise_parts n (Some body) = body_parts n body

  abbrev pub clause_parts : ℕ → Option (Clause × Clauses) → Type 0
  clause_parts n None = Unit {0}
  clause_parts n (Some both) = (both.0.condition < n) × body_parts n both.0.body × AreBefore n both.1.rest.now

  abbrev pub expression_parts : ℕ → Expression → Type 0
  expression_parts n (e.Infix operator left right) = (left < n) × (right < n)
  expression_parts n (e.Prefix sign operand) = operand < n
  expression_parts n (e.Paren inside) = inside < n
  expression_parts n (e.Index of constants) = (of < n) × AreBefore n constants.now
  expression_parts n (e.Get of selector) = of < n
  expression_parts n (e.Call routine arguments) = (routine < n) × AreBefore n arguments.now
  expression_parts n (e.Fields of components) = (of < n) × AreOf kind.FieldE n components.now
  expression_parts n (e.Elements of es) = (of < n) × AreBefore n es.now
  expression_parts n (e.ElementsFrom of low es) = (of < n) × (low < n) × AreBefore n es.now
  expression_parts n (e.Operation of operation) = of < n
  expression_parts n (e.Force to) = to < n
  expression_parts n (e.Up inside) = inside < n
  expression_parts n (e.Down inside) = inside < n
  expression_parts n _ = Unit {0}

  abbrev pub type_parts : ℕ → TypeExpression → Type 0
  type_parts n (t.Simple word) = Unit {0}
  type_parts n (t.List word of) = of < n
  type_parts n (t.Fields word selectors) = AreOf kind.FieldT n selectors.now
  type_parts n (t.Routine k arguments results exceptions) = AreBefore n arguments.now × AreBefore n results.now × AreOf kind.Exc n exceptions.now
  type_parts n (t.Named name constants) = AreBefore n constants.now

  abbrev pub statement_parts : ℕ → Statement → Type 0
  statement_parts n (s.Declare declaration) = IsOf kind.Decl n declaration
  statement_parts n (s.Init name declared value) = (declared < n) × (value < n)
  statement_parts n (s.InitByCall declarations call) = AreOf kind.Decl n declarations.now × (call < n)
  statement_parts n (s.Assign names values) = AreBefore n values.now
  statement_parts n (s.SetField of selector value) = (of < n) × (value < n)
  statement_parts n (s.SetIndex of index value) = (of < n) × (index < n) × (value < n)
  statement_parts n (s.Call call) = call < n
  statement_parts n (s.While condition body) = (condition < n) × body_parts n body
  statement_parts n (s.For declarations call body) = AreOf kind.Decl n declarations.now × (call < n) × body_parts n body
  statement_parts n (s.ForNames names call body) = (call < n) × body_parts n body
  statement_parts n (s.If clauses body) = AreBefore n clauses.rest.now × otherwise_parts n body
  statement_parts n (s.Tagcase of arms body) = (of < n) × AreOf kind.TagArm n arms.now × otherwise_parts n body
  statement_parts n (s.Return values) = AreBefore n values.now
  statement_parts n (s.Yield values) = AreBefore n values.now
  statement_parts n (s.Signal name values) = AreBefore n values.now
  statement_parts n (s.Exit name values) = AreBefore n values.now
  statement_parts n s.Break = Unit {0}
  statement_parts n s.Continue = Unit {0}
  statement_parts n (s.Begin body) = body_parts n body
  statement_parts n (s.Resignal statement names) = statement < n
  statement_parts n (s.Except statement arms other) = (statement < n) × AreOf kind.When n arms.now × option_parts kind.Others n other

  abbrev pub taken_parts : ℕ → Taken → Type 0
  taken_parts n (taken.Objects declarations) = AreOf kind.Decl n declarations.now
  taken_parts n taken.Any = Unit {0}

  pub record TagArmParts (n : ℕ) (v : TagArm) : Type 0 where
    pub variable : variable_parts n v.variable
    pub body : body_parts n v.body

  pub record WhenParts (n : ℕ) (v : When) : Type 0 where
    pub taken : taken_parts n v.taken
    pub body : body_parts n v.body

  pub record OthersParts (n : ℕ) (v : Others) : Type 0 where
    pub variable : variable_parts n v.variable
    pub body : body_parts n v.body

  pub record TypeSetParts (n : ℕ) (v : TypeSet) : Type 0 where
    pub operations : AreOf kind.Oper n v.operations.now
    pub equates : AreOf kind.Equate n v.equates.now

  abbrev pub restriction_parts : ℕ → Restriction → Type 0
  restriction_parts n (r.Has name operations) = AreOf kind.Oper n operations.now
  restriction_parts n (r.In name other) = Unit {0}
  restriction_parts n (r.InSet name other) = IsOf kind.TypeSet n other

  abbrev pub equated_parts : ℕ → Equated → Type 0
  equated_parts n (right.Constant c) = c < n
  equated_parts n (right.Set c) = IsOf kind.TypeSet n c

  abbrev pub own_parts : ℕ → Own → Type 0
  own_parts n (own.Declare declarations) = AreOf kind.Decl n declarations.now
  own_parts n (own.Init name declared value) = (declared < n) × (value < n)
  own_parts n (own.InitByCall declarations call) = AreOf kind.Decl n declarations.now × (call < n)

  pub record RoutineParts (n : ℕ) (v : Routine) : Type 0 where
    pub parameters : AreOf kind.Parm n v.parameters.now
    pub arguments : AreOf kind.Decl n v.arguments.now
    pub results : AreBefore n v.results.now
    pub exceptions : AreOf kind.Exc n v.exceptions.now
    pub restrictions : AreOf kind.Restrict n v.restrictions.now
    pub equates : AreOf kind.Equate n v.equates.now
    pub owns : AreOf kind.Own n v.owns.now
    pub statements : AreBefore n v.statements.now

  pub record ClusterParts (n : ℕ) (v : Cluster) : Type 0 where
    pub parameters : AreOf kind.Parm n v.parameters.now
    pub restrictions : AreOf kind.Restrict n v.restrictions.now
    pub equates : AreOf kind.Equate n v.equates.now
    pub owns : AreOf kind.Own n v.owns.now
    pub routines : AreOf kind.Routine n v.routines.now

  abbrev pub definition_parts : ℕ → Definition → Type 0
  definition_parts n (defines.Routine c) = IsOf kind.Routine n c
  definition_parts n (defines.Cluster c) = IsOf kind.Cluster n c
