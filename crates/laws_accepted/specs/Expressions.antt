-- When an expression stands in the body of a routine: what is known of each of its nodes.
use Rattle.std.specs.Prelude.{◌≡◌, ◌⊎◌, ℕ, true, false, List, Option, Some}
use Rattle.clu_base.specs.declared.constants.Const.{Const}
use Rattle.clu_tree.specs.declared.node.NodeKind.{NodeKind}
use Rattle.clu_tree.specs.declared.node.NodeKind.TheVariants as kind
use Rattle.clu_types.specs.CluType.{CluType}
use Rattle.clu_types.specs.Substituted.{substituted}
use Rattle.clu_builtin.specs.Operation.{one}
use Rattle.clu_layout.specs.SameType.{fits}
use Rattle.clu_syntax.specs.Syntax.{Identifier, Cluster, Expression, an_infix, a_prefix, a_paren, a_literal, a_name, an_index, a_get, a_call, fields, elements, elements_from, an_operation, a_force, an_up, a_down, Expressions, no_expressions, expression_and, Components, no_components, component_and, an_expression, a_type, Constants, no_constants, constant_and}
use Rattle.clu_meaning.specs.Constants.{denoted}
use Rattle.clu_meaning.specs.Scoping.{is_module}
use Rattle.clu_meaning.specs.Settling.{actuals_settled}
use Rattle.clu_meaning.specs.Programs.{Program}
use Rattle.clu_meaning.specs.Resolving.{expression}
use Rattle.clu_meaning.specs.Binding.{Running}
use Rattle.clu_checking.specs.Files.{File, meaning}
use Rattle.clu_checking.specs.Headings.{specification}
use Rattle.clu_checking.specs.NameRules.{stands_twice}
use Rattle.clu_checking.specs.Typing.{takes_actuals, type_of}
use Rattle.clu_checking.specs.Wanted.{an_object, first_name_at, kinds_of}
use Rattle.clu_checking.specs.ExpressionRules.{selectors_of}
use Rattle.clu_checking.specs.Raising.{by_expression}
use Rattle.laws_sound.specs.Raises.{Raise}
use Rattle.laws_sound.specs.Sound.{LawfulBy}
use Rattle.laws_sound.specs.WellTyped.{HasTypes}
use Rattle.laws_accepted.specs.Legal.{Context, actuals_legal, all_known}
use Rattle.laws_accepted.specs.Lawful.{Routines, is_lawful}
use Rattle.laws_accepted.specs.Instances.{context_at, AsSpecified}
use Rattle.laws_accepted.specs.Standing.{MayRaise, ExpressionAt, WrittenLegal, MeaningAt, ClusterAt}

module _ (f : File) (routines : Routines) (r : Running) (home : Option CluType) (context : Context) where
  abbrev pub Here : ℕ → NodeKind → Expression → Type 0
  Here n k e = ExpressionAt f routines r home context n k an_object e

  abbrev pub Legal : Identifier → Type 0
  Legal name = all_known (kinds_of (specification f name)) ≡ true

  -- a name by what it denotes
  abbrev pub NameStands : ℕ → Identifier → Type 0
  NameStands n name = ((meaning f n name ≡ is_module) × (first_name_at f n ≡ name) × Legal name) ⊎ MeaningAt f routines r home context n name (meaning f n name)

  -- a name with actuals
  abbrev pub InstanceStands : ℕ → Identifier → Constants → Type 0
  InstanceStands m name cs = (context_at f m ≡ context) × (takes_actuals f m name ≡ true) × Legal name × (actuals_legal context (specification f) (actuals_settled f.scope cs) ≡ true)

  abbrev mutual
    pub Stands : Expression → Type 0
    Stands (an_infix n op a b) = Here n kind.Infix (an_infix n op a b) × Stands a × Stands b
    Stands (a_prefix n sign e) = Here n kind.Prefix (a_prefix n sign e) × Stands e
    Stands (a_paren n e) = Stands e
    Stands (a_literal n l) = (c : Const) × (denoted l ≡ Some c)
    Stands (a_name n name) = Here n kind.Name (a_name n name) × NameStands n name
    Stands (an_index n (a_name m name) cs) = Here n kind.Index (an_index n (a_name m name) cs) × (InstanceStands m name cs ⊎ ((takes_actuals f m name ≡ false) × Here m kind.Name (a_name m name) × NameStands m name × IndexesStand cs))
    Stands (an_index n e cs) = Here n kind.Index (an_index n e cs) × Stands e × IndexesStand cs
    Stands (a_get n e name) = Here n kind.Get (a_get n e name) × Stands e
    Stands (a_call n e es) = Here n kind.Call (a_call n e es) × Stands e × AllStand es
    Stands (fields n t cs) = Here n kind.Fields (fields n t cs) × WrittenLegal f routines r home context t × (stands_twice (selectors_of cs) ≡ false) × ComponentsStand cs
    Stands (elements n t es) = Here n kind.Elems (elements n t es) × WrittenLegal f routines r home context t × AllStand es
    Stands (elements_from n t e es) = Here n kind.Elems (elements_from n t e es) × WrittenLegal f routines r home context t × Stands e × AllStand es
    Stands (an_operation n t name) = Here n kind.OperOf (an_operation n t name) × WrittenLegal f routines r home context t
    Stands (a_force n t) = Here n kind.Force (a_force n t) × WrittenLegal f routines r home context t
    Stands (an_up n e) = (c : Cluster) × Here n kind.Up (an_up n e) × ClusterAt f routines r home context n c × Stands e
    Stands (a_down n e) = (c : Cluster) × Here n kind.Down (a_down n e) × ClusterAt f routines r home context n c × Stands e

    pub AllStand : Expressions → Type 0
    AllStand no_expressions = Unit {0}
    AllStand (expression_and e es) = Stands e × AllStand es

    pub ComponentsStand : Components → Type 0
    ComponentsStand no_components = Unit {0}
    ComponentsStand (component_and n names e cs) = Stands e × ComponentsStand cs

    pub IndexesStand : Constants → Type 0
    IndexesStand no_constants = Unit {0}
    IndexesStand (constant_and (an_expression e) cs) = Stands e × IndexesStand cs
    IndexesStand (constant_and (a_type t) cs) = ⊥

-- an expression has a type by the rules, and in the instance that runs a type that is included in this one
pub record IsTyped (f : File) (program : Program) (routines : Routines) (r : Running) (home : Option CluType) (rs : List Raise) (e : Expression) : Type 0 where
  pub type : CluType
  pub is : type_of f e ≡ Some type
  pub own : CluType
  pub typed : HasTypes program (LawfulBy (is_lawful (specification f) routines)) r rs (expression (record { scope = f.scope; home = home }) e) (one own)
  pub fit : fits own (substituted r.given type) ≡ true

-- the law of those that stand in a body, where what the rules say that they raise may be raised
abbrev pub ExpressionsAreWellTyped : Type 0
ExpressionsAreWellTyped = (f : File) (program : Program) (routines : Routines) → AsSpecified f program routines → (r : Running) (home : Option CluType) (context : Context) (rs : List Raise) (e : Expression) →
    Stands f routines r home context e → MayRaise r.given (by_expression f e) rs → IsTyped f program routines r home rs e
