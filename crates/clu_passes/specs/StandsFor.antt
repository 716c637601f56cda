-- That for which an expression or a statement stands is so: the operations that the definitions find in the types of its operands.
use Rattle.std.specs.Prelude.{◌≡◌, ℕ, ◌++◌, Bool, true, false, List, [], ◌∷◌, codes, Option, Some, None}
use Rattle.std.specs.Option.{option_and_then}
use Rattle.clu_types.specs.CluType.{CluType}
use Rattle.clu_types.specs.declared.term.Term.{Term}
use Rattle.clu_types.specs.declared.term.TypeId.{TypeId}
use Rattle.clu_tree.specs.declared.node.NodeKind.{NodeKind}
use Rattle.clu_tree.specs.declared.node.NodeKind.TheVariants as kind
use Rattle.clu_syntax.specs.Kinds.{is_expression}
use Rattle.clu_syntax.specs.Syntax.{Identifier, Expression, an_infix, a_prefix, a_paren, a_name, an_index, a_get, a_call, an_operation, Statement, a_set_field, a_set_index}
use Rattle.clu_meaning.specs.Constants.{sugar}
use Rattle.clu_meaning.specs.Scoping.{Meaning, is_routine_of_cluster}
use Rattle.clu_meaning.specs.Settling.{type_settled}
use Rattle.clu_checking.specs.Files.{File, item, meaning}
use Rattle.clu_checking.specs.Headings.{own_type}
use Rattle.clu_checking.specs.Operations.{Found, operation_found}
use Rattle.clu_checking.specs.Typing.{type_of, name_type, found_type, result_of, takes_actuals}
use Rattle.clu_checking.specs.Invocations.{types_of, types_of_indexes, own_routine}
use Rattle.clu_typing.specs.declared.applied.Use.{Use}
use Rattle.clu_typing.specs.declared.applied.Applied.{Applied}
use Rattle.clu_typing.specs.declared.applied.Applied.TheVariants as applied
use Rattle.clu_typing.specs.declared.facts.Facts.{Facts}
use Rattle.clu_typing.specs.Operators.{infix_operation, is_negated, prefix_operation}
use Rattle.clu_passes.specs.Sugar.{operation_of}
use Rattle.clu_passes.specs.FactTables.{IsType, AreTypes, IsFound, IsAsking}

abbrev pub is_call : NodeKind → Bool
is_call kind.Call = true
is_call _ = false

-- a node of an expression is a Call just if that is a call
abbrev pub IsKindOf : Expression → NodeKind → Type 0
IsKindOf (a_call m e es) k = k ≡ kind.Call
IsKindOf _ k = is_call k ≡ false

module _ (f : File) where
  -- ---- the types of the operands of an expression by which something may be invoked

  abbrev pub operands : Expression → List (Option CluType)
  operands (an_infix m o a b) = type_of f a ∷ type_of f b ∷ []
  operands (a_prefix m s e) = type_of f e ∷ []
  operands (an_index m e cs) = type_of f e ∷ types_of_indexes f cs
  operands (a_get m e name) = type_of f e ∷ []
  operands (a_call m e es) = type_of f e ∷ types_of f es
  operands _ = []

  abbrev pub operands_of_statement : Statement → List (Option CluType)
  operands_of_statement (a_set_field m r name e) = type_of f r ∷ type_of f e ∷ []
  operands_of_statement (a_set_index m a i e) = type_of f a ∷ type_of f i ∷ type_of f e ∷ []
  operands_of_statement _ = []

  -- These are the numbers of their types, and of that of an expression in parentheses.
  module _ (terms : List Term) (ids : List (Option TypeId)) where
    abbrev pub AreOperandsOf : Expression → Type 0
    AreOperandsOf (an_infix m o a b) = AreTypes terms ids (operands (an_infix m o a b))
    AreOperandsOf (a_prefix m s e) = AreTypes terms ids (operands (a_prefix m s e))
    AreOperandsOf (a_paren m e) = AreTypes terms ids (type_of f e ∷ [])
    AreOperandsOf (an_index m e cs) = AreTypes terms ids (operands (an_index m e cs))
    AreOperandsOf (a_get m e name) = AreTypes terms ids (operands (a_get m e name))
    AreOperandsOf (a_call m e es) = AreTypes terms ids (operands (a_call m e es))
    AreOperandsOf _ = Unit {0}

    -- of a node of this kind
    abbrev pub AreOperands : NodeKind → ℕ → Type 0
    AreOperands kind.SetField n = AreTypes terms ids (operands_of_statement (item f n).statement)
    AreOperands kind.SetIndex n = AreTypes terms ids (operands_of_statement (item f n).statement)
    AreOperands k n = is_expression k ≡ true → AreOperandsOf (item f n).expression

  -- ---- the operations that an expression names, or for which it stands

  abbrev pub named_of : Expression → List (Option Found)
  named_of (an_operation m t name) = operation_found f m (type_settled f.scope t) name ∷ []
  named_of (a_name m name) = own_routine f m name (meaning f m name)
  named_of _ = []

  -- it stands for an operation that is invoked or named
  abbrev pub HasOperation : Expression → Type 0
  HasOperation (an_infix m o a b) = operation_of (sugar o) ≡ None → ⊥
  HasOperation (an_index m (a_name k name) cs) = takes_actuals f k name ≡ false
  HasOperation (an_index m e cs) = Unit {0}
  HasOperation (a_prefix m s e) = Unit {0}
  HasOperation (a_get m e name) = Unit {0}
  HasOperation (an_operation m t name) = Unit {0}
  HasOperation (a_name m name) = meaning f m name ≡ is_routine_of_cluster
  HasOperation _ = ⊥

  module _ (terms : List Term) (facts : Facts) where
    -- what was found of this type, and what it asks, is what the definition finds at the node m
    abbrev pub IsOperation : ℕ → CluType → Identifier → Use → Type 0
    IsOperation m t name its = IsType terms (Some its.of) (Some t) × IsFound terms facts its.operation (operation_found f m t name) × IsAsking terms facts its.operation (operation_found f m t name)

    -- `not` of what a comparison gives
    abbrev pub IsNot : ℕ → Option CluType → Option Use → Type 0
    IsNot m (Some t) (Some its) = IsOperation m t (codes "not") its
    IsNot m None None = Unit {0}
    IsNot m _ _ = ⊥

    abbrev pub IsSecond : Bool → ℕ → Option CluType → Option Use → Type 0
    IsSecond true m t second = IsNot m t second
    IsSecond false m t second = second ≡ None

    -- an operation of the first operand's type
    abbrev pub IsSugar : Bool → ℕ → Identifier → Option CluType → Applied → Type 0
    IsSugar negated m name (Some t) (applied.Invoked first second) = IsOperation m t name first × IsSecond negated m (option_and_then result_of (found_type (operation_found f m t name))) second
    IsSugar negated m name None applied.Nothing = Unit {0}
    IsSugar negated m name _ _ = ⊥

    abbrev pub IsSugarIf : Option Identifier → Bool → ℕ → Option CluType → Applied → Type 0
    IsSugarIf (Some name) negated m t its = IsSugar negated m name t its
    IsSugarIf None negated m t its = its ≡ applied.Nothing

    -- brackets after a name that takes actuals are no sugar
    abbrev pub IsIndex : Bool → ℕ → Option CluType → Applied → Type 0
    IsIndex true m t its = its ≡ applied.Nothing
    IsIndex false m t its = IsSugar false m (codes "fetch") t its

    -- an operation that is named of a type
    abbrev pub IsNamed : ℕ → Option CluType → Identifier → Applied → Type 0
    IsNamed m (Some t) name (applied.Named (Some its)) = IsOperation m t name its
    IsNamed m None name (applied.Named None) = Unit {0}
    IsNamed m _ name _ = ⊥

    -- a name by itself is a routine of the cluster round it, or stands for nothing
    abbrev pub IsOwnNamed : ℕ → Identifier → Meaning → Applied → Type 0
    IsOwnNamed m name is_routine_of_cluster its = IsNamed m (own_type f m) name its
    IsOwnNamed m name _ its = its ≡ applied.Nothing

    abbrev pub StandsFor : Expression → Applied → Type 0
    StandsFor (an_infix m o a b) its = IsSugarIf (infix_operation o) (is_negated o) m (type_of f a) its
    StandsFor (a_prefix m s e) its = IsSugar false m (prefix_operation s) (type_of f e) its
    StandsFor (an_index m (a_name k name) cs) its = IsIndex (takes_actuals f k name) m (name_type f k name) its
    StandsFor (an_index m e cs) its = IsIndex false m (type_of f e) its
    StandsFor (a_get m e name) its = IsSugar false m (codes "get_" ++ name) (type_of f e) its
    StandsFor (an_operation m t name) its = IsNamed m (Some (type_settled f.scope t)) name its
    StandsFor (a_name m name) its = IsOwnNamed m name (meaning f m name) its
    StandsFor _ its = its ≡ applied.Nothing

    abbrev pub StatementStandsFor : Statement → Applied → Type 0
    StatementStandsFor (a_set_field m r name e) its = IsSugar false m (codes "set_" ++ name) (type_of f r) its
    StatementStandsFor (a_set_index m a i e) its = IsSugar false m (codes "store") (type_of f a) its
    StatementStandsFor _ its = its ≡ applied.Nothing

    -- of a node, as far as an operation may stand there
    abbrev pub NodeStandsFor : NodeKind → ℕ → Applied → Type 0
    NodeStandsFor kind.SetField n its = StatementStandsFor (item f n).statement its
    NodeStandsFor kind.SetIndex n its = StatementStandsFor (item f n).statement its
    NodeStandsFor k n its = is_expression k ≡ true → StandsFor (item f n).expression its
