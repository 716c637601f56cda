-- What is found of a node stays so while there are more types and more is found.
use Rattle.std.proofs.Common.{◌≡◌, ◌∙◌, ◌<◌, ℕ, Bool, true, false, List, [], ◌∷◌, ◌++◌, codes, length, map, IfSome, Option, Some, None, sym, ap, subst}
use Rattle.clu_types.specs.CluType.{CluType}
use Rattle.clu_types.specs.Arena.{Grows}
use Rattle.clu_types.specs.declared.term.Term.{Term}
use Rattle.clu_types.specs.declared.term.TypeId.{TypeId}
use Rattle.clu_tree.specs.declared.node.NodeKind.{NodeKind}
use Rattle.clu_tree.specs.declared.node.NodeKind.TheVariants as kind
use Rattle.clu_syntax.specs.Syntax.{Identifier, Expression, an_infix, a_prefix, a_paren, a_name, an_index, a_get, a_call, an_operation, Statement, a_set_field, a_set_index}
use Rattle.clu_meaning.specs.Scoping.{Meaning, is_routine_of_cluster}
use Rattle.clu_meaning.specs.Settling.{type_settled}
use Rattle.clu_checking.specs.Files.{File, item, meaning}
use Rattle.clu_checking.specs.Headings.{own_type}
use Rattle.clu_checking.specs.Operations.{Found, operation_found}
use Rattle.clu_checking.specs.Typing.{name_type, takes_actuals, type_of}
use Rattle.clu_operations.specs.declared.found.Found.{Found as Kept}
use Rattle.clu_operations.specs.declared.found.FoundId.{FoundId}
use Rattle.clu_operations.specs.Finding.{AreWithin, Follows, found_at, found_or_none}
use Rattle.clu_operations.specs.Told.{Told}
use Rattle.clu_operations.proofs.Lasting.{told_stays}
use Rattle.clu_operations.proofs.Once.{item_extends}
use Rattle.clu_bindings.specs.declared.file.Headed.{Headed}
use Rattle.clu_operations.specs.declared.finding.Finding.{Finding}
use Rattle.clu_typing.specs.declared.applied.Use.{Use}
use Rattle.clu_typing.specs.declared.applied.Applied.{Applied}
use Rattle.clu_typing.specs.declared.applied.Applied.TheVariants as applied
use Rattle.clu_typing.specs.declared.facts.Facts.{Facts}
use Rattle.clu_typing.specs.declared.facts.Operation.{Operation}
use Rattle.clu_typing.specs.declared.facts.Operation.TheVariants as operation
use Rattle.clu_typing.specs.Applied.{result_of}
use Rattle.clu_typing.specs.Facts.{operation_of, type_found}
use Rattle.clu_typing.specs.Found.{IsAppliedTold, IsBehindTold, IsToldOf, IsUseToldIf}
use Rattle.clu_typing.specs.Operators.{infix_operation, is_negated, prefix_operation}
use Rattle.clu_typing.specs.Stands.{Stands, for_nothing, for_invoked, for_named}
use Rattle.clu_passes.specs.FactTables.{AreTypes, IsAsking, IsFound, IsType}
use Rattle.clu_passes.specs.Met.{asked_told}
use Rattle.clu_passes.specs.StandsFor.{AreOperands, AreOperandsOf, IsIndex, IsNamed, IsNot, IsOperation, IsOwnNamed, IsSecond, IsSugar, IsSugarIf, NodeStandsFor, StandsFor, StatementStandsFor}
use Rattle.clu_passes.proofs.NodeTyped.{type_grown}

-- ---- what was found is there

abbrev pub IsThere : ℕ → Operation → Type 0
IsThere founds (operation.Found id) = id.0 < founds
IsThere founds _ = Unit {0}

abbrev pub IsUseThere : ℕ → Option Use → Type 0
IsUseThere founds (Some its) = IsThere founds its.operation
IsUseThere founds None = Unit {0}

abbrev pub AreThere : ℕ → Applied → Type 0
AreThere founds applied.Nothing = Unit {0}
AreThere founds (applied.Invoked first second) = IsThere founds first.operation × IsUseThere founds second
AreThere founds (applied.Named its) = IsUseThere founds its

module _ (h : Headed) (terms : List Term) (finding : Finding) (n : ℕ) where
  abbrev founds : ℕ
  founds = length finding.founds.items

  sought_there : (found : Option FoundId) → IfSome found (λ id. id.0 < length finding.founds.items) → IsThere founds (operation_of found)
  sought_there (Some id) lt = lt
  sought_there None lt = tt

  pub told_there : (of : TypeId) (it : Option Told) (its : Operation) → IsToldOf terms finding of it its → IsThere founds its
  told_there of it its u = subst (IsThere founds) (sym u.is) (sought_there u.found u.there)

  use_there : (of : Option TypeId) (name : List ℕ) (its : Option Use) → IsUseToldIf h terms finding n of name its → IsUseThere founds its
  use_there (Some of) name (Some its) u = told_there of _ its.operation u.told
  use_there (Some of) name None u = absurd u
  use_there None name None u = tt
  use_there None name (Some its) u = absurd u

  behind_there : (negated : Bool) (of : Option TypeId) (second : Option Use) → IsBehindTold h terms finding n negated of second → IsUseThere founds second
  behind_there true of second u = use_there of (codes "not") second u
  behind_there false of second u = subst (IsUseThere founds) (sym u) tt

  nothing_there : (its : Applied) → its ≡ applied.Nothing → AreThere founds its
  nothing_there its e = subst (AreThere founds) (sym e) tt

  pub applied_there : (s : Stands) (its : Applied) → IsAppliedTold h terms finding n s its → AreThere founds its
  applied_there for_nothing its u = nothing_there its u
  applied_there (for_invoked (Some of) name negated) (applied.Invoked first second) u = (told_there of _ first.operation u.0.told, behind_there negated (result_of terms (type_found finding first.operation)) second u.1)
  applied_there (for_invoked (Some of) name negated) applied.Nothing u = absurd u
  applied_there (for_invoked (Some of) name negated) (applied.Named its) u = absurd u
  applied_there (for_invoked None name negated) applied.Nothing u = tt
  applied_there (for_invoked None name negated) (applied.Invoked first second) u = absurd u
  applied_there (for_invoked None name negated) (applied.Named its) u = absurd u
  applied_there (for_named of name) (applied.Named its) u = use_there of name its u
  applied_there (for_named of name) applied.Nothing u = absurd u
  applied_there (for_named of name) (applied.Invoked first second) u = absurd u

-- ---- later

module _ (f : File) (old new : List Term) (grows : Grows old new) (facts now : Facts) (within : AreWithin (length old) facts.finding) (follows : Follows facts.finding now.finding) where
  abbrev count : ℕ
  count = length facts.finding.founds.items

  found_later : (o : Operation) (x : Option Found) → IsThere count o → IsFound old facts o x → IsFound new now o x
  found_later operation.Missing None there is = tt
  found_later operation.Missing (Some x) there is = absurd is
  found_later (operation.Found id) None there is = absurd is
  found_later (operation.Found id) (Some x) there is =
      subst (λ (o : Option TypeId). IsType new o x.type) (sym (ap (λ (o : Option Kept). (found_or_none o).of) (item_extends facts.finding.founds.items now.finding.founds.items follows.founds id.0 there)))
      (type_grown old new grows (found_at facts.finding.founds.items id).of x.type is)
  found_later (operation.Object of) None there is = absurd is
  found_later (operation.Object of) (Some x) there is = type_grown old new grows (Some of) x.type is

  pub asking_later : (o : Operation) (x : Option Found) → IsThere count o → IsAsking old facts o x → IsAsking new now o x
  asking_later operation.Missing x there is = is
  asking_later (operation.Found id) x there is = ap (λ (it : Told). map asked_told it.asks) (told_stays old new grows facts.finding now.finding follows within id there) ∙ is
  asking_later (operation.Object of) x there is = is

  use_later : (m : ℕ) (t : CluType) (name : Identifier) (its : Use) → IsThere count its.operation → IsOperation f old facts m t name its → IsOperation f new now m t name its
  use_later m t name its there is = (type_grown old new grows (Some its.of) (Some t) is.0, found_later its.operation (operation_found f m t name) there is.1, asking_later its.operation (operation_found f m t name) there is.2)

  not_later : (m : ℕ) (t : Option CluType) (second : Option Use) → IsUseThere count second → IsNot f old facts m t second → IsNot f new now m t second
  not_later m (Some t) (Some its) there is = use_later m t (codes "not") its there is
  not_later m (Some t) None there is = absurd is
  not_later m None (Some its) there is = absurd is
  not_later m None None there is = tt

  second_later : (negated : Bool) (m : ℕ) (t : Option CluType) (second : Option Use) → IsUseThere count second → IsSecond f old facts negated m t second → IsSecond f new now negated m t second
  second_later true m t second there is = not_later m t second there is
  second_later false m t second there is = is

  sugar_later : (negated : Bool) (m : ℕ) (name : Identifier) (t : Option CluType) (its : Applied) → AreThere count its → IsSugar f old facts negated m name t its → IsSugar f new now negated m name t its
  sugar_later negated m name (Some t) (applied.Invoked first second) there is = (use_later m t name first there.0 is.0, second_later negated m _ second there.1 is.1)
  sugar_later negated m name (Some t) applied.Nothing there is = absurd is
  sugar_later negated m name (Some t) (applied.Named its) there is = absurd is
  sugar_later negated m name None applied.Nothing there is = tt
  sugar_later negated m name None (applied.Invoked first second) there is = absurd is
  sugar_later negated m name None (applied.Named its) there is = absurd is

  operator_later : (name : Option Identifier) (negated : Bool) (m : ℕ) (t : Option CluType) (its : Applied) → AreThere count its → IsSugarIf f old facts name negated m t its → IsSugarIf f new now name negated m t its
  operator_later (Some name) negated m t its there is = sugar_later negated m name t its there is
  operator_later None negated m t its there is = is

  index_later : (b : Bool) (m : ℕ) (t : Option CluType) (its : Applied) → AreThere count its → IsIndex f old facts b m t its → IsIndex f new now b m t its
  index_later true m t its there is = is
  index_later false m t its there is = sugar_later false m (codes "fetch") t its there is

  named_later : (m : ℕ) (t : Option CluType) (name : Identifier) (its : Applied) → AreThere count its → IsNamed f old facts m t name its → IsNamed f new now m t name its
  named_later m (Some t) name (applied.Named (Some its)) there is = use_later m t name its there is
  named_later m (Some t) name (applied.Named None) there is = absurd is
  named_later m (Some t) name applied.Nothing there is = absurd is
  named_later m (Some t) name (applied.Invoked first second) there is = absurd is
  named_later m None name (applied.Named None) there is = tt
  named_later m None name (applied.Named (Some its)) there is = absurd is
  named_later m None name applied.Nothing there is = absurd is
  named_later m None name (applied.Invoked first second) there is = absurd is

  own_later : (m : ℕ) (name : Identifier) (x : Meaning) (its : Applied) → AreThere count its → IsOwnNamed f old facts m name x its → IsOwnNamed f new now m name x its
  own_later m name is_routine_of_cluster its there is = named_later m (own_type f m) name its there is
  own_later m name _ its there is = is

  pub stands_later : (e : Expression) (its : Applied) → AreThere count its → StandsFor f old facts e its → StandsFor f new now e its
  stands_later (an_infix m o a b) its there is = operator_later (infix_operation o) (is_negated o) m (type_of f a) its there is
  stands_later (a_prefix m s e) its there is = sugar_later false m (prefix_operation s) (type_of f e) its there is
  stands_later (an_index m (a_name k name) cs) its there is = index_later (takes_actuals f k name) m (name_type f k name) its there is
  stands_later (an_index m e cs) its there is = index_later false m (type_of f e) its there is
  stands_later (a_get m e name) its there is = sugar_later false m (codes "get_" ++ name) (type_of f e) its there is
  stands_later (an_operation m t name) its there is = named_later m (Some (type_settled f.scope t)) name its there is
  stands_later (a_name m name) its there is = own_later m name (meaning f m name) its there is
  stands_later _ its there is = is

  statement_later : (s : Statement) (its : Applied) → AreThere count its → StatementStandsFor f old facts s its → StatementStandsFor f new now s its
  statement_later (a_set_field m r name e) its there is = sugar_later false m (codes "set_" ++ name) (type_of f r) its there is
  statement_later (a_set_index m a i e) its there is = sugar_later false m (codes "store") (type_of f a) its there is
  statement_later _ its there is = is

  pub node_later : (k : NodeKind) (n : ℕ) (its : Applied) → AreThere count its → NodeStandsFor f old facts k n its → NodeStandsFor f new now k n its
  node_later kind.SetField n its there is = statement_later (item f n).statement its there is
  node_later kind.SetIndex n its there is = statement_later (item f n).statement its there is
  node_later _ n its there is = λ e. stands_later (item f n).expression its there (is e)

-- what is there stays there
module _ (one other : ℕ) (more : (k : ℕ) → k < one → k < other) where
  operation_there : (o : Operation) → IsThere one o → IsThere other o
  operation_there (operation.Found id) lt = more id.0 lt
  operation_there _ lt = tt

  second_there : (o : Option Use) → IsUseThere one o → IsUseThere other o
  second_there (Some its) there = operation_there its.operation there
  second_there None there = tt

  pub there_later : (its : Applied) → AreThere one its → AreThere other its
  there_later applied.Nothing there = tt
  there_later (applied.Invoked first second) there = (operation_there first.operation there.0, second_there second there.1)
  there_later (applied.Named its) there = second_there its there

-- ---- the types of operands

module _ (f : File) (old new : List Term) (grows : Grows old new) (ids : List (Option TypeId)) where
  types_later : (xs : List (Option TypeId)) (ts : List (Option CluType)) → AreTypes old xs ts → AreTypes new xs ts
  types_later [] [] are = tt
  types_later [] (t ∷ ts) are = absurd are
  types_later (x ∷ xs) [] are = absurd are
  types_later (x ∷ xs) (t ∷ ts) are = (type_grown old new grows x t are.0, types_later xs ts are.1)

  given_later : (e : Expression) → AreOperandsOf f old ids e → AreOperandsOf f new ids e
  given_later (an_infix m o a b) given = types_later ids _ given
  given_later (a_prefix m s e) given = types_later ids _ given
  given_later (a_paren m e) given = types_later ids _ given
  given_later (an_index m e cs) given = types_later ids _ given
  given_later (a_get m e name) given = types_later ids _ given
  given_later (a_call m e es) given = types_later ids _ given
  given_later _ given = tt

  pub operands_later : (k : NodeKind) (n : ℕ) → AreOperands f old ids k n → AreOperands f new ids k n
  operands_later kind.SetField n given = types_later ids _ given
  operands_later kind.SetIndex n given = types_later ids _ given
  operands_later _ n given = λ e. given_later (item f n).expression (given e)
