-- For what nodes stand, by the tables of a file and the types of the nodes before.
use Rattle.std.specs.Prelude.{◌≡◌, ℕ, ◌++◌, Bool, true, false, List, [], ◌∷◌, codes, slice_get, if◌then◌else◌, Option, Some, None}
use Rattle.clu_tree.specs.declared.node.NodeKind.{NodeKind}
use Rattle.clu_tree.specs.declared.node.NodeKind.TheVariants as kind
use Rattle.clu_types.specs.declared.term.TypeId.{TypeId}
use Rattle.clu_syntax.specs.declared.words.Operator.{Operator}
use Rattle.clu_syntax.specs.Kinds.{is_expression}
use Rattle.clu_syntax.specs.Items.{Item}
use Rattle.clu_syntax.specs.Nodes.{item_with}
use Rattle.clu_syntax.specs.Syntax.{Expression, an_infix, a_prefix, a_name, an_index, a_get, an_operation}
use Rattle.clu_settle.specs.Names.{names_of}
use Rattle.clu_bindings.specs.declared.file.File.{File}
use Rattle.clu_bindings.specs.declared.meaning.Meaning.{Meaning}
use Rattle.clu_bindings.specs.declared.meaning.Meaning.TheVariants as meaning
use Rattle.clu_bindings.specs.Readers.{kind_in, meaning_in}
use Rattle.clu_bindings.specs.Inside.{own_type}
use Rattle.clu_operations.specs.declared.words.NameId.{NameId}
use Rattle.clu_operations.specs.Words.{number_with}
use Rattle.clu_typing.specs.declared.applied.Use.{Use}
use Rattle.clu_typing.specs.declared.applied.Applied.{Applied}
use Rattle.clu_typing.specs.declared.applied.Applied.TheVariants as applied
use Rattle.clu_typing.specs.Nodes.{has_actuals, first_type, first_settled}
use Rattle.clu_typing.specs.Operators.{infix_operation, is_negated, prefix_operation}

-- nothing; an operation of this name that is invoked of an operand of this type, and behind a comparison with `~` also `not`;
-- or one of this name that is named of this type
pub data Stands : Type 0 where
  for_nothing : Stands
  for_invoked : Option TypeId → List ℕ → Bool → Stands
  for_named : Option TypeId → List ℕ → Stands

-- ---- by expressions and statements

abbrev pub operator_stands : Option (List ℕ) → Bool → Option TypeId → Stands
operator_stands (Some name) negated of = for_invoked of name negated
operator_stands None negated of = for_nothing

abbrev pub infix_stands : Operator → Option TypeId → Stands
infix_stands its of = operator_stands (infix_operation its) (is_negated its) of

abbrev pub index_stands : Bool → Option TypeId → Stands
index_stands true of = for_nothing
index_stands false of = for_invoked of (codes "fetch") false

abbrev pub operation_stands : Option TypeId → List ℕ → Stands
operation_stands (Some of) name = for_named (Some of) name
operation_stands None name = for_nothing

-- a routine of the cluster round it, by its name alone
abbrev pub name_stands : Meaning → Option TypeId → List ℕ → Stands
name_stands meaning.RoutineOfCluster own name = for_named own name
name_stands _ own name = for_nothing

abbrev pub field_stands : List (List ℕ) → Option TypeId → Stands
field_stands [] of = for_nothing
field_stands (name ∷ names) of = for_invoked of (codes "set_" ++ name) false

module _ (f : File) (known : List (Option TypeId)) (n : ℕ) where
  unfoldable pub stands_by : Expression → Stands
  stands_by (an_infix m its a b) = infix_stands its (first_type f known n)
  stands_by (a_prefix m its e) = for_invoked (first_type f known n) (prefix_operation its) false
  stands_by (an_index m e cs) = index_stands (has_actuals f n) (first_type f known n)
  stands_by (a_get m e name) = for_invoked (first_type f known n) (codes "get_" ++ name) false
  stands_by (an_operation m t name) = operation_stands (first_settled f n) name
  stands_by (a_name m name) = name_stands (meaning_in f n) (own_type f n) name
  stands_by _ = for_nothing

  abbrev pub expression_stands : (ℕ → Item) → Stands
  expression_stands items = stands_by (item_with items f.syntax.now n (slice_get f.syntax.now n)).expression

  unfoldable pub stands_as : (ℕ → Item) → NodeKind → Stands
  stands_as items kind.SetField = field_stands (names_of (slice_get f.syntax.now n)) (first_type f known n)
  stands_as items kind.SetIndex = for_invoked (first_type f known n) (codes "store") false
  stands_as items k = if is_expression k then expression_stands items else for_nothing

  abbrev pub stands_at : (ℕ → Item) → Stands
  stands_at items = stands_as items (kind_in f n)

-- ---- what is kept of it, with names by their numbers

abbrev pub IsUse : TypeId → NameId → Use → Type 0
IsUse of name its = (its.of ≡ of) × (its.name ≡ name)

abbrev pub IsUseOf : Option TypeId → NameId → Option Use → Type 0
IsUseOf (Some of) name (Some its) = IsUse of name its
IsUseOf None name None = Unit {0}
IsUseOf _ _ _ = ⊥

-- behind an operation stands another one only if it is a comparison with `~`
abbrev pub IsBehind : Bool → Option Use → Type 0
IsBehind true second = Unit {0}
IsBehind false second = second ≡ None

abbrev pub IsNegation : Bool → Option TypeId → NameId → Option Use → Type 0
IsNegation true of name second = IsUseOf of name second
IsNegation false of name second = second ≡ None

abbrev pub IsInvoked : Option TypeId → NameId → Bool → Applied → Type 0
IsInvoked (Some of) name negated (applied.Invoked first second) = IsUse of name first × IsBehind negated second
IsInvoked None name negated applied.Nothing = Unit {0}
IsInvoked _ _ _ _ = ⊥

abbrev pub IsNamed : Option TypeId → NameId → Applied → Type 0
IsNamed of name (applied.Named its) = IsUseOf of name its
IsNamed of name _ = ⊥

-- with the numbers that names have behind these
abbrev pub IsApplied : List (List ℕ) → Stands → Applied → Type 0
IsApplied names for_nothing its = its ≡ applied.Nothing
IsApplied names (for_invoked of name negated) its = IsInvoked of (number_with names name) negated its
IsApplied names (for_named of name) its = IsNamed of (number_with names name) its
