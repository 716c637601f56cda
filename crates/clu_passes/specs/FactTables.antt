-- What is known of the nodes of a file is so, but where something is lost.
use Rattle.std.specs.Prelude.{◌≡◌, ◌<◌, if◌then◌else◌, ℕ, Bool, true, false, List, [], ◌∷◌, length, is_some, codes, map, Option, Some, None}
use Rattle.std.specs.List.{AllByRecursion}
use Rattle.clu_types.specs.CluType.{CluType}
use Rattle.clu_types.specs.Arena.{types_of}
use Rattle.clu_types.specs.declared.term.TypeId.{TypeId}
use Rattle.clu_types.specs.declared.term.Term.{Term}
use Rattle.clu_syntax.specs.Kinds.{is_expression}
use Rattle.clu_syntax.specs.Items.{Item}
use Rattle.clu_checking.specs.Files.{File, item, kind_in, round, children, equate_named}
use Rattle.clu_checking.specs.Headings as headings
use Rattle.clu_checking.specs.Operations as finding
use Rattle.clu_checking.specs.Typing as typing
use Rattle.clu_checking.specs.Invocations as invoking
use Rattle.clu_bindings.specs.Inside.{own_type, rep_at, declared_at, representation, type_inside}
use Rattle.clu_operations.specs.Told.{told}
use Rattle.clu_typing.specs.declared.facts.Facts.{Facts}
use Rattle.clu_typing.specs.declared.facts.Operation.{Operation}
use Rattle.clu_typing.specs.declared.facts.Operation.TheVariants as operation
use Rattle.clu_typing.specs.declared.facts.Invocation.{Invocation}
pub use Rattle.clu_typing.specs.Typing.{IsType}
use Rattle.clu_typing.specs.Facts.{type_of, invocations, arguments, operation_type, operations_at}
use Rattle.clu_type_rules.specs.declared.known.Known.{Known}
use Rattle.clu_type_rules.specs.ExpressionRules.{is_equate}
use Rattle.clu_passes.specs.Met.{asked_told}

-- the type of the node, if it is an expression
abbrev pub typed : File → ℕ → Option CluType
typed f n = if is_expression (kind_in f n) then typing.type_of f (item f n).expression else None

-- what was found asks of types
abbrev pub asks_found : Option finding.Found → List finding.Asked
asks_found (Some found) = found.asks
asks_found None = []

module _ (terms : List Term) where
  abbrev pub AreTypes : List (Option TypeId) → List (Option CluType) → Type 0
  AreTypes (id ∷ ids) (t ∷ ts) = IsType terms id t × AreTypes ids ts
  AreTypes [] [] = Unit {0}
  AreTypes _ _ = ⊥

  module _ (facts : Facts) where
    -- an operation that was found, by its type
    abbrev pub IsFound : Operation → Option finding.Found → Type 0
    IsFound operation.Missing None = Unit {0}
    IsFound (operation.Found id) (Some found) = IsType terms (operation_type facts (operation.Found id)) found.type
    IsFound (operation.Object of) (Some found) = IsType terms (Some of) found.type
    IsFound _ _ = ⊥

    abbrev pub asks_noted : Operation → List finding.Asked
    asks_noted (operation.Found id) = map asked_told (told (types_of terms) facts.finding id).asks
    asks_noted _ = []

    -- and it asks so
    abbrev pub IsAsking : Operation → Option finding.Found → Type 0
    IsAsking its found = asks_noted its ≡ asks_found found

    abbrev pub AreFound : List Operation → List (Option finding.Found) → Type 0
    AreFound (o ∷ os) (x ∷ xs) = IsFound o x × AreFound os xs
    AreFound [] [] = Unit {0}
    AreFound _ _ = ⊥

    abbrev pub IsInvocation : Invocation → invoking.Invocation → Type 0
    IsInvocation i x = IsFound i.operation x.invoked × AreTypes (arguments facts i) x.arguments

    abbrev pub AreInvocations : List Invocation → List invoking.Invocation → Type 0
    AreInvocations (i ∷ is) (x ∷ xs) = IsInvocation i x × AreInvocations is xs
    AreInvocations [] [] = Unit {0}
    AreInvocations _ _ = ⊥

-- Of a node at which nothing is lost the tables say what the definitions say. Something is lost where a type, a constant or a
-- name is refused, and at each node round it.
pub record AreFacts (f : File) (terms : List Term) (facts : Facts) (lost : ℕ → Bool) : Type 0 where
  pub below : (n : ℕ) → lost n ≡ false → AllByRecursion (λ c. lost c ≡ false) (children f n)
  pub types : (n : ℕ) → lost n ≡ false → IsType terms (type_of facts n) (typed f n)
  pub invoked : (n : ℕ) → lost n ≡ false → AreInvocations terms facts (invocations facts n) (invoking.invocations f n)
  pub operations : (n : ℕ) → lost n ≡ false → AreFound terms facts (operations_at facts n) (invoking.operations_at f n)

-- The type of the cluster round each node, and what `rep` stands for there.
pub record AreOwnTypes (f : File) (k : Known) (lost : ℕ → Bool) : Type 0 where
  pub own : (n : ℕ) → IsType k.tables.types.now (own_type k.tables.file n) (headings.own_type f n)
  pub reps : (n : ℕ) → n < length f.nodes → is_equate (declared_at k.tables.file (rep_at k.tables.file n)) ≡ is_some (equate_named f n (codes "rep"))
  pub represented : (n : ℕ) → n < length f.nodes → lost n ≡ false → IsType k.tables.types.now (representation k.headed n) (typing.representation f n)

-- A type in the heading of the routine round the node n, as its body sees it.
abbrev pub IsResultKnown : File → Known → ℕ → ℕ → Type 0
IsResultKnown f k n t = (items : ℕ → Item) (r : ℕ) → (round f n).routine ≡ Some r → IsType k.tables.types.now (type_inside k.tables.file items n t) (Some (headings.type_inside f r (item f t).type))
