-- What is noted of nodes one after the other, and how it stands in the lists of what is invoked and named.
use Rattle.std.specs.Prelude.{◌≡◌, ℕ, ◌+◌, List, [], ◌∷◌, ◌++◌, length, map, slice_get, if◌then◌else◌, Option, Some, None}
use Rattle.std.specs.List.{flat_map}
use Rattle.clu_tree.specs.declared.node.NodeKind.{NodeKind}
use Rattle.clu_tree.specs.declared.node.NodeKind.TheVariants as kind
use Rattle.clu_types.specs.declared.term.TypeId.{TypeId}
use Rattle.clu_types.specs.declared.term.Term.{Term}
use Rattle.clu_bindings.specs.declared.file.File.{File}
use Rattle.clu_operations.specs.declared.found.Asked.{Asked}
use Rattle.clu_operations.specs.declared.found.FoundId.{FoundId}
use Rattle.clu_operations.specs.declared.finding.Finding.{Finding}
use Rattle.clu_operations.specs.Finding.{asked_by}
use Rattle.clu_bindings.specs.Tables.{optional, between, table_to, joined_to}
use Rattle.clu_bindings.specs.Readers.{kind_in, children_in}
use Rattle.clu_checking.specs.Operations.{Found}
use Rattle.clu_checking.specs.Invocations as invoking
use Rattle.clu_typing.specs.declared.applied.Applied.{Applied}
use Rattle.clu_typing.specs.declared.applied.Applied.TheVariants as applied
use Rattle.clu_typing.specs.declared.facts.Facts.{Facts}
use Rattle.clu_typing.specs.declared.facts.Operation.{Operation}
use Rattle.clu_typing.specs.declared.facts.Operation.TheVariants as operation
use Rattle.clu_typing.specs.declared.facts.Invocation.{Invocation}
use Rattle.clu_typing.specs.Nodes.{is_used}
use Rattle.clu_typing.specs.Invoking.{Lists}
use Rattle.clu_passes.specs.FactTables.{AreTypes, IsFound, IsAsking}

-- an operation that is invoked with arguments of these types
pub record One : Type 0 where
  pub operation : Operation
  pub arguments : List (Option TypeId)

-- what is invoked at a node, and what is named there
pub record Noted : Type 0 where
  pub invoked : List One
  pub named : List Operation

-- ---- by that for which a node stands

abbrev pub nothing_noted : Noted
nothing_noted = record { invoked = []; named = [] }

abbrev pub one_of : Operation → List (Option TypeId) → One
one_of its arguments = record { operation = its; arguments = arguments }

abbrev pub name_noted : Operation → Noted
name_noted its = record { invoked = []; named = its ∷ [] }

module _ (types : List (Option TypeId)) where
  abbrev pub types_given : List ℕ → List (Option TypeId)
  types_given ns = map (λ n. optional (slice_get types n)) ns

  -- a routine object of this type
  abbrev pub call_noted : Option TypeId → List ℕ → Noted
  call_noted (Some of) ns = record { invoked = one_of (operation.Object of) (types_given ns) ∷ []; named = [] }
  call_noted None ns = nothing_noted

  abbrev pub children_noted : List ℕ → Noted
  children_noted [] = nothing_noted
  children_noted (n ∷ ns) = call_noted (optional (slice_get types n)) ns

  abbrev pub kind_noted : NodeKind → List ℕ → Noted
  kind_noted kind.Call ns = children_noted ns
  kind_noted _ ns = nothing_noted

  -- of a node of this kind with these children
  abbrev pub applied_noted : Applied → NodeKind → List ℕ → Noted
  applied_noted (applied.Invoked first None) k ns = record { invoked = one_of first.operation (types_given ns) ∷ []; named = [] }
  applied_noted (applied.Invoked first (Some second)) k ns = record { invoked = one_of first.operation (types_given ns) ∷ one_of second.operation (Some second.of ∷ []) ∷ []; named = [] }
  applied_noted (applied.Named (Some its)) k ns = name_noted its.operation
  applied_noted (applied.Named None) k ns = name_noted operation.Missing
  applied_noted applied.Nothing k ns = kind_noted k ns

  abbrev pub node_noted : File → Applied → ℕ → Noted
  node_noted f its n = if is_used f n then applied_noted its (kind_in f n) (children_in f n) else nothing_noted

-- ---- in the lists

-- invocations whose arguments stand from a place on
abbrev pub spans : ℕ → List One → List Invocation
spans from [] = []
spans from (one ∷ ones) = record { operation = one.operation; from = from; to = from + length one.arguments } ∷ spans (from + length one.arguments) ones

abbrev pub arguments_of : Noted → List (Option TypeId)
arguments_of its = flat_map (λ one. one.arguments) its.invoked

abbrev pub operations_of : Noted → List Operation
operations_of its = map (λ one. one.operation) its.invoked ++ its.named

-- where that of each of the nodes before m begins, if `f` is what stands of each
abbrev pub begins_to : {A : Type 0} → (ℕ → List A) → ℕ → List ℕ
begins_to f m = table_to (λ n. length (joined_to f n)) m

module _ (noted : ℕ → Noted) where
  abbrev pub arguments_at : ℕ → List (Option TypeId)
  arguments_at n = arguments_of (noted n)

  abbrev pub operations_at : ℕ → List Operation
  operations_at n = operations_of (noted n)

  abbrev pub spans_at : ℕ → List Invocation
  spans_at n = spans (length (joined_to arguments_at n)) (noted n).invoked

  -- the lists are of the nodes before m
  pub record AreNoted (l : Lists) (m : ℕ) : Type 0 where
    pub all : l.all ≡ joined_to spans_at m
    pub arguments : l.arguments ≡ joined_to arguments_at m
    pub operations : l.operations ≡ joined_to operations_at m
    pub starts : l.starts ≡ begins_to spans_at m
    pub operation_starts : l.operation_starts ≡ begins_to operations_at m

-- ---- what asks something of types

abbrev pub asker_if : List Asked → FoundId → List FoundId
asker_if [] id = []
asker_if (one ∷ more) id = id ∷ []

module _ (finding : Finding) where
  abbrev pub asker_of : Operation → List FoundId
  asker_of (operation.Found id) = asker_if (asked_by finding id) id
  asker_of _ = []

  abbrev pub askers_of : List Operation → List FoundId
  askers_of its = flat_map asker_of its

-- of each of the nodes before m these
pub record HaveAskers (askers : ℕ → List FoundId) (l : Lists) (m : ℕ) : Type 0 where
  pub askers_are : l.askers ≡ joined_to askers m
  pub starts : l.asker_starts ≡ begins_to askers m

-- ---- read from them

abbrev pub one_read : List (Option TypeId) → Invocation → One
one_read arguments i = one_of i.operation (between arguments i.from i.to)

module _ (terms : List Term) (facts : Facts) where
  abbrev pub AreOnes : List One → List invoking.Invocation → Type 0
  AreOnes (one ∷ ones) (x ∷ xs) = (IsFound terms facts one.operation x.invoked × AreTypes terms one.arguments x.arguments × IsAsking terms facts one.operation x.invoked) × AreOnes ones xs
  AreOnes [] [] = Unit {0}
  AreOnes _ _ = ⊥

  -- operations that were found, with what they ask
  abbrev pub AreWhollyFound : List Operation → List (Option Found) → Type 0
  AreWhollyFound (its ∷ more) (x ∷ xs) = (IsFound terms facts its x × IsAsking terms facts its x) × AreWhollyFound more xs
  AreWhollyFound [] [] = Unit {0}
  AreWhollyFound _ _ = ⊥
