-- What is invoked, named and asked at a node, behind what stands in the lists before.
use Rattle.std.specs.Prelude.{◌≡◌, ℕ, ◌&&◌, List, [], ◌∷◌, ◌++◌, length, slice_get, is_some, if◌then◌else◌, Option, Some, None}
use Rattle.clu_tree.specs.declared.node.NodeKind.{NodeKind}
use Rattle.clu_tree.specs.declared.node.NodeKind.TheVariants as kind
use Rattle.clu_types.specs.declared.term.TypeId.{TypeId}
use Rattle.clu_types.specs.declared.term.Term.{Term}
use Rattle.clu_settle.specs.Lists.{type_id}
use Rattle.clu_bindings.specs.declared.file.File.{File}
use Rattle.clu_bindings.specs.declared.file.Headed.{Headed}
use Rattle.clu_bindings.specs.Tables.{optional}
use Rattle.clu_bindings.specs.Readers.{kind_in, children_in, value_in, module_in}
use Rattle.clu_bindings.specs.Named.{named_in, has_fitting_kinds}
use Rattle.clu_operations.specs.declared.found.Asked.{Asked}
use Rattle.clu_operations.specs.declared.found.FoundId.{FoundId}
use Rattle.clu_operations.specs.declared.finding.Finding.{Finding}
use Rattle.clu_operations.specs.Finding.{asked_by, IsBelowIf}
use Rattle.clu_operations.specs.Wished.{IsFinding}
use Rattle.clu_typing.specs.declared.applied.Applied.{Applied}
use Rattle.clu_typing.specs.declared.applied.Applied.TheVariants as applied
use Rattle.clu_typing.specs.declared.facts.Operation.{Operation}
use Rattle.clu_typing.specs.declared.facts.Operation.TheVariants as operation
use Rattle.clu_typing.specs.declared.facts.Invocation.{Invocation}
use Rattle.clu_typing.specs.declared.facts.Invocations.{Invocations}
use Rattle.clu_typing.specs.Found.{IsModuleTold}
use Rattle.clu_typing.specs.Nodes.{is_used}

-- the lists by themselves
pub record Lists : Type 0 where
  pub starts : List ℕ
  pub operation_starts : List ℕ
  pub asker_starts : List ℕ
  pub all : List Invocation
  pub arguments : List (Option TypeId)
  pub operations : List Operation
  pub askers : List FoundId

abbrev pub lists_of : Invocations → Lists
lists_of its = record { starts = its.starts.items; operation_starts = its.operation_starts.items; asker_starts = its.asker_starts.items; all = its.all.items; arguments = its.arguments.items; operations = its.operations.items; askers = its.askers.items }

abbrev pub no_lists : Lists
no_lists = record { starts = []; operation_starts = []; asker_starts = []; all = []; arguments = []; operations = []; askers = [] }

-- what the next node invokes begins here
abbrev pub begun : Lists → Lists
begun l = record l { starts = l.starts ++ length l.all ∷ []; operation_starts = l.operation_starts ++ length l.operations ∷ []; asker_starts = l.asker_starts ++ length l.askers ∷ [] }

abbrev pub with_argument : Option TypeId → Lists → Lists
with_argument of l = record l { arguments = l.arguments ++ of ∷ [] }

abbrev pub with_found : List Asked → FoundId → Lists → Lists
with_found [] id l = l
with_found (one ∷ more) id l = record l { askers = l.askers ++ id ∷ [] }

module _ (finding : Finding) where
  -- if it asks something of types
  abbrev pub with_asker : Operation → Lists → Lists
  with_asker (operation.Found id) l = with_found (asked_by finding id) id l
  with_asker _ l = l

  abbrev pub with_operation : Operation → Lists → Lists
  with_operation its l = with_asker its (record l { operations = l.operations ++ its ∷ [] })

  -- with the arguments from a place on
  abbrev pub with_invocation : Operation → ℕ → Lists → Lists
  with_invocation its from l = with_operation its (record l { all = l.all ++ record { operation = its; from = from; to = length l.arguments } ∷ [] })

  abbrev pub with_invocation_of : Operation → TypeId → Lists → Lists
  with_invocation_of its of l = with_invocation its (length l.arguments) (with_argument (Some of) l)

module _ (types : List (Option TypeId)) where
  -- those of these nodes
  abbrev pub with_arguments : List ℕ → Lists → Lists
  with_arguments [] l = l
  with_arguments (n ∷ ns) l = with_arguments ns (with_argument (optional (slice_get types n)) l)

module _ (types : List (Option TypeId)) (finding : Finding) where
  abbrev pub invoked : Operation → List ℕ → Lists → Lists
  invoked its ns l = with_invocation finding its (length l.arguments) (with_arguments types ns l)

  -- a routine object of this type
  abbrev pub called_of : Option TypeId → List ℕ → Lists → Lists
  called_of (Some of) ns l = invoked (operation.Object of) ns l
  called_of None ns l = l

  abbrev pub called : List ℕ → Lists → Lists
  called [] l = l
  called (n ∷ ns) l = called_of (optional (slice_get types n)) ns l

  abbrev pub called_at : NodeKind → List ℕ → Lists → Lists
  called_at kind.Call ns l = called ns l
  called_at _ ns l = l

  -- by that for which a node of this kind with these children stands
  abbrev pub with_applied : Applied → NodeKind → List ℕ → Lists → Lists
  with_applied (applied.Invoked first None) k ns l = invoked first.operation ns l
  with_applied (applied.Invoked first (Some second)) k ns l = with_invocation_of finding second.operation second.of (invoked first.operation ns l)
  with_applied (applied.Named (Some its)) k ns l = with_operation finding its.operation l
  with_applied (applied.Named None) k ns l = with_operation finding operation.Missing l
  with_applied applied.Nothing k ns l = called_at k ns l

module _ (f : File) where
  abbrev pub noted : List (Option TypeId) → Finding → Applied → ℕ → Lists → Lists
  noted types finding its n l = if is_used f n then with_applied types finding its (kind_in f n) (children_in f n) l else l

  abbrev pub module_named : List Term → ℕ → Option (ℕ × List ℕ) → Option TypeId
  module_named terms n (Some named) = if is_some (module_in f named.0) && has_fitting_kinds f terms named.0 named.1 then type_id (value_in f n) else None
  module_named terms n None = None

  -- the type of the module that the node names with actual parameters of the kinds that it takes
  abbrev pub module_at : List Term → ℕ → Option TypeId
  module_at terms n = module_named terms n (named_in f n)

-- what was looked for is an object in no case, and without a type there is none
abbrev pub IsSought : Option TypeId → Operation → Type 0
IsSought None its = its ≡ operation.Missing
IsSought (Some of) (operation.Object other) = ⊥
IsSought (Some of) _ = Unit {0}

-- The module of this type comes behind what asks something. The terms of types grow from old to new while it is looked for.
pub record NotesModule (h : Headed) (old new : List Term) (before now : Finding) (of : Option TypeId) (l m : Lists) : Type 0 where
  pub its : Operation
  pub sought : IsSought of its
  pub told : IsBelowIf (length old) of → IsFinding h old before → IsModuleTold h new now of its
  pub lists : m ≡ with_asker now its l
