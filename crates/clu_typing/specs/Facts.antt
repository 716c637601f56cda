-- What is known of the nodes of a file, read from its tables. Of a node that isn't there all is nothing.
use Rattle.std.specs.Prelude.{ℕ, List, get_or, slice_get, Option, Some, None}
use Rattle.clu_types.specs.declared.term.TypeId.{TypeId}
use Rattle.clu_bindings.specs.Tables.{optional, between, items_at}
use Rattle.clu_operations.specs.declared.found.FoundId.{FoundId}
use Rattle.clu_operations.specs.declared.finding.Finding.{Finding}
use Rattle.clu_operations.specs.Finding.{found_at}
use Rattle.clu_typing.specs.declared.facts.Operation.{Operation}
use Rattle.clu_typing.specs.declared.facts.Operation.TheVariants as operation
use Rattle.clu_typing.specs.declared.facts.Invocation.{Invocation}
use Rattle.clu_typing.specs.declared.facts.Invocations.{Invocations}
use Rattle.clu_typing.specs.declared.facts.Facts.{Facts}
use Rattle.clu_typing.specs.declared.raising.RaisesId.{RaisesId}
use Rattle.clu_typing.specs.Raised.{nothing}

-- what was looked for
abbrev pub operation_of : Option FoundId → Operation
operation_of (Some id) = operation.Found id
operation_of None = operation.Missing

-- its type
abbrev pub type_found : Finding → Operation → Option TypeId
type_found finding operation.Missing = None
type_found finding (operation.Found id) = (found_at finding.founds.items id).of
type_found finding (operation.Object of) = Some of

-- what asks something at the node
abbrev pub askers_at : Invocations → ℕ → List FoundId
askers_at list n = items_at list.askers.items list.asker_starts.items n

module _ (facts : Facts) where
  -- the type of the expression that the node is
  abbrev pub type_of : ℕ → Option TypeId
  type_of n = optional (slice_get facts.types.items n)

  abbrev pub invocations : ℕ → List Invocation
  invocations n = items_at facts.invocations.all.items facts.invocations.starts.items n

  -- the types of the arguments of an invocation
  abbrev pub arguments : Invocation → List (Option TypeId)
  arguments i = between facts.invocations.arguments.items i.from i.to

  abbrev pub operation_type : Operation → Option TypeId
  operation_type its = type_found facts.finding its

  abbrev pub operations_at : ℕ → List Operation
  operations_at n = items_at facts.invocations.operations.items facts.invocations.operation_starts.items n

  -- the set of what the expression or statement may raise
  abbrev pub raised_at : ℕ → RaisesId
  raised_at n = get_or facts.raises.items n nothing
