-- The rules on invocations over the tables that they read: V11 NoOperation, V12 ArgumentCount, and of V13 ArgumentType,
-- V14 ResultCount and V36 IteratorUse what is asked of them.
use Rattle.std.specs.Prelude.{ℕ, ◌==◌, ◌&&◌, not, Bool, true, false, List, length, Option, Some, None}
use Rattle.std.specs.List.{list_any}
use Rattle.clu_tree.specs.declared.node.NodeKind.{NodeKind}
use Rattle.clu_tree.specs.declared.node.NodeKind.TheVariants as kind
use Rattle.clu_types.specs.declared.term.TypeId.{TypeId}
use Rattle.clu_types.specs.declared.term.Heading.{Heading}
use Rattle.clu_bindings.specs.declared.wanted.Wanted.{Wanted}
use Rattle.clu_bindings.specs.declared.wanted.Wanted.TheVariants as wanted
use Rattle.clu_typing.specs.declared.facts.Operation.{Operation}
use Rattle.clu_typing.specs.declared.facts.Operation.TheVariants as operation
use Rattle.clu_typing.specs.declared.facts.Invocation.{Invocation}
use Rattle.clu_typing.specs.Facts.{invocations, arguments, operation_type, operations_at}
use Rattle.clu_type_rules.specs.declared.invocation_rules.Fault.{Fault}
use Rattle.clu_type_rules.specs.declared.invocation_rules.Fault.TheVariants as fault
use Rattle.clu_type_rules.specs.declared.known.Known.{Known}
use Rattle.clu_type_rules.specs.Included.{all_may_be}
use Rattle.clu_type_rules.specs.Known.{is_iterator, heading_in, term_of, wanted_in}
use Rattle.clu_type_rules.specs.StatementRules.{loops_over_other}

abbrev pub is_missing : Operation → Bool
is_missing operation.Missing = true
is_missing _ = false

abbrev pub is_types_fault : Fault → Bool
is_types_fault fault.ArgumentTypes = true
is_types_fault _ = false

abbrev pub is_loop_call : Wanted → Bool
is_loop_call wanted.LoopCall = true
is_loop_call _ = false

module _ (k : Known) where
  -- V11: the type gives no operation of that name
  abbrev pub lacks_operation : ℕ → Bool
  lacks_operation n = list_any is_missing (operations_at k.facts.now n)

  -- what is wrong where something of this type is invoked with these arguments
  abbrev pub breaks : Fault → List (Option TypeId) → Option TypeId → Heading → Bool
  breaks fault.ArgumentCount given of heading = not (length heading.args == length given)
  breaks fault.ArgumentTypes given of heading = not (all_may_be k.tables.types.now given heading.args)
  breaks fault.ResultCount given of heading = not (length heading.results == 1)
  breaks fault.Iterator given of heading = is_iterator (term_of k of)

  -- what is invoked is no routine, if its type is known
  abbrev pub breaks_by : Fault → List (Option TypeId) → Option TypeId → Option Heading → Bool
  breaks_by its given of (Some heading) = breaks its given of heading
  breaks_by its given None None = false
  breaks_by its given (Some of) None = is_types_fault its

  abbrev pub has_fault : Fault → Invocation → Bool
  has_fault its i = breaks_by its (arguments k.facts.now i) (operation_type k.facts.now i.operation) (heading_in (term_of k (operation_type k.facts.now i.operation)))

  -- something that is invoked at the node; V12, if it is the number of arguments
  abbrev pub some_has_fault : Fault → ℕ → Bool
  some_has_fault its n = list_any (has_fault its) (invocations k.facts.now n)

  -- V36: an iterator is invoked outside for, or for is over no iterator
  abbrev pub misuses_iterator : NodeKind → ℕ → Bool
  misuses_iterator kind.For n = loops_over_other k n
  misuses_iterator _ n = not (is_loop_call (wanted_in k n)) && some_has_fault fault.Iterator n
