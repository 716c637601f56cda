-- The operation that is named or invoked at a node, by the tables of a file.
use Rattle.std.specs.Prelude.{ℕ, Bool, true, false, List, [], ◌∷◌, slice_get, unwrap_or, if◌then◌else◌, Option, Some, None}
use Rattle.std.specs.Option.{option_or}
use Rattle.clu_tree.specs.declared.node.NodeKind.{NodeKind}
use Rattle.clu_tree.specs.declared.node.NodeKind.TheVariants as kind
use Rattle.clu_types.specs.declared.term.TypeId.{TypeId}
use Rattle.clu_types.specs.declared.term.Term.{Term}
use Rattle.clu_settle.specs.Lists.{type_id}
use Rattle.clu_bindings.specs.declared.file.File.{File}
use Rattle.clu_bindings.specs.declared.meaning.Meaning.{Meaning}
use Rattle.clu_bindings.specs.declared.meaning.Meaning.TheVariants as meaning
use Rattle.clu_bindings.specs.Tables.{optional}
use Rattle.clu_bindings.specs.Readers.{kind_in, children_in, value_in, meaning_in}
use Rattle.clu_bindings.specs.Named.{named_in}
use Rattle.clu_operations.specs.declared.words.NameId.{NameId}
use Rattle.clu_operations.specs.declared.shapes.Shape.{Shape}
use Rattle.clu_operations.specs.declared.shapes.Shape.TheVariants as shape
use Rattle.clu_operations.specs.Shapes.{shape_of}
use Rattle.clu_typing.specs.declared.applied.Use.{Use}
use Rattle.clu_typing.specs.declared.applied.Applied.{Applied}
use Rattle.clu_typing.specs.declared.applied.Applied.TheVariants as applied
use Rattle.clu_typing.specs.declared.facts.Invoked.{Invoked}
use Rattle.clu_typing.specs.declared.facts.Invoked.TheVariants as invoked
use Rattle.clu_typing.specs.Nodes.{is_used, has_actuals}

abbrev pub operation_by : Shape → TypeId → NameId → Invoked
operation_by shape.Builtin of name = invoked.Builtin of name
operation_by shape.Cluster of name = invoked.Cluster of name
operation_by (shape.Parameter number) of name = invoked.Parameter number name

abbrev pub operation_of : List Term → Use → Invoked
operation_of terms its = operation_by (shape_of terms its.of) its.of its.name

-- of a comparison with `~` it is the comparison's
abbrev pub by_applied : List Term → Applied → Option Invoked
by_applied terms (applied.Invoked first second) = Some (operation_of terms first)
by_applied terms (applied.Named (Some its)) = Some (operation_of terms its)
by_applied terms _ = None

abbrev pub instance_by : Meaning → Option TypeId → Option Invoked
instance_by (meaning.Module its) (Some of) = Some (invoked.Module of)
instance_by _ _ = None

module _ (f : File) where
  abbrev pub instance_of : ℕ → Option (ℕ × List ℕ) → Option Invoked
  instance_of n (Some named) = instance_by (meaning_in f named.0) (type_id (value_in f n))
  instance_of n None = None

  -- the module with actual parameters, to which the node comes as a cluster type of its name
  abbrev pub instance_at : ℕ → Option Invoked
  instance_at n = instance_of n (named_in f n)

  abbrev pub names_routine_as : NodeKind → ℕ → Bool
  names_routine_as kind.Name n = true
  names_routine_as kind.OperOf n = true
  names_routine_as kind.Index n = has_actuals f n
  names_routine_as _ n = false

  -- what is invoked at the node is the routine that is called
  abbrev pub names_routine : ℕ → Bool
  names_routine n = names_routine_as (kind_in f n) n

  -- what a call invokes, by what the nodes before name and invoke
  abbrev pub called_by : List (Option Invoked) → List ℕ → Option Invoked
  called_by before [] = None
  called_by before (c ∷ cs) = if names_routine c then optional (slice_get before c) else None

  abbrev pub called : List (Option Invoked) → ℕ → Option Invoked
  called before n = called_by before (children_in f n)

  module _ (terms : List Term) (before : List (Option Invoked)) (applied : Applied) where
    abbrev pub invoked_as : NodeKind → ℕ → Option Invoked
    invoked_as kind.Call n = Some (unwrap_or (called before n) invoked.Stored)
    invoked_as _ n = option_or (by_applied terms applied) (instance_at n)

    -- what is named or invoked at a node, if anything is
    abbrev pub invoked_at : ℕ → Option Invoked
    invoked_at n = if is_used f n then invoked_as (kind_in f n) n else None
