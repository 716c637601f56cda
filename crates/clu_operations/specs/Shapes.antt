-- What kinds of type have operations, by the terms of types.
use Rattle.std.specs.Prelude.{ℕ, List, slice_get, Option, Some, None}
use Rattle.clu_types.specs.declared.term.TypeId.{TypeId}
use Rattle.clu_types.specs.declared.term.Term.{Term}
use Rattle.clu_types.specs.declared.term.Term.TheVariants as term
use Rattle.clu_operations.specs.declared.shapes.Shape.{Shape}
use Rattle.clu_operations.specs.declared.shapes.Shape.TheVariants as shape

abbrev pub shape_of_term : Term → Shape
shape_of_term (term.Cluster name given) = shape.Cluster
shape_of_term (term.Param number) = shape.Parameter number
shape_of_term _ = shape.Builtin

-- a number of no type is that of none with operations of its own
abbrev pub shape_in : Option Term → Shape
shape_in (Some t) = shape_of_term t
shape_in None = shape.Builtin

abbrev pub shape_of : List Term → TypeId → Shape
shape_of terms of = shape_in (slice_get terms of.0)

abbrev pub name_of_term : Term → Option (List ℕ)
name_of_term (term.Cluster name given) = Some name
name_of_term _ = None

abbrev pub name_in : Option Term → Option (List ℕ)
name_in (Some t) = name_of_term t
name_in None = None

-- the name of the module whose cluster type it is
abbrev pub cluster_name : List Term → TypeId → Option (List ℕ)
cluster_name terms of = name_in (slice_get terms of.0)
