-- Where the operations of a type are found at a node, by the tables of a file.
use Rattle.std.specs.Prelude.{ℕ, bytes_eq, Bool, false, List, slice_get, if◌then◌else◌, option_map, option_and_then, Option, Some, None}
use Rattle.clu_types.specs.declared.term.TypeId.{TypeId}
use Rattle.clu_types.specs.declared.term.Term.{Term}
use Rattle.clu_settle.specs.Names.{names_of}
use Rattle.clu_demands.specs.declared.needs.Instance.{Instance}
use Rattle.clu_demands.specs.Asking.{instance_of}
use Rattle.clu_bindings.specs.declared.file.File.{File}
use Rattle.clu_bindings.specs.declared.meaning.ModuleId.{ModuleId}
use Rattle.clu_bindings.specs.Modules.{named}
use Rattle.clu_bindings.specs.Readers.{round_in, unit_module}
use Rattle.clu_operations.specs.declared.found.View.{View}
use Rattle.clu_operations.specs.declared.found.View.TheVariants as view
use Rattle.clu_operations.specs.declared.shapes.Shape.{Shape}
use Rattle.clu_operations.specs.declared.shapes.Shape.TheVariants as shape
use Rattle.clu_operations.specs.Shapes.{shape_of, cluster_name}

abbrev pub instance_in : Option Term → Option Instance
instance_in (Some t) = instance_of t
instance_in None = None

-- the cluster type that a type is
abbrev pub instance_at : List Term → TypeId → Option Instance
instance_at terms of = instance_in (slice_get terms of.0)

abbrev pub is_of_name : Option (List ℕ) → List ℕ → Bool
is_of_name (Some own) name = bytes_eq own name
is_of_name None name = false

module _ (f : File) where
  abbrev pub cluster_round : Option ℕ → Option ℕ
  cluster_round (Some n) = (round_in f n).cluster
  cluster_round None = None

  abbrev pub first_name : Option ℕ → Option (List ℕ)
  first_name (Some n) = slice_get (names_of (slice_get f.syntax.now n)) 0
  first_name None = None

  -- the name of the cluster in which the node stands
  abbrev pub name_round : Option ℕ → Option (List ℕ)
  name_round n = first_name (cluster_round n)

  abbrev pub is_inside : Option ℕ → List ℕ → Bool
  is_inside n name = is_of_name (name_round n) name

  -- ---- where a type has its operations at a node

  abbrev pub unit_at : Option ℕ → Option ModuleId
  unit_at (Some n) = unit_module f n
  unit_at None = None

  -- users see what the first module of the name exports, the text of a cluster all its routines
  abbrev pub view_named : Option ℕ → List ℕ → Option View
  view_named n name = if is_inside n name then option_map view.Inside (unit_at n) else option_map view.Outside (named f.bindings.now.modules name)

  abbrev pub view_of : List Term → Option ℕ → TypeId → Option View
  view_of terms n of = option_and_then (view_named n) (cluster_name terms of)

  -- a type parameter has none by itself
  abbrev pub view_by : List Term → Option ℕ → TypeId → Shape → Option View
  view_by terms n of shape.Builtin = Some view.Builtin
  view_by terms n of shape.Cluster = view_of terms n of
  view_by terms n of (shape.Parameter number) = None

  abbrev pub view_at : List Term → Option ℕ → TypeId → Option View
  view_at terms n of = view_by terms n of (shape_of terms of)
