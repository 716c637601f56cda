-- The parts of modules: a module itself, and the routines of a cluster by their places.
use Rattle.std.specs.Prelude.{◌≡◌, ◌<◌, ◌||◌, Bool, ℕ, ◌-◌, nat_lt, List, [], length, slice_get, if◌then◌else◌, Option, Some, None}
use Rattle.std.specs.Option.{option_map}
use Rattle.clu_types.specs.declared.term.TypeId.{TypeId}
use Rattle.clu_types.specs.declared.spec.Demand.{Demand}
use Rattle.clu_types.specs.declared.spec.OpSpec.{OpSpec}
use Rattle.clu_types.specs.declared.spec.Form.{Form}
use Rattle.clu_types.specs.declared.spec.Form.TheVariants as form
use Rattle.clu_types.specs.declared.spec.Spec.{Spec}
use Rattle.clu_head.specs.declared.head.Demanded.{Demanded}
use Rattle.clu_head.specs.declared.head.RoutineHead.{RoutineHead}
use Rattle.clu_head.specs.declared.head.HeadForm.{HeadForm}
use Rattle.clu_head.specs.declared.head.HeadForm.TheVariants as head
use Rattle.clu_head.specs.declared.head.Head.{Head}
use Rattle.clu_bindings.specs.declared.meaning.ModuleId.{ModuleId}
use Rattle.clu_bindings.specs.declared.file.Headed.{Headed}
use Rattle.clu_operations.specs.ByName.{AreAscending, first_named, item_at}
use Rattle.clu_operations.specs.declared.modules.Known.{Known}
use Rattle.clu_operations.specs.declared.modules.Known.TheVariants as known
use Rattle.clu_operations.specs.declared.modules.Part.{Part}
use Rattle.clu_operations.specs.declared.modules.Part.TheVariants as part
use Rattle.clu_operations.specs.declared.modules.OwnPart.{OwnPart}

-- ---- modules of the file, and of the library

pub data Module : Type 0 where
  own : Head → Module
  kept : Spec → Module

abbrev pub module_seen : Known → Module
module_seen (known.Own its) = own its.now
module_seen (known.Kept its) = kept its.now

-- those of the library stand behind those of the file
abbrev pub known_of : Headed → ModuleId → Option Module
known_of headed id =
    let count = headed.file.bindings.now.modules.of_file in
    if nat_lt id.0 count then option_map own (slice_get headed.heads.now.modules.items id.0)
    else option_map kept (slice_get headed.file.library.now (id.0 - count))

abbrev pub routines_in : HeadForm → List RoutineHead
routines_in (head.Routine routine) = []
routines_in (head.Cluster demands routines) = routines

abbrev pub operations_in : Form → List OpSpec
operations_in (form.Routine operation) = []
operations_in (form.Cluster demands operations) = operations

-- ---- the part for which a name stands

abbrev pub routine_name : RoutineHead → List ℕ
routine_name routine = routine.name

abbrev pub operation_name : OpSpec → List ℕ
operation_name operation = operation.name

-- a routine is seen if it is exported, or from inside
abbrev pub if_seen : Bool → Option RoutineHead → Option RoutineHead
if_seen inside (Some routine) = if inside || routine.exported then Some routine else None
if_seen inside None = None

abbrev pub routine_named : Bool → List ℕ → List RoutineHead → Option RoutineHead
routine_named inside name routines = if_seen inside (first_named routine_name name routines)

-- where routines ascend by name
abbrev pub IsNamed : Module → List ℕ → Bool → Option ℕ → Type 0
IsNamed (own its) name inside place = AreAscending routine_name (routines_in its.form) → item_at (routines_in its.form) place ≡ routine_named inside name (routines_in its.form)
IsNamed (kept its) name inside place = AreAscending operation_name (operations_in its.form) → item_at (operations_in its.form) place ≡ first_named operation_name name (operations_in its.form)

-- so many operations of the library there are; a routine of the file is none where it is not there
abbrev pub IsPlaceIn : Module → ℕ → Type 0
IsPlaceIn (own its) place = Unit {0}
IsPlaceIn (kept its) place = place < length (operations_in its.form)

-- the names of routines ascend
abbrev pub HasAscending : Module → Type 0
HasAscending (own its) = AreAscending routine_name (routines_in its.form)
HasAscending (kept its) = AreAscending operation_name (operations_in its.form)

-- ---- a part of a module of the file: its type, none of a cluster, and what it asks

pub record Shows : Type 0 where
  pub of : Option TypeId
  pub demands : List Demanded

abbrev pub part_seen : OwnPart → Shows
part_seen its = record { of = its.of; demands = its.demands.now }

abbrev pub of_routine : RoutineHead → Shows
of_routine routine = record { of = routine.of_type; demands = routine.demands }

abbrev pub whole : HeadForm → Shows
whole (head.Routine routine) = of_routine routine
whole (head.Cluster demands routines) = record { of = None; demands = demands }

abbrev pub own_part : HeadForm → Part → Option Shows
own_part its part.Itself = Some (whole its)
own_part its (part.Routine place) = option_map of_routine (slice_get (routines_in its) place)

-- ---- of the library

abbrev pub operation_at : List OpSpec → Part → Option OpSpec
operation_at operations part.Itself = None
operation_at operations (part.Routine place) = slice_get operations place

abbrev pub kept_routine : Form → Part → Option OpSpec
kept_routine (form.Routine operation) its = Some operation
kept_routine (form.Cluster demands operations) its = operation_at operations its

-- what a cluster asks itself
abbrev pub cluster_demands : Form → List Demand
cluster_demands (form.Routine operation) = []
cluster_demands (form.Cluster demands operations) = demands

abbrev pub demands_or : List Demand → Option OpSpec → List Demand
demands_or demands (Some operation) = operation.demands
demands_or demands None = demands

abbrev pub kept_demands : Form → Part → List Demand
kept_demands its which = demands_or (cluster_demands its) (kept_routine its which)
