-- Heads of which each routine that is an iterator has a type of iterators, and each other one a type of procedures.
use Rattle.std.specs.Prelude.{Bool, true, false, List, Option, Some, None}
use Rattle.std.specs.List.{AllByRecursion}
use Rattle.clu_types.specs.CluType.{CluType, proc_of, iter_of}
use Rattle.clu_types.specs.Arena.{type_at}
use Rattle.clu_types.specs.declared.term.TypeId.{TypeId}
use Rattle.clu_head.specs.declared.head.RoutineHead.{RoutineHead}
use Rattle.clu_head.specs.declared.head.HeadForm.{HeadForm}
use Rattle.clu_head.specs.declared.head.HeadForm.TheVariants as form

abbrev pub IsOfRoutines : Bool → CluType → Type 0
IsOfRoutines true (iter_of args results raised) = Unit {0}
IsOfRoutines false (proc_of args results raised) = Unit {0}
IsOfRoutines _ _ = ⊥

module _ (types : List CluType) where
  abbrev pub IsTypeOf : Bool → Option TypeId → Type 0
  IsTypeOf iter (Some id) = IsOfRoutines iter (type_at types id)
  IsTypeOf iter None = Unit {0}

  abbrev pub HasType : RoutineHead → Type 0
  HasType r = IsTypeOf r.iter r.of_type

  abbrev pub HaveTypes : HeadForm → Type 0
  HaveTypes (form.Routine r) = HasType r
  HaveTypes (form.Cluster ds rs) = AllByRecursion HasType rs
