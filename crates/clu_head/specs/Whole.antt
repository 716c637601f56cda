-- Heads of which nothing is refused or lost: of these there are specifications.
use Rattle.std.specs.Prelude.{◌<◌, All, List, length, IsSome, IsTrue, Option, Some, None}
use Rattle.clu_types.specs.CluType.{CluType, proc_of, iter_of}
use Rattle.clu_types.specs.Arena.{type_at, types_of}
use Rattle.clu_types.specs.declared.spec.ParamKind.{ParamKind}
use Rattle.clu_types.specs.declared.term.TypeId.{TypeId}
use Rattle.clu_types.specs.declared.term.Term.{Term}
use Rattle.clu_types.specs.declared.term.Term.TheVariants as term
use Rattle.clu_head.specs.declared.head.Demanded.{Demanded}
use Rattle.clu_head.specs.declared.head.RoutineHead.{RoutineHead}
use Rattle.clu_head.specs.declared.head.HeadForm.{HeadForm}
use Rattle.clu_head.specs.declared.head.HeadForm.TheVariants as form
use Rattle.clu_head.specs.declared.head.Head.{Head}

-- the term, and the type, of a routine
abbrev pub IsRoutineTerm : Term → Type 0
IsRoutineTerm (term.Proc h) = Unit {0}
IsRoutineTerm (term.Iter h) = Unit {0}
IsRoutineTerm _ = ⊥

abbrev pub IsRoutineType : CluType → Type 0
IsRoutineType (proc_of args results ss) = Unit {0}
IsRoutineType (iter_of args results ss) = Unit {0}
IsRoutineType _ = ⊥

module _ (types : List Term) where
  -- there is a type, and it is of the arena
  unfoldable pub HasType : Option TypeId → Type 0
  HasType (Some id) = id.0 < length types
  HasType None = ⊥

  -- and it is that of a routine
  unfoldable pub HasRoutineType : Option TypeId → Type 0
  HasRoutineType (Some id) = (id.0 < length types) × IsRoutineType (type_at (types_of types) id)
  HasRoutineType None = ⊥

  unfoldable pub AreWholeDemands : List Demanded → Type 0
  AreWholeDemands ds = All (λ d. HasType d.wanted) ds

  pub record IsWholeRoutine (r : RoutineHead) : Type 0 where
    pub of_type : HasRoutineType r.of_type
    pub demands : AreWholeDemands r.demands

  -- of a cluster those that it exports
  unfoldable pub IsWholeIfExported : RoutineHead → Type 0
  IsWholeIfExported r = IsTrue r.exported → IsWholeRoutine r

  unfoldable pub AreWholeRoutines : List RoutineHead → Type 0
  AreWholeRoutines rs = All IsWholeIfExported rs

  unfoldable pub IsWholeForm : HeadForm → Type 0
  IsWholeForm (form.Routine r) = IsWholeRoutine r
  IsWholeForm (form.Cluster ds rs) = AreWholeDemands ds × AreWholeRoutines rs

-- each parameter has a legal type
unfoldable pub AreWholeKinds : List (Option ParamKind) → Type 0
AreWholeKinds kinds = All IsSome kinds

pub record IsWhole (types : List Term) (h : Head) : Type 0 where
  pub kinds : AreWholeKinds h.kinds
  pub form : IsWholeForm types h.form
