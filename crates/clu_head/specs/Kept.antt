-- What a specification keeps of a head: its types are those of the head, in an arena of its own.
use Rattle.std.specs.Prelude.{◌≡◌, ◌⊎◌, ◌<◌, List, length, map, Option, Some, None}
use Rattle.std.specs.List.{AllZip, filter}
use Rattle.clu_types.specs.Arena.{type_at, type_of, types_of, HeadingBelow}
use Rattle.clu_types.specs.declared.term.TypeId.{TypeId}
use Rattle.clu_types.specs.declared.term.Heading.{Heading}
use Rattle.clu_types.specs.declared.term.Term.{Term}
use Rattle.clu_types.specs.declared.term.Term.TheVariants as term
use Rattle.clu_types.specs.declared.spec.Demand.{Demand}
use Rattle.clu_types.specs.declared.spec.OpSpec.{OpSpec}
use Rattle.clu_types.specs.declared.spec.Form.{Form}
use Rattle.clu_types.specs.declared.spec.Form.TheVariants as kept
use Rattle.clu_types.specs.declared.spec.Spec.{Spec}
use Rattle.clu_head.specs.declared.head.Demanded.{Demanded}
use Rattle.clu_head.specs.declared.head.RoutineHead.{RoutineHead}
use Rattle.clu_head.specs.declared.head.HeadForm.{HeadForm}
use Rattle.clu_head.specs.declared.head.HeadForm.TheVariants as form
use Rattle.clu_head.specs.declared.head.Head.{Head}

-- the parts of the type of a routine, as a term
unfoldable pub IsHeadingOf : Term → Heading → Type 0
IsHeadingOf t h = (t ≡ term.Proc h) ⊎ (t ≡ term.Iter h)

module _ (from to : List Term) where
  -- a type of the one arena in the other
  unfoldable pub IsMoved : Option TypeId → TypeId → Type 0
  IsMoved (Some id) made = (made.0 < length to) × (type_at (types_of to) made ≡ type_at (types_of from) id)
  IsMoved None made = ⊥

  -- the parts of the type of a routine
  unfoldable pub AreMovedParts : Option TypeId → Heading → Type 0
  AreMovedParts (Some id) h =
      HeadingBelow (length to) h
      × ((type_at (types_of from) id ≡ type_of (types_of to) (term.Proc h)) ⊎ (type_at (types_of from) id ≡ type_of (types_of to) (term.Iter h)))
  AreMovedParts None h = ⊥

  pub record IsDemandOf (d : Demanded) (made : Demand) : Type 0 where
    pub param : made.param ≡ d.parameter
    pub op : made.op ≡ d.operation
    pub wanted : IsMoved d.wanted made.wanted

  unfoldable pub AreDemandsOf : List Demanded → List Demand → Type 0
  AreDemandsOf ds made = AllZip IsDemandOf ds made

  pub record IsRoutineOf (r : RoutineHead) (made : OpSpec) : Type 0 where
    pub name : made.name ≡ r.name
    pub iter : made.iter ≡ r.iter
    pub heading : AreMovedParts r.of_type made.heading
    pub demands : AreDemandsOf r.demands made.demands

  -- of a cluster those that it exports
  unfoldable pub AreRoutinesOf : List RoutineHead → List OpSpec → Type 0
  AreRoutinesOf rs made = AllZip IsRoutineOf (filter (λ r. r.exported) rs) made

  unfoldable pub IsFormOf : HeadForm → Form → Type 0
  IsFormOf (form.Routine r) (kept.Routine op) = IsRoutineOf r op
  IsFormOf (form.Cluster ds rs) (kept.Cluster demands ops) = AreDemandsOf ds demands × AreRoutinesOf rs ops
  IsFormOf (form.Routine r) (kept.Cluster demands ops) = ⊥
  IsFormOf (form.Cluster ds rs) (kept.Routine op) = ⊥
