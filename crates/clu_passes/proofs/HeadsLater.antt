-- Heads whose numbers are those of an arena tell the same by each into which it grows.
use Rattle.std.proofs.Common.{◌≡◌, ◌∙◌, ℕ, zero, suc, ◌<◌, Bool, true, false, cond, List, [], ◌∷◌, length, map, filter, Option, Some, None, refl, sym, ap, ap₂}
use Rattle.std.specs.Prelude.{slice_get}
use Rattle.std.specs.Option.{option_map}
use Rattle.clu_types.specs.Arena.{Grows, type_at, types_of}
use Rattle.clu_types.specs.CluType.{CluType}
use Rattle.clu_types.specs.declared.term.Term.{Term}
use Rattle.clu_types.specs.declared.term.TypeId.{TypeId}
use Rattle.clu_types.proofs.Arenas.{types_grown}
use Rattle.clu_checking.specs.Specifications.{Demand, Form, Heading, Specification, of_cluster, of_routine}
use Rattle.clu_head.specs.declared.head.Demanded.{Demanded}
use Rattle.clu_head.specs.declared.head.Head.{Head}
use Rattle.clu_head.specs.declared.head.HeadForm.{HeadForm}
use Rattle.clu_head.specs.declared.head.HeadForm.TheVariants as form
use Rattle.clu_head.specs.declared.head.RoutineHead.{RoutineHead}
use Rattle.clu_operations.specs.Bundles.{FormBelow, PartBelow, RoutinesBelow, WantedBelow}
use Rattle.clu_operations.specs.Finding.{IsBelowIf}
use Rattle.clu_operations.specs.Modules as parts
use Rattle.clu_passes.specs.Told.{demand_told, exported_told, head_told, routine_told}

module _ (old new : List Term) (grows : Grows old new) where
  abbrev before : List CluType
  before = types_of old

  abbrev later : List CluType
  later = types_of new

  type_later : (o : Option TypeId) → IsBelowIf (length old) o → option_map (type_at (types_of new)) o ≡ option_map (type_at (types_of old)) o
  type_later (Some id) below = ap Some (types_grown old new grows id below)
  type_later None below = refl

  demand_later : (d : Demanded) → IsBelowIf (length old) d.wanted → demand_told later d ≡ demand_told before d
  demand_later d below = ap (λ (o : Option CluType). let one : Demand = record { node = d.node; parameter = d.parameter; operation = d.operation; wanted = o; in_set = d.in_set } in one) (type_later d.wanted below)

  pub demands_later : (ds : List Demanded) → WantedBelow (length old) ds → map (demand_told later) ds ≡ map (demand_told before) ds
  demands_later [] below = refl
  demands_later (d ∷ ds) below = ap₂ (λ (x : Demand) (xs : List Demand). x ∷ xs) (demand_later d below.0) (demands_later ds below.1)

  routine_later : (r : RoutineHead) → PartBelow (length old) (parts.of_routine r) → routine_told later r ≡ routine_told before r
  routine_later r below = ap₂ (λ (t : Option CluType) (ds : List Demand). let one : Heading = record { name = r.name; type = t; demands = ds } in one) (type_later r.of_type below.1) (demands_later r.demands below.0)

  pub routines_later : (rs : List RoutineHead) → RoutinesBelow (length old) rs → map (routine_told later) rs ≡ map (routine_told before) rs
  routines_later [] below = refl
  routines_later (r ∷ rs) below = ap₂ (λ (x : Heading) (xs : List Heading). x ∷ xs) (routine_later r below.0) (routines_later rs below.1)

  abbrev exported : List RoutineHead → List RoutineHead
  exported rs = filter (λ r. r.exported) rs

  exported_below : (rs : List RoutineHead) → RoutinesBelow (length old) rs → RoutinesBelow (length old) (exported rs)
  exported_below [] below = tt
  exported_below (r ∷ rs) below = by r.exported (exported_below rs below.1)
    where
      by : (b : Bool) → RoutinesBelow (length old) (exported rs) → RoutinesBelow (length old) (cond b (r ∷ exported rs) (exported rs))
      by true rest = (below.0, rest)
      by false rest = rest

  form_later : (f : HeadForm) → FormBelow (length old) f → exported_told later f ≡ exported_told before f
  form_later (form.Routine r) below = ap of_routine (routine_later r below.0)
  form_later (form.Cluster ds rs) below = ap₂ of_cluster (demands_later ds below.0.0) (routines_later (exported rs) (exported_below rs below.1))

  head_later : (h : Head) → FormBelow (length old) h.form → head_told later h ≡ head_told before h
  head_later h below = ap (λ (f : Form). let one : Specification = record { name = h.name; kinds = h.kinds; form = f } in one) (form_later h.form below)

  pub heads_later : (hs : List Head) → ((i : ℕ) (h : Head) → slice_get hs i ≡ Some h → FormBelow (length old) h.form) → map (head_told later) hs ≡ map (head_told before) hs
  heads_later [] below = refl
  heads_later (h ∷ hs) below = ap₂ (λ (s : Specification) (ss : List Specification). s ∷ ss) (head_later h (below 0 h refl)) (heads_later hs (λ i g at. below (suc i) g at))
