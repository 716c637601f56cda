-- What a specification tells is what its head tells, as a library keeps it.
use Rattle.std.proofs.Common.{◌≡◌, ◌∙◌, ◌⊎◌, inl, inr, ℕ, Bool, true, false, List, [], ◌∷◌, map, cond, Option, Some, None, refl, sym, ap, ap₂, subst}
use Rattle.std.specs.List.{AllZip, AllByRecursion, filter}
use Rattle.std.specs.Option.{option_map}
use Rattle.clu_types.specs.CluType.{CluType, proc_of, iter_of}
use Rattle.clu_types.specs.Arena.{type_at, type_of, types_of, types_at, signals_at}
use Rattle.clu_types.specs.declared.term.TypeId.{TypeId}
use Rattle.clu_types.specs.declared.term.Heading.{Heading as TypeHeading}
use Rattle.clu_types.specs.declared.term.Term.{Term}
use Rattle.clu_types.specs.declared.term.Term.TheVariants as term
use Rattle.clu_types.specs.declared.spec.ParamKind.{ParamKind}
use Rattle.clu_types.specs.declared.spec.Demand.{Demand as KeptDemand}
use Rattle.clu_types.specs.declared.spec.OpSpec.{OpSpec}
use Rattle.clu_types.specs.declared.spec.Form.{Form as KeptForm}
use Rattle.clu_types.specs.declared.spec.Form.TheVariants as kept
use Rattle.clu_types.specs.declared.spec.Spec.{Spec}
use Rattle.clu_checking.specs.Specifications as checking
use Rattle.clu_checking.specs.Specifications.{Demand, Heading, Form, of_routine, of_cluster, Specification, type_told, demand_kept, heading_kept, form_kept, specification_kept, specification_told}
use Rattle.clu_head.specs.declared.head.Demanded.{Demanded}
use Rattle.clu_head.specs.declared.head.RoutineHead.{RoutineHead}
use Rattle.clu_head.specs.declared.head.HeadForm.{HeadForm}
use Rattle.clu_head.specs.declared.head.HeadForm.TheVariants as form
use Rattle.clu_head.specs.declared.head.Head.{Head}
use Rattle.clu_head.specs.Kept.{IsMoved, AreMovedParts, IsDemandOf, AreDemandsOf, IsRoutineOf, AreRoutinesOf, IsFormOf}
use Rattle.clu_passes.specs.Told.{demand_told, routine_told, exported_told, head_told}
use Rattle.clu_passes.specs.RoutineTypes.{IsOfRoutines, IsTypeOf, HasType, HaveTypes}

module _ (from to : List Term) where
  abbrev source : List CluType
  source = types_of from

  abbrev types : List CluType
  types = types_of to

  wanted_kept : (of : Option TypeId) (m : TypeId) → IsMoved from to of m → Some (type_at types m) ≡ option_map (type_at source) of
  unfolding IsMoved
  wanted_kept (Some id) m is = ap Some is.1
  wanted_kept None m is = absurd is

  one_demand : (d : Demanded) (m : KeptDemand) → IsDemandOf from to d m → checking.demand_told types m ≡ demand_kept (demand_told source d)
  one_demand d m is =
      ap (λ (k : ℕ). record { node = 0; parameter = k; operation = m.op; wanted = Some (type_at types m.wanted); in_set = false }) is.param
      ∙ ap (λ (name : List ℕ). record { node = 0; parameter = d.parameter; operation = name; wanted = Some (type_at types m.wanted); in_set = false }) is.op
      ∙ ap (λ (w : Option CluType). record { node = 0; parameter = d.parameter; operation = d.operation; wanted = w; in_set = false }) (wanted_kept d.wanted m.wanted is.wanted)

  all_demands : (ds : List Demanded) (ms : List KeptDemand) → AllZip (IsDemandOf from to) ds ms → map (checking.demand_told types) ms ≡ map demand_kept (map (demand_told source) ds)
  all_demands [] [] are = refl
  all_demands [] (m ∷ ms) are = absurd are
  all_demands (d ∷ ds) [] are = absurd are
  all_demands (d ∷ ds) (m ∷ ms) are = ap₂ (λ (x : Demand) (xs : List Demand). x ∷ xs) (one_demand d m are.0) (all_demands ds ms are.1)

  demands_kept : (ds : List Demanded) (ms : List KeptDemand) → AreDemandsOf from to ds ms → map (checking.demand_told types) ms ≡ map demand_kept (map (demand_told source) ds)
  unfolding AreDemandsOf
  demands_kept ds ms are = all_demands ds ms are

  abbrev parts_told : Bool → TypeHeading → CluType
  parts_told iter h = type_told iter (types_at types h.args) (types_at types h.results) (signals_at types h.signals)

  by_kind : (iter : Bool) (t : CluType) (h : TypeHeading) → IsOfRoutines iter t → (t ≡ type_of types (term.Proc h)) ⊎ (t ≡ type_of types (term.Iter h)) → parts_told iter h ≡ t
  by_kind true t h is (inl e) = absurd (subst (IsOfRoutines true) e is)
  by_kind true t h is (inr e) = sym e
  by_kind false t h is (inl e) = sym e
  by_kind false t h is (inr e) = absurd (subst (IsOfRoutines false) e is)

  parts_kept : (iter : Bool) (of : Option TypeId) (h : TypeHeading) → IsTypeOf source iter of → AreMovedParts from to of h → Some (parts_told iter h) ≡ option_map (type_at source) of
  unfolding AreMovedParts
  parts_kept iter (Some id) h is are = ap Some (by_kind iter (type_at source id) h is are.1)
  parts_kept iter None h is are = absurd are

  one_routine : (r : RoutineHead) (op : OpSpec) → HasType source r → IsRoutineOf from to r op → checking.heading_told types op ≡ heading_kept (routine_told source r)
  one_routine r op has is =
      ap (λ (name : List ℕ). record { name = name; type = Some (parts_told op.iter op.heading); demands = map (checking.demand_told types) op.demands }) is.name
      ∙ ap (λ (iter : Bool). record { name = r.name; type = Some (parts_told iter op.heading); demands = map (checking.demand_told types) op.demands }) is.iter
      ∙ ap (λ (t : Option CluType). record { name = r.name; type = t; demands = map (checking.demand_told types) op.demands }) (parts_kept r.iter r.of_type op.heading has is.heading)
      ∙ ap (λ (ds : List Demand). record { name = r.name; type = option_map (type_at source) r.of_type; demands = ds }) (demands_kept r.demands op.demands is.demands)

  abbrev told : List RoutineHead → List Heading
  told rs = map heading_kept (map (routine_told source) rs)

  all_routines : (rs : List RoutineHead) (ops : List OpSpec) → AllByRecursion (HasType source) rs → AllZip (IsRoutineOf from to) rs ops → map (checking.heading_told types) ops ≡ told rs
  all_routines [] [] have are = refl
  all_routines [] (op ∷ ops) have are = absurd are
  all_routines (r ∷ rs) [] have are = absurd are
  all_routines (r ∷ rs) (op ∷ ops) have are = ap₂ (λ (x : Heading) (xs : List Heading). x ∷ xs) (one_routine r op have.0 are.0) (all_routines rs ops have.1 are.1)

  abbrev exported : List RoutineHead → List RoutineHead
  exported rs = filter (λ (r : RoutineHead). r.exported) rs

  exported_have : (rs : List RoutineHead) → AllByRecursion (HasType source) rs → AllByRecursion (HasType source) (exported rs)
  exported_have [] have = tt
  exported_have (r ∷ rs) have = by r.exported (exported_have rs have.1)
    where
      by : (b : Bool) → AllByRecursion (HasType source) (exported rs) → AllByRecursion (HasType source) (cond b (r ∷ exported rs) (exported rs))
      by true rest = (have.0, rest)
      by false rest = rest

  routines_kept : (rs : List RoutineHead) (ops : List OpSpec) → AllByRecursion (HasType source) rs → AreRoutinesOf from to rs ops → map (checking.heading_told types) ops ≡ told (exported rs)
  unfolding AreRoutinesOf
  routines_kept rs ops have are = all_routines (exported rs) ops (exported_have rs have) are

  pub form_is : (f : HeadForm) (m : KeptForm) → HaveTypes source f → IsFormOf from to f m → checking.form_told types m ≡ form_kept (exported_told source f)
  unfolding IsFormOf
  form_is (form.Routine r) (kept.Routine op) have is = ap of_routine (one_routine r op have is)
  form_is (form.Routine r) (kept.Cluster demands ops) have is = absurd is
  form_is (form.Cluster ds rs) (kept.Routine op) have is = absurd is
  form_is (form.Cluster ds rs) (kept.Cluster demands ops) have is = ap₂ (λ (ds : List Demand) (hs : List Heading). of_cluster ds hs) (demands_kept ds demands is.0) (routines_kept rs ops have is.1)

kinds_mapped : (ks : List ParamKind) → map (λ (k : ParamKind). Some k) ks ≡ map Some ks
kinds_mapped ks = refl

pub specification_is : (from : List Term) (h : Head) (s : Spec) → s.name ≡ h.name → map Some s.kinds ≡ h.kinds → HaveTypes (types_of from) h.form → IsFormOf from s.types h.form s.form → specification_told s ≡ specification_kept (head_told (types_of from) h)
specification_is from h s named kinds have is =
    ap (λ (name : List ℕ). record { name = name; kinds = map (λ (k : ParamKind). Some k) s.kinds; form = checking.form_told (types_of s.types) s.form }) named
    ∙ ap (λ (ks : List (Option ParamKind)). record { name = h.name; kinds = ks; form = checking.form_told (types_of s.types) s.form }) (kinds_mapped s.kinds ∙ kinds)
    ∙ ap (λ (f : Form). record { name = h.name; kinds = h.kinds; form = f }) (form_is from s.types h.form s.form have is)
