-- A head is whole if nothing is missing of what it tells, and stays so while the arena grows.
use Rattle.std.proofs.Common.{◌≡◌, ◌∙◌, ℕ, ◌<◌, ◌≤◌, Bool, true, false, cond, List, [], ◌∷◌, length, map, filter, is_some, Option, Some, None, IsSome, IsTrue, refl, sym, ap, subst, arith}
use Rattle.std.specs.List.{AllByRecursion}
use Rattle.std.specs.Option.{option_map}
use Rattle.std.proofs.lemmas.Bool.{true≢false}
use Rattle.std.proofs.lemmas.List.Elements.{All-from_recursion, All-weaker}
use Rattle.clu_types.specs.Arena.{Grows, type_at, types_of}
use Rattle.clu_types.specs.CluType.{CluType, iter_of, proc_of}
use Rattle.clu_types.specs.declared.spec.ParamKind.{ParamKind}
use Rattle.clu_types.specs.declared.term.Term.{Term}
use Rattle.clu_types.specs.declared.term.TypeId.{TypeId}
use Rattle.clu_types.proofs.Arenas.{types_grown}
use Rattle.clu_types.proofs.Carrying.{length_grows}
use Rattle.clu_head.specs.declared.head.Demanded.{Demanded}
use Rattle.clu_head.specs.declared.head.Head.{Head}
use Rattle.clu_head.specs.declared.head.HeadForm.{HeadForm}
use Rattle.clu_head.specs.declared.head.HeadForm.TheVariants as form
use Rattle.clu_head.specs.declared.head.RoutineHead.{RoutineHead}
use Rattle.clu_head.specs.Whole as heads
use Rattle.clu_head.specs.Whole.{AreWholeDemands, AreWholeKinds, AreWholeRoutines, HasRoutineType, HasType, IsRoutineType, IsWhole, IsWholeIfExported, IsWholeRoutine}
use Rattle.clu_operations.specs.Bundles.{FormBelow, PartBelow, RoutinesBelow, WantedBelow}
use Rattle.clu_operations.specs.Finding.{IsBelowIf}
use Rattle.clu_operations.specs.Modules.{of_routine}
use Rattle.clu_passes.specs.RoutineTypes as fitting
use Rattle.clu_passes.specs.RoutineTypes.{HaveTypes, IsOfRoutines, IsTypeOf}
use Rattle.clu_passes.specs.Told.{demand_told, exported_told, head_told, routine_told}
use Rattle.clu_passes.specs.WholeTold as told
use Rattle.clu_passes.specs.WholeTold.{IsTypedDemand, IsWholeHeading, IsWholeTold}

-- ---- what is told is there

of_routines : (iter : Bool) (t : CluType) → IsOfRoutines iter t → IsRoutineType t
of_routines true (iter_of args results raised) is = tt
of_routines true _ is = absurd is
of_routines false (proc_of args results raised) is = tt
of_routines false _ is = absurd is

module _ (terms : List Term) where
  abbrev types : List CluType
  types = types_of terms

  typed : (o : Option TypeId) → IsBelowIf (length terms) o → is_some (option_map (type_at (types_of terms)) o) ≡ true → HasType terms o
  unfolding HasType
  typed (Some id) below some = below
  typed None below some = absurd (true≢false (sym some))

  demands_typed : (ds : List Demanded) → WantedBelow (length terms) ds → AllByRecursion IsTypedDemand (map (demand_told types) ds) → AllByRecursion (λ (d : Demanded). HasType terms d.wanted) ds
  demands_typed [] below all = tt
  demands_typed (d ∷ ds) below all = (typed d.wanted below.0 all.0, demands_typed ds below.1 all.1)

  demands_whole : (ds : List Demanded) → WantedBelow (length terms) ds → AllByRecursion IsTypedDemand (map (demand_told types) ds) → AreWholeDemands terms ds
  unfolding AreWholeDemands
  demands_whole ds below all = All-from_recursion (λ (d : Demanded). HasType terms d.wanted) ds (demands_typed ds below all)

  routine_typed : (iter : Bool) (o : Option TypeId) → IsTypeOf types iter o → IsBelowIf (length terms) o → is_some (option_map (type_at (types_of terms)) o) ≡ true → HasRoutineType terms o
  unfolding HasRoutineType
  routine_typed iter (Some id) is below some = (below, of_routines iter (type_at types id) is)
  routine_typed iter None is below some = absurd (true≢false (sym some))

  routine_whole : (r : RoutineHead) → fitting.HasType types r → PartBelow (length terms) (of_routine r) → IsWholeHeading (routine_told types r) → IsWholeRoutine terms r
  routine_whole r fits below whole = record { of_type = routine_typed r.iter r.of_type fits below.1 whole.type; demands = demands_whole r.demands below.0 whole.demands }

  abbrev exported : List RoutineHead → List RoutineHead
  exported rs = filter (λ r. r.exported) rs

  routines_whole : (rs : List RoutineHead) → AllByRecursion (fitting.HasType types) rs → RoutinesBelow (length terms) rs → AllByRecursion IsWholeHeading (map (routine_told types) (exported rs)) → AllByRecursion (IsWholeIfExported terms) rs
  unfolding IsWholeIfExported
  routines_whole [] fits below whole = tt
  routines_whole (r ∷ rs) fits below whole = by r.exported refl whole (routines_whole rs fits.1 below.1)
    where
      by : (b : Bool) → r.exported ≡ b → AllByRecursion IsWholeHeading (map (routine_told types) (cond b (r ∷ exported rs) (exported rs)))
          → (AllByRecursion IsWholeHeading (map (routine_told types) (exported rs)) → AllByRecursion (IsWholeIfExported terms) rs) → AllByRecursion (IsWholeIfExported terms) (r ∷ rs)
      by true is whole rest = ((λ here. routine_whole r fits.0 below.0 whole.0), rest whole.1)
      by false is whole rest = ((λ here. absurd (true≢false (sym here ∙ is))), rest whole)

  form_whole : (f : HeadForm) → HaveTypes types f → FormBelow (length terms) f → told.IsWholeForm (exported_told types f) → heads.IsWholeForm terms f
  unfolding heads.IsWholeForm AreWholeRoutines
  form_whole (form.Routine r) fits below whole = routine_whole r fits below.0 whole
  form_whole (form.Cluster ds rs) fits below whole = (demands_whole ds below.0.0 whole.0, All-from_recursion (IsWholeIfExported terms) rs (routines_whole rs fits below.1 whole.1))

  kinds_whole : (ks : List (Option ParamKind)) → AllByRecursion (λ k. is_some k ≡ true) ks → AreWholeKinds ks
  unfolding AreWholeKinds
  kinds_whole ks all = All-from_recursion IsSome ks all

  pub head_whole : (h : Head) → HaveTypes types h.form → FormBelow (length terms) h.form → IsWholeTold (head_told types h) → IsWhole terms h
  head_whole h fits below whole = record { kinds = kinds_whole h.kinds whole.kinds; form = form_whole h.form fits below whole.form }

-- ---- while the arena grows

module _ (old new : List Term) (grows : Grows old new) where
  type_later : (o : Option TypeId) → HasType old o → HasType new o
  unfolding HasType
  type_later (Some id) has = let more : length old ≤ length new = length_grows old new grows in omega (arith, has, more)
  type_later None has = has

  demands_later : (ds : List Demanded) → AreWholeDemands old ds → AreWholeDemands new ds
  unfolding AreWholeDemands
  demands_later ds = All-weaker (λ (d : Demanded). HasType old d.wanted) (λ (d : Demanded). HasType new d.wanted) (λ d. type_later d.wanted) ds

  routine_type_later : (o : Option TypeId) → HasRoutineType old o → HasRoutineType new o
  unfolding HasRoutineType
  routine_type_later (Some id) has =
      let more : length old ≤ length new = length_grows old new grows in
      let less : id.0 < length old = has.0 in
      (omega (arith, less, more), subst IsRoutineType (sym (types_grown old new grows id has.0)) has.1)
  routine_type_later None has = has

  routine_later : (r : RoutineHead) → IsWholeRoutine old r → IsWholeRoutine new r
  routine_later r is = record { of_type = routine_type_later r.of_type is.of_type; demands = demands_later r.demands is.demands }

  if_exported_later : (r : RoutineHead) → IsWholeIfExported old r → IsWholeIfExported new r
  unfolding IsWholeIfExported
  if_exported_later r is = λ here. routine_later r (is here)

  form_later : (f : HeadForm) → heads.IsWholeForm old f → heads.IsWholeForm new f
  unfolding heads.IsWholeForm AreWholeRoutines
  form_later (form.Routine r) is = routine_later r is
  form_later (form.Cluster ds rs) is = (demands_later ds is.0, All-weaker (IsWholeIfExported old) (IsWholeIfExported new) if_exported_later rs is.1)

  pub head_later : (h : Head) → IsWhole old h → IsWhole new h
  head_later h is = record { kinds = is.kinds; form = form_later h.form is.form }
