-- A specification is lost only if a head is not whole, or not that of its module.
use Rattle.std.proofs.Common.{◌≡◌, ◌∙◌, ◌<◌, ℕ, Bool, false, List, length, map, take, get_or, Option, Some, None, IfSome, ap, arith, subst, sym}
use Rattle.std.proofs.lemmas.List.{length-map, length-take-le}
use Rattle.std.proofs.lemmas.List.Elements.{All-weaker}
use Rattle.std.proofs.lemmas.Bool.{true≢false}
use Rattle.std.proofs.lemmas.Option.{none-some, same_Some, slice_get-get_or}
use Rattle.std.proofs.lemmas.Slice.Eq.{bytes_eq-Decides}
use Rattle.std.specs.Prelude.{bytes_eq, slice_get}
use Rattle.clu_tree.specs.declared.node.Node.{Node}
use Rattle.clu_tree.specs.Nodes.{modules}
use Rattle.clu_types.specs.Arena.{Grows}
use Rattle.clu_types.specs.declared.spec.Spec.{Spec}
use Rattle.clu_types.specs.declared.term.TypeId.{TypeId}
use Rattle.clu_types.specs.declared.term.Term.{Term}
use Rattle.clu_types.proofs.Arenas.{types_grown}
use Rattle.clu_types.proofs.Carrying.{length_grows}
use Rattle.clu_head.specs.declared.head.Demanded.{Demanded}
use Rattle.clu_head.specs.declared.head.RoutineHead.{RoutineHead}
use Rattle.clu_head.specs.declared.head.HeadForm.{HeadForm}
use Rattle.clu_head.specs.declared.head.HeadForm.TheVariants as form
use Rattle.clu_head.specs.declared.head.Head.{Head}
use Rattle.clu_head.specs.Whole.{AreWholeDemands, AreWholeRoutines, HasRoutineType, HasType, IsRoutineType, IsWhole, IsWholeForm, IsWholeIfExported, IsWholeRoutine}
use Rattle.clu_check_mod.specs.Answered.{IfLost}
use Rattle.clu_check_mod.specs.Modules.{AreOf, AreSpecified, IsSpecified, name_of}
use Rattle.clu_check_mod.specs.declared.errors.CheckError.{CheckError}
use Rattle.clu_check_mod.specs.declared.errors.CheckError.TheVariants as error

-- ---- what is whole stays so while the arena grows

module _ (old new : List Term) (grows : Grows old new) where
  type_later : (of : Option TypeId) → HasType old of → HasType new of
  unfolding HasType
  type_later (Some id) has = let longer = length_grows old new grows in omega (arith, has, longer)
  type_later None has = absurd has

  routine_type_later : (of : Option TypeId) → HasRoutineType old of → HasRoutineType new of
  unfolding HasRoutineType
  routine_type_later (Some id) has = ((let longer = length_grows old new grows in let inside = has.0 in omega (arith, inside, longer)), subst IsRoutineType (sym (types_grown old new grows id has.0)) has.1)
  routine_type_later None has = absurd has

  demands_later : (ds : List Demanded) → AreWholeDemands old ds → AreWholeDemands new ds
  unfolding AreWholeDemands
  demands_later ds are = All-weaker (λ (d : Demanded). HasType old d.wanted) (λ (d : Demanded). HasType new d.wanted) (λ d. type_later d.wanted) ds are

  routine_later : (r : RoutineHead) → IsWholeRoutine old r → IsWholeRoutine new r
  routine_later r whole = record { of_type = routine_type_later r.of_type whole.of_type; demands = demands_later r.demands whole.demands }

  exported_later : (r : RoutineHead) → IsWholeIfExported old r → IsWholeIfExported new r
  unfolding IsWholeIfExported
  exported_later r whole = λ exported. routine_later r (whole exported)

  routines_later : (rs : List RoutineHead) → AreWholeRoutines old rs → AreWholeRoutines new rs
  unfolding AreWholeRoutines
  routines_later rs are = All-weaker (IsWholeIfExported old) (IsWholeIfExported new) exported_later rs are

  form_later : (f : HeadForm) → IsWholeForm old f → IsWholeForm new f
  unfolding IsWholeForm
  form_later (form.Routine r) whole = routine_later r whole
  form_later (form.Cluster ds rs) whole = (demands_later ds whole.0, routines_later rs whole.1)

  pub whole_later : (h : Head) → IsWhole old h → IsWhole new h
  whole_later h whole = record { kinds = whole.kinds; form = form_later h.form whole.form }

  pub specified_later : (nodes : List Node) (heads : List Head) → AreSpecified nodes old heads → AreSpecified nodes new heads
  specified_later nodes heads are i n at =
      let its = are i n at in
      (its.0, its.1, record { named = its.2.named; whole = whole_later its.0 its.2.whole })

-- ---- of one module after the other

-- a name is not another one
pub other_name : (a b : List ℕ) (eq : Bool) → eq ≡ bytes_eq a b → eq ≡ false → a ≡ b → ⊥
other_name a b eq is fails same = true≢false (sym ((bytes_eq-Decides a b).1 same) ∙ sym is ∙ fails)

module _ (nodes : List Node) (types : List Term) where
  -- of a module of this name there is no specification, so it has no head that is whole
  none_of : (n : ℕ) (name : List ℕ) (o : Option Head) → name_of nodes n ≡ Some name → IfSome o (λ h. h.name ≡ name → IsWhole types h → ⊥) → IfSome o (λ h. IsSpecified nodes types n h → ⊥)
  none_of n name None named lost = tt
  none_of n name (Some h) named lost = λ its. lost (same_Some h.name name (sym its.named ∙ named)) its.whole

  pub none_named : (e : CheckError) (n : ℕ) (name : List ℕ) (o : Option Head) → Some name ≡ name_of nodes n →
      IfLost e (IfSome o (λ h. h.name ≡ name → IsWhole types h → ⊥)) → IfLost e (IfSome o (λ h. IsSpecified nodes types n h → ⊥))
  none_named (error.Refused r) n name o named lost = tt
  none_named error.Memory n name o named lost = tt
  none_named error.NotYet n name o named lost = none_of n name o (sym named) lost

  -- a module without a name has none
  pub none_unnamed : (n : ℕ) (o : Option Head) → None ≡ name_of nodes n → IfSome o (λ h. IsSpecified nodes types n h → ⊥)
  none_unnamed n None named = tt
  none_unnamed n (Some h) named = λ its. none-some h.name (named ∙ its.named)

  there : (h : Head) (P : Head → Type 0) (o : Option Head) → o ≡ Some h → IfSome o P → P h
  there h P o is has = subst (λ (x : Option Head). IfSome x P) is has

  -- none of the module that comes next
  pub none_next : (e : CheckError) (heads : List Head) (numbers : List ℕ) (own : List Spec) (i d place : ℕ) (o : Option Head) → numbers ≡ modules nodes → i < length numbers → AreOf nodes (take i numbers) own → place ≡ length own → o ≡ slice_get heads place →
      IfLost e (IfSome o (λ h. IsSpecified nodes types (get_or numbers i d) h → ⊥)) → IfLost e (AreSpecified nodes types heads → ⊥)
  none_next (error.Refused r) heads numbers own i d place o all less had count at lost = tt
  none_next error.Memory heads numbers own i d place o all less had count at lost = tt
  none_next error.NotYet heads numbers own i d place o all less had count at lost = λ are.
      let long : length (take i numbers) ≡ length own = sym (length-map (take i numbers) (name_of nodes)) ∙ ap (λ (xs : List (Option (List ℕ))). length xs) had ∙ length-map own (λ (x : Spec). Some x.name) in
      let cut : length (take i numbers) ≡ i = length-take-le i numbers (omega (arith, less)) in
      let here : place ≡ i = count ∙ sym long ∙ cut in
      let its = are i (get_or numbers i d) (ap (λ (ns : List ℕ). slice_get ns i) (sym all) ∙ slice_get-get_or numbers i d less) in
      there its.0 (λ h. IsSpecified nodes types (get_or numbers i d) h → ⊥) o (at ∙ ap (slice_get heads) here ∙ its.1) lost its.2
