-- The part of a module for which a name stands, and what is told of it.
use Rattle.std.proofs.Common.{◌≡◌, ◌∙◌, inl, inr, ℕ, ◌<◌, Bool, true, false, ltb, List, length, slice_get, option_map, option_and_then, Option, Some, None, Result, Ok, Err, IfOk, IfSome, OnOk, refl, sym, ap, subst, arith, ltb-true, ltb-false}
use Rattle.std.proofs.lemmas.List.{get_or_past}
use Rattle.std.proofs.lemmas.Option.{same_Some}
use Rattle.clu_base.proofs.Lists.{some_at}
use Rattle.clu_types.specs.CluType.{CluType, null_type, Actuals}
use Rattle.clu_types.specs.Arena.{type_at, types_of, type_of, actuals_at, ActualsBelow, PartsBelow, Grows}
use Rattle.clu_types.specs.declared.term.Term.{Term}
use Rattle.clu_types.specs.declared.term.Term.TheVariants as term
use Rattle.clu_types.specs.declared.term.TypeId.{TypeId}
use Rattle.clu_types.specs.declared.spec.Form.{Form}
use Rattle.clu_types.specs.declared.spec.Form.TheVariants as form
use Rattle.clu_types.specs.declared.spec.OpSpec.{OpSpec}
use Rattle.clu_types.specs.declared.spec.Spec.{Spec}
use Rattle.clu_types.proofs.Arenas.{length-types_of}
use Rattle.clu_types.proofs.Carrying.{length_grows}
use Rattle.clu_types.proofs.Parts.{actuals_more}
use Rattle.clu_head.specs.declared.head.Head.{Head}
use Rattle.clu_head.specs.declared.head.HeadForm.{HeadForm}
use Rattle.clu_head.specs.declared.head.RoutineHead.{RoutineHead}
use Rattle.clu_demands.specs.declared.needs.Instance.{Instance}
use Rattle.clu_demands.specs.Asking.{instance_of}
use Rattle.clu_bindings.specs.declared.file.Headed.{Headed}
use Rattle.clu_bindings.specs.declared.meaning.ModuleId.{ModuleId}
use Rattle.clu_operations.specs.declared.bundles.Shown.{Shown}
use Rattle.clu_operations.specs.declared.finding.Finding.{Finding}
use Rattle.clu_operations.specs.declared.modules.Part.TheVariants as part
use Rattle.clu_operations.specs.ByName.{first_named}
use Rattle.clu_operations.specs.Bundles.{IsShown, FormBelow, HasAll, shown_in}
use Rattle.clu_operations.specs.Found.{ModuleBelow, IsModuleShown, ModuleShowsMore}
use Rattle.clu_operations.specs.Modules.{Module, own, kept, known_of, operation_name, routines_in, operations_in, of_routine, demands_or, kept_routine, kept_demands, IsNamed, IsPlaceIn, HasAscending}
use Rattle.clu_operations.specs.Told.{Told, part_told, routine_told, module_told}
use Rattle.clu_operations.specs.Wished.{cluster_given, told_in, IsReady, AreReady}
use Rattle.clu_operations.proofs.Bundling.{form_more, form_same}

-- ---- the cluster type that a type is

given_of_term : (types : List CluType) (t : Term) → option_map (λ (its : Instance). actuals_at types its.actuals) (instance_of t) ≡ cluster_given (type_of types t)
given_of_term types (term.Cluster name given) = refl
given_of_term types _ = refl

module _ {E : Type 0} where
  pub instance_given : (r : Result (Option Instance) E) (types : List CluType) (of : CluType) (t : Term) → of ≡ type_of types t → IfOk r (λ found. found ≡ instance_of t) → IfOk r (λ found. option_map (λ its. actuals_at types its.actuals) found ≡ cluster_given of)
  instance_given (Ok found) types of t typed is = ap (option_map (λ (its : Instance). actuals_at types its.actuals)) is ∙ given_of_term types t ∙ ap cluster_given (sym typed)
  instance_given (Err m) types of t typed is = tt

  pub instance_within : (r : Result (Option Instance) E) (m n : ℕ) (t : Term) → m < n → PartsBelow m t → IfOk r (λ found. found ≡ instance_of t) → IfOk r (λ found. IfSome found (λ its. ActualsBelow n its.actuals))
  instance_within (Ok found) m n t lt b is = subst (λ (o : Option Instance). IfSome o (λ its. ActualsBelow n its.actuals)) (sym is) (more t b)
    where
      more : (t : Term) → PartsBelow m t → IfSome (instance_of t) (λ (its : Instance). ActualsBelow n its.actuals)
      more (term.Cluster name given) b = actuals_more m n (omega (arith, lt)) given b
      more _ b = tt
  instance_within (Err x) m n t lt b is = tt

pub no_given : (terms : List Term) (of : TypeId) → (of.0 < length terms → ⊥) → None ≡ cluster_given (type_at (types_of terms) of)
no_given terms of past = by (ltb of.0 (length terms)) refl
  where
    by : (b : Bool) → ltb of.0 (length terms) ≡ b → None ≡ cluster_given (type_at (types_of terms) of)
    by true e = absurd (past (omega (arith, ltb-true)))
    by false e = ap cluster_given (sym (get_or_past (types_of terms) of.0 null_type (omega (arith, ltb-false, length-types_of terms))))

-- ---- the part for which a name stands

module _ (types : List CluType) (given : Actuals) where
  own_twice : (o : Option RoutineHead) → option_map (part_told types given) (option_map of_routine o) ≡ option_map (λ (r : RoutineHead). part_told types given (of_routine r)) o
  own_twice (Some r) = refl
  own_twice None = refl

  abbrev op_told : Spec → OpSpec → Told
  op_told spec op = routine_told (types_of spec.types) given (Some op) op.demands

  kept_some : (spec : Spec) (its : Form) → spec.form ≡ its → (place : ℕ) (name : List ℕ) → place < length (operations_in its) → slice_get (operations_in its) place ≡ first_named operation_name name (operations_in its)
      → module_told types given (kept spec) (part.Routine place) ≡ option_map (op_told spec) (first_named operation_name name (operations_in its))
  kept_some spec (form.Routine op) e place name there named = absurd (omega (arith, there))
  kept_some spec (form.Cluster demands ops) e place name there named =
      let s = some_at ops place there in
      subst (λ (x : Form). Some (routine_told (types_of spec.types) given (kept_routine x (part.Routine place)) (kept_demands x (part.Routine place))) ≡ option_map (op_told spec) (first_named operation_name name ops)) (sym e)
      (ap (λ (o : Option OpSpec). Some (routine_told (types_of spec.types) given o (demands_or demands o))) s.1 ∙ ap (option_map (op_told spec)) (sym s.1 ∙ named))

  pub some_told : (its : Module) (inside : Bool) (name : List ℕ) (place : ℕ) → IsNamed its name inside (Some place) → IsPlaceIn its place → HasAscending its → module_told types given its (part.Routine place) ≡ told_in types inside its (Some name) given
  some_told (own head) inside name place named there up = own_twice (slice_get (routines_in head.form) place) ∙ ap (option_map (λ (r : RoutineHead). part_told types given (of_routine r))) (named up)
  some_told (kept spec) inside name place named there up = kept_some spec spec.form refl place name there (named up)

  pub none_told : (its : Module) (inside : Bool) (name : List ℕ) → IsNamed its name inside None → HasAscending its → None ≡ told_in types inside its (Some name) given
  none_told (own head) inside name named up = ap (option_map (λ (r : RoutineHead). part_told types given (of_routine r))) (named up)
  none_told (kept spec) inside name named up = ap (option_map (op_told spec)) (named up)

  pub itself_told : (its : Module) (inside : Bool) → module_told types given its part.Itself ≡ told_in types inside its None given
  itself_told (own head) inside = refl
  itself_told (kept spec) inside = refl

-- ---- over the actual parameters, if there are any

pub same_over : (o : Option Actuals) (f g : Actuals → Option Told) → ((given : Actuals) → f given ≡ g given) → option_and_then f o ≡ option_and_then g o
same_over (Some given) f g same = same given
same_over None f g same = refl

pub none_over : (o : Option Actuals) (f : Actuals → Option Told) → ((given : Actuals) → None ≡ f given) → None ≡ option_and_then f o
none_over (Some given) f none = none given
none_over None f none = refl

-- ---- what is ready stays so

module _ (headed : Headed) (old new : List Term) (grows : Grows old new) (f g : Finding) (id : ModuleId) where
  still_shown : (form : HeadForm) (shown : Shown) → FormBelow (length old) form → IsShown (types_of old) shown form → IsShown (types_of new) shown form
  still_shown form shown b h = subst (λ (t : CluType). HasAll t shown) (sym (form_same old new grows form b)) h

  stays : (its : Module) → known_of headed id ≡ Some its → ModuleShowsMore (types_of old) f g id its → (other : ModuleId) (one : Module) → known_of headed other ≡ Some one → IsReady old f other one → IsModuleShown (types_of new) g other one
  stays its known more other (kept spec) is ready = tt
  stays (kept spec) known more other (own head) is ready = λ shown e. still_shown head.form shown ready.below (ready.shown shown (ap (λ m. shown_in m other) (sym more) ∙ e))
  stays (own this) known more other (own head) is ready = λ shown e.
      elim (more other shown e) [
        | inl before ↦ still_shown head.form shown ready.below (ready.shown shown before)
        | inr now ↦ still_shown head.form shown ready.below (subst (λ (h : Head). IsShown (types_of old) shown h.form) (same now.0) now.1)
      ]
    where
      same : other ≡ id → this ≡ head
      same e = own_back this head (same_Some _ _ (sym known ∙ ap (known_of headed) (sym e) ∙ is))
        where
          own_back : (a b : Head) → own a ≡ own b → a ≡ b
          own_back a b e = cc

  pub ready_after : (its : Module) → known_of headed id ≡ Some its → ModuleShowsMore (types_of old) f g id its → AreReady headed old f → AreReady headed new g
  ready_after its known more ready other one is =
      let before : IsReady old f other one = ready other one is in
      record { below = below one before.below; ascending = before.ascending; shown = stays its known more other one is before }
    where
      below : (one : Module) → ModuleBelow (length old) one → ModuleBelow (length new) one
      below (own head) b = form_more (length old) (length new) (length_grows old new grows) head.form b
      below (kept spec) b = b

pub ready_if : {X E : Type 0} (r : Result X E) (headed : Headed) (old new : List Term) → Grows old new → (f g : Finding) (id : ModuleId) (its : Module) → known_of headed id ≡ Some its → OnOk r (ModuleShowsMore (types_of old) f g id its) → AreReady headed old f
    → OnOk r (AreReady headed new g)
ready_if (Ok x) headed old new grows f g id its known more ready = ready_after headed old new grows f g id its known more ready
ready_if (Err m) headed old new grows f g id its known more ready = tt

pub no_more_shown : (types : List CluType) (f : Finding) (id : ModuleId) (its : Module) → ModuleShowsMore types f f id its
no_more_shown types f id (own head) = λ m shown e. inl e
no_more_shown types f id (kept spec) = refl
