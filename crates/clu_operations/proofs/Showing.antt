-- What is kept of the modules of a file, and the bundles of their parts.
use Rattle.std.proofs.Common.{◌≡◌, ◌∙◌, ◌⊎◌, inl, inr, ℕ, zero, suc, ◌<◌, Bool, true, false, true≢false, cond, is_some, List, [], ◌∷◌, length, slice_get, option_map, box_value, Box, HashMap, Option, Some, None, Result, Ok, Err, IfOk, IsSome, refl, sym, ap, subst}
use Rattle.std.specs.HashMap.{get, Updates}
use Rattle.std.specs.Bool.{Decides}
use Rattle.std.proofs.lemmas.Bool.Decides.{Decides-like, Decides-eqb}
use Rattle.std.proofs.lemmas.Option.{same_Some}
use Rattle.clu_base.proofs.Lists.{none_is_not}
use Rattle.clu_types.specs.CluType.{CluType, Actuals}
use Rattle.clu_types.specs.Arena.{type_at, types_of, actuals_at}
use Rattle.clu_types.specs.Substituted.{substituted}
use Rattle.clu_types.specs.declared.term.Actual.{Actual}
use Rattle.clu_types.specs.declared.term.Term.{Term}
use Rattle.clu_types.specs.declared.term.TypeId.{TypeId}
use Rattle.clu_types.proofs.Identity.{substituted-none}
use Rattle.clu_head.specs.declared.head.HeadForm.{HeadForm}
use Rattle.clu_head.specs.declared.head.RoutineHead.{RoutineHead}
use Rattle.clu_bindings.specs.declared.meaning.ModuleId.{ModuleId}
use Rattle.clu_operations.specs.declared.bundles.Shown.{Shown}
use Rattle.clu_operations.specs.declared.modules.Part.{Part}
use Rattle.clu_operations.specs.declared.modules.Part.TheVariants as part
use Rattle.clu_operations.specs.Bundles.{part_type, IsShown, PartBelow, RoutinesBelow, FormBelow, same_module, shown_in, IsShownIn, ShowsMore, IsPut, are_none}
use Rattle.clu_operations.specs.Finding.{IsBelowIf}
use Rattle.clu_operations.specs.Modules.{Shows, of_routine, routines_in, own_part}

pub same_id : (a b : ModuleId) → Decides (same_module a b) (a ≡ b)
same_id a b = Decides-like _ (ap (λ (n : ℕ). let id : ModuleId = record { 0 = n } in id)) (ap (λ (id : ModuleId). id.0)) (Decides-eqb a.0 b.0)

some_value : {Z : Type 0} (o : Option (Box Shown Z)) → is_some o ≡ true → is_some (option_map box_value o) ≡ true
some_value (Some b) e = refl
some_value None e = e

module _ {Z S : Type 0} where
  -- one more is kept
  pub one_there : (old new : HashMap ModuleId (Box Shown Z) S) (id : ModuleId) (b : Box Shown Z) → Updates same_module old new id (Some b) → IsSome (shown_in new id)
  one_there old new id b u = ap (λ (o : Option (Box Shown Z)). is_some (option_map box_value o)) u.1

  pub one_shown : (types : List CluType) (old new : HashMap ModuleId (Box Shown Z) S) (id : ModuleId) (b : Box Shown Z) (form : HeadForm) → Updates same_module old new id (Some b) → IsShown types b.value form → ShowsMore types old new id form
  one_shown types old new id b form u is m shown e = by (same_module id m) refl
    where
      at : (k : Bool) → same_module id m ≡ k → option_map box_value (cond k (Some b) (get same_module old m)) ≡ Some shown
      at k q = ap (λ (k : Bool). option_map box_value (cond k (Some b) (get same_module old m))) (sym q) ∙ sym (ap (option_map box_value) (u.0 m)) ∙ e

      by : (k : Bool) → same_module id m ≡ k → (shown_in old m ≡ Some shown) ⊎ ((m ≡ id) × IsShown types shown form)
      by true q = inr (sym ((same_id id m).0 q), subst (λ (s : Shown). IsShown types s form) (same_Some _ _ (at true q)) is)
      by false q = inl (at false q)

  pub none_shown : (types : List CluType) (kept : HashMap ModuleId (Box Shown Z) S) (id : ModuleId) (form : HeadForm) → ShowsMore types kept kept id form
  none_shown types kept id form m shown e = inl e

  pub kept_there : (kept : HashMap ModuleId (Box Shown Z) S) (id : ModuleId) → is_some (get same_module kept id) ≡ true → IsSome (shown_in kept id)
  kept_there kept id e = some_value (get same_module kept id) e

  -- so what is kept is still what the module shows
  pub more_shown : (types : List CluType) (old new : HashMap ModuleId (Box Shown Z) S) (id : ModuleId) (form : HeadForm) → IsShownIn types old id form → ShowsMore types old new id form → IsShownIn types new id form
  more_shown types old new id form right more shown e = elim (more id shown e) [ inl before ↦ right shown before | inr now ↦ now.1 ]

  pub value_shown : (types : List CluType) (kept : HashMap ModuleId (Box Shown Z) S) (id : ModuleId) (form : HeadForm) (b : Box Shown Z) → IsShownIn types kept id form → Some b ≡ get same_module kept id → IsShown types b.value form
  value_shown types kept id form b right e = right b.value (ap (option_map box_value) (sym e))

  pub none_kept : {A : Type 0} (kept : HashMap ModuleId (Box Shown Z) S) (id : ModuleId) → None ≡ get same_module kept id → IsSome (shown_in kept id) → A
  none_kept kept id e some = absurd (true≢false (sym some ∙ sym (ap (λ (o : Option (Box Shown Z)). is_some (option_map box_value o)) e)))

-- ---- the numbers of a part

routine_at : (n : ℕ) (routines : List RoutineHead) (place : ℕ) (shows : Shows) → RoutinesBelow n routines → option_map of_routine (slice_get routines place) ≡ Some shows → PartBelow n shows
routine_at n [] place shows b e = none_is_not shows e
routine_at n (r ∷ routines) zero shows b e = subst (PartBelow n) (same_Some (of_routine r) shows e) b.0
routine_at n (r ∷ routines) (suc place) shows b e = routine_at n routines place shows b.1 e

pub own_below : (n : ℕ) (form : HeadForm) (which : Part) (shows : Shows) → FormBelow n form → own_part form which ≡ Some shows → PartBelow n shows
own_below n form part.Itself shows b e = subst (PartBelow n) (same_Some _ shows e) b.0
own_below n form (part.Routine place) shows b e = routine_at n (routines_in form) place shows b.1 e

-- ---- with actual parameters put in

pub none_given : (actuals : List Actual) → are_none actuals ≡ true → actuals ≡ []
none_given [] e = refl
none_given (a ∷ actuals) e = absurd (true≢false (sym e))

pub whole_put : (old now : List Term) (id : TypeId) (actuals : List Actual) (shows : Shows) → actuals ≡ [] → type_at (types_of now) id ≡ part_type (types_of old) shows → id.0 < length now → IsPut now (actuals_at (types_of old) actuals) (types_of old) shows (Some id)
whole_put old now id actuals shows none typed within = record {
  within = within;
  type =
      ap Some (typed ∙ sym (substituted-none (part_type (types_of old) shows)))
      ∙ ap (λ (xs : List Actual). Some (substituted (actuals_at (types_of old) xs) (part_type (types_of old) shows))) (sym none);
}

pub put_as : {E : Type 0} (r : Result (Option TypeId) E) (now : List Term) (given : Actuals) (types : List CluType) (shows : Shows) (o : Option Shows) → o ≡ Some shows
    → IfOk r (λ put. option_map (type_at (types_of now)) put ≡ option_map (substituted given) (option_map (part_type types) o)) → IfOk r (IsBelowIf (length now)) → IfOk r (IsPut now given types shows)
put_as (Ok put) now given types shows o is typed within = record { within = within; type = typed ∙ ap (λ (x : Option Shows). option_map (substituted given) (option_map (part_type types) x)) is }
put_as (Err m) now given types shows o is typed within = tt
