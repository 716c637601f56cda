-- A part of a module of the file, kept behind what the module shows.
use Rattle.std.proofs.Common.{◌≡◌, length, HashMap, Box, List, Option, Some, Result, Ok, Err, IfOk, OnOk, sym, subst}
use Rattle.clu_types.specs.CluType.{CluType, Actuals}
use Rattle.clu_types.specs.Arena.{types_of, actuals_at, ActualsBelow, Grows}
use Rattle.clu_types.specs.declared.term.Actual.{Actual}
use Rattle.clu_types.specs.declared.term.Term.{Term}
use Rattle.clu_types.specs.declared.term.TypeId.{TypeId}
use Rattle.clu_types.proofs.Carrying.{given_grown, given_more}
use Rattle.clu_head.specs.declared.head.HeadForm.{HeadForm}
use Rattle.clu_bindings.specs.declared.meaning.ModuleId.{ModuleId}
use Rattle.clu_operations.specs.declared.bundles.Shown.{Shown}
use Rattle.clu_operations.specs.declared.finding.Finding.{Finding}
use Rattle.clu_operations.specs.declared.found.FoundId.{FoundId}
use Rattle.clu_operations.specs.Bundles.{IsPut, ShowsMore}
use Rattle.clu_operations.specs.Found.{Finds}
use Rattle.clu_operations.specs.Modules.{Shows}
use Rattle.clu_operations.specs.Told.{Told, part_told}
use Rattle.clu_operations.proofs.Founds.{finds_after}

-- with the actual parameters as they are when the bundle is made
put_now : (old now : List Term) → Grows old now → (actuals : List Actual) → ActualsBelow (length old) actuals → (types : List CluType) (shows : Shows) (bundle : Option TypeId)
    → IsPut now (actuals_at (types_of old) actuals) types shows bundle → IsPut now (actuals_at (types_of now) actuals) types shows bundle
put_now old now g actuals below types shows bundle put = subst (λ (a : Actuals). IsPut now a types shows bundle) (sym (given_grown old now g actuals below)) put

module _ {E : Type 0} where
  after : (r : Result FoundId E) (old now terms : List Term) → Grows old now → (f g h : Finding) → g.words ≡ f.words → g.founds ≡ f.founds → g.asked ≡ f.asked → g.given ≡ f.given → g.wished ≡ f.wished → (it : Option Told)
      → IfOk r (λ id. Finds (length now) terms g h it (Some id)) → IfOk r (λ id. Finds (length old) terms f h it (Some id))
  after (Ok id) old now terms grows f g h words founds asked given wished it found = finds_after old now terms grows f g h words founds asked given wished it (Some id) found
  after (Err m) old now terms grows f g h words founds asked given wished it found = tt

  pub own_kept : (r : Result FoundId E) (old now terms : List Term) → Grows old now → (f g h : Finding) → g.words ≡ f.words → g.founds ≡ f.founds → g.asked ≡ f.asked → g.given ≡ f.given → g.wished ≡ f.wished
      → (actuals : List Actual) → ActualsBelow (length old) actuals → (shows : Shows) (bundle : Option TypeId) → IsPut now (actuals_at (types_of old) actuals) (types_of old) shows bundle
      → ((source : List CluType) → ActualsBelow (length now) actuals → IsPut now (actuals_at (types_of now) actuals) source shows bundle → IfOk r (λ id. Finds (length now) terms g h (Some (part_told source (actuals_at (types_of now) actuals) shows)) (Some id)))
      → IfOk r (λ id. Finds (length old) terms f h (Some (part_told (types_of old) (actuals_at (types_of old) actuals) shows)) (Some id))
  own_kept r old now terms grows f g h words founds asked given wished actuals below shows bundle put found =
      after r old now terms grows f g h words founds asked given wished (Some (part_told (types_of old) (actuals_at (types_of old) actuals) shows))
      (subst (λ (a : Actuals). IfOk r (λ id. Finds (length now) terms g h (Some (part_told (types_of old) a shows)) (Some id))) (given_grown old now grows actuals below)
      (found (types_of old) (given_more old now grows actuals below) (put_now old now grows actuals below (types_of old) shows bundle put)))

module _ {E Z S : Type 0} where
  shown_as : (r : Result FoundId E) (types : List CluType) (first kept last : HashMap ModuleId (Box Shown Z) S) (id : ModuleId) (form : HeadForm) → ShowsMore types first kept id form → OnOk r (last ≡ kept) → OnOk r (ShowsMore types first last id form)
  shown_as (Ok x) types first kept last id form more same = subst (λ (m : HashMap ModuleId (Box Shown Z) S). ShowsMore types first m id form) (sym same) more
  shown_as (Err m) types first kept last id form more same = tt

  pub own_kept_shown : (r : Result FoundId E) (old now : List Term) → Grows old now → (first kept last : HashMap ModuleId (Box Shown Z) S) → (actuals : List Actual) → ActualsBelow (length old) actuals → (shows : Shows) (bundle : Option TypeId) (id : ModuleId) (form : HeadForm)
      → IsPut now (actuals_at (types_of old) actuals) (types_of old) shows bundle → ShowsMore (types_of old) first kept id form
      → ((source : List CluType) → ActualsBelow (length now) actuals → IsPut now (actuals_at (types_of now) actuals) source shows bundle → OnOk r (last ≡ kept)) → OnOk r (ShowsMore (types_of old) first last id form)
  own_kept_shown r old now grows first kept last actuals below shows bundle id form put more same =
      shown_as r (types_of old) first kept last id form more (same (types_of old) (given_more old now grows actuals below) (put_now old now grows actuals below (types_of old) shows bundle put))
