-- Primitive operations of structs, records, oneofs and variants are fitting, whatever the selectors or tags.
use Rattle.std.proofs.Common.{◌≡◌, refl, sym, ap, subst, ◌∙◌}
use Rattle.std.specs.Prelude.{ℕ, Bool, true, false, List, [], ◌∷◌, ◌++◌, Option, Some, None, cond, bytes_eq, codes}
use Rattle.clu_types.specs.CluType.{CluType, record_of, struct_of, oneof_of, variant_of, CluTypes, Fields, no_fields, field_and}
use Rattle.clu_builtin.specs.Operation.{Operation, one, two}
use Rattle.clu_builtin.specs.Table.{SelectorTable, operation, or_else, named as headed, with_selector, of_selectors, struct_selectors, record_selectors, oneof_selectors, variant_selectors}
use Rattle.clu_layout.specs.Objects.{Routine, Object, Cell, variant_cell, record_cell, own_type, own_types}
use Rattle.clu_layout.specs.Actions.{Primitive, gives_nothing}
use Rattle.clu_layout.specs.RecordOperations.{struct_get, struct_replace, struct_selected, record_get, record_set, record_copy1, record_equal, record_selected, record_primitives}
use Rattle.clu_layout.specs.OneofOperations.{oneof_make, oneof_is, oneof_value, oneof_selected, variant_make, variant_is, variant_value, variant_change, variant_copy1, variant_equal, variant_selected, variant_primitives}
use Rattle.clu_layout.specs.Primitive.{may_be_arguments}
use Rattle.clu_meaning.specs.Programs.{Program}
use Rattle.clu_meaning.specs.Typed.{type_of_selector, fits_in, IsTyped, AllTyped}
use Rattle.clu_meaning.proofs.TypedFacts.{typed_on}
use Rattle.clu_meaning.proofs.TypedElements.{IfThere, if_found, Parts, parts_from, parts_typed, parts_fit, component_typed, replaced_parts}
use Rattle.clu_meaning.proofs.FittingLaws.{Fitting, fitting_gives, fitting_signals_if, fitting_needed, fitting_changes, fitting_one, suited_one, suited_two, fitting_struct, fitting_oneof, fitting_record, fitting_variant, fitting_new_struct, fitting_new_record, fitting_new_oneof, fitting_new_variant, fitting}
use Rattle.clu_meaning.proofs.FittingOperations.{suits_fits, argument_is, FitsHeaded, AllFitting, Always, always_fits, same_cell_fits}

-- ---- the heading of an operation of a selector has the selector's type

-- the arguments are those over this type
abbrev Takes : (CluType → CluTypes) → Option CluType → Operation → Type 0
Takes args type heading = (t : CluType) × (type ≡ Some t) × (heading.args ≡ args t)

chosen : (args : CluType → CluTypes) (here : Bool) (t : CluType) (heading : Operation) (others : Option Operation) (type : Option CluType) → heading.args ≡ args t →
    IfThere (Takes args type) others → IfThere (Takes args (cond here (Some t) type)) (or_else (cond here (Some heading) None) others)
chosen args true t heading others type e h = (t, refl, e)
chosen args false t heading others type e h = h

among : (table : SelectorTable) (args : CluType → CluTypes) (s op : List ℕ) →
    ((n : List ℕ) (t : CluType) (others : Option Operation) (type : Option CluType) → IfThere (Takes args type) others →
    IfThere (Takes args (cond (bytes_eq n s) (Some t) type)) (or_else (headed (with_selector n (table t)) op) others)) →
    (fs : Fields) → IfThere (Takes args (type_of_selector fs s)) (of_selectors table fs op)
among table args s op rows no_fields = tt
among table args s op rows (field_and n t rest) = rows n t (of_selectors table rest op) (type_of_selector rest s) (among table args s op rows rest)

-- no other operation has the name
alone : (args : CluType → CluTypes) (type : Option CluType) (found : Option Operation) → IfThere (Takes args type) found → IfThere (Takes args type) (or_else found None)
alone args type None h = tt
alone args type (Some heading) h = h

replace_takes : (fs : Fields) (s : List ℕ) → IfThere (Takes (two (struct_of fs)) (type_of_selector fs s)) (operation (struct_of fs) (codes "replace_" ++ s))
replace_takes fs s = alone (two (struct_of fs)) (type_of_selector fs s) (of_selectors (struct_selectors (struct_of fs)) fs (codes "replace_" ++ s))
    (among (struct_selectors (struct_of fs)) (two (struct_of fs)) s (codes "replace_" ++ s) (λ n t others type h. chosen (two (struct_of fs)) (bytes_eq n s) t _ others type refl h) fs)

set_takes : (fs : Fields) (s : List ℕ) → IfThere (Takes (two (record_of fs)) (type_of_selector fs s)) (operation (record_of fs) (codes "set_" ++ s))
set_takes fs s = alone (two (record_of fs)) (type_of_selector fs s) (of_selectors (record_selectors (record_of fs)) fs (codes "set_" ++ s))
    (among (record_selectors (record_of fs)) (two (record_of fs)) s (codes "set_" ++ s) (λ n t others type h. chosen (two (record_of fs)) (bytes_eq n s) t _ others type refl h) fs)

oneof_make_takes : (fs : Fields) (s : List ℕ) → IfThere (Takes one (type_of_selector fs s)) (operation (oneof_of fs) (codes "make_" ++ s))
oneof_make_takes fs s = alone one (type_of_selector fs s) (of_selectors (oneof_selectors (oneof_of fs)) fs (codes "make_" ++ s))
    (among (oneof_selectors (oneof_of fs)) one s (codes "make_" ++ s) (λ n t others type h. chosen one (bytes_eq n s) t _ others type refl h) fs)

variant_make_takes : (fs : Fields) (s : List ℕ) → IfThere (Takes one (type_of_selector fs s)) (operation (variant_of fs) (codes "make_" ++ s))
variant_make_takes fs s = alone one (type_of_selector fs s) (of_selectors (variant_selectors (variant_of fs)) fs (codes "make_" ++ s))
    (among (variant_selectors (variant_of fs)) one s (codes "make_" ++ s) (λ n t others type h. chosen one (bytes_eq n s) t _ others type refl h) fs)

change_takes : (fs : Fields) (s : List ℕ) → IfThere (Takes (two (variant_of fs)) (type_of_selector fs s)) (operation (variant_of fs) (codes "change_" ++ s))
change_takes fs s = alone (two (variant_of fs)) (type_of_selector fs s) (of_selectors (variant_selectors (variant_of fs)) fs (codes "change_" ++ s))
    (among (variant_selectors (variant_of fs)) (two (variant_of fs)) s (codes "change_" ++ s) (λ n t others type h. chosen (two (variant_of fs)) (bytes_eq n s) t _ others type refl h) fs)

-- the selectors of a type that has some
abbrev fields_in : CluType → Fields
fields_in (struct_of fs) = fs
fields_in (record_of fs) = fs
fields_in (oneof_of fs) = fs
fields_in (variant_of fs) = fs
fields_in _ = no_fields

module _ (program : Program) (lawful : Routine → Type 0) where
  -- an operation whose heading takes the selector's type
  by_heading : (T : CluType) (args : CluType → CluTypes) (type : Option CluType) (h : Option Operation) (p : Primitive) → IfThere (Takes args type) h →
      ((t : CluType) → type ≡ Some t → (base : List Cell) (os : List Object) → AllTyped program lawful base os → may_be_arguments T (own_types os) (args t) ≡ true → Fitting program lawful base (p os)) →
      FitsHeaded program lawful T h p
  by_heading T args type None p k f = tt
  by_heading T args type (Some heading) p k f = λ base os typed s. f k.0 k.1 base os typed (subst (λ formals. may_be_arguments T (own_types os) formals ≡ true) k.2 s)

  -- ---- structs

  struct_get_fits : (s : List ℕ) → Always program lawful (struct_get s)
  struct_get_fits s base os typed = fitting_one program lawful base os _ typed (λ a ta. fitting_struct program lawful base a _ ta (λ fs xs is all fit. fitting_needed program lawful base _ _ (λ x e.
      fitting_gives program lawful base (x ∷ []) (if_found (IsTyped program lawful base) _ x e (component_typed program lawful base fs s xs (parts_from program lawful base fs xs all fit)), tt))))

  struct_replace_fits : (fs : Fields) (s : List ℕ) → FitsHeaded program lawful (struct_of fs) (operation (struct_of fs) (codes "replace_" ++ s)) (struct_replace s)
  struct_replace_fits fs s = by_heading (struct_of fs) (two (struct_of fs)) (type_of_selector fs s) (operation (struct_of fs) (codes "replace_" ++ s)) (struct_replace s) (replace_takes fs s)
      (λ t type base os typed suits. suited_two program lawful base (struct_of fs) (struct_of fs) t os _ typed suits (λ a y ta ty sa sy. fitting_struct program lawful base a _ ta (λ gs xs is all fit.
      let same : gs ≡ fs = ap fields_in (sym is ∙ argument_is (struct_of fs) (own_type a) (struct_of fs) refl refl refl sa) in
      fitting_needed program lawful base _ _ (λ ys e.
      let parts = if_found (Parts program lawful base gs) _ ys e (replaced_parts program lawful base gs s y xs ty
      (subst (λ hs. fits_in (type_of_selector hs s) y ≡ true) (sym same) (subst (λ u. fits_in u y ≡ true) (sym type) (suits_fits (struct_of fs) (own_type y) t refl sy)))
      (parts_from program lawful base gs xs all fit)) in
      fitting_new_struct program lawful base gs ys (parts_typed program lawful base gs ys parts) (parts_fit program lawful base gs ys parts)))))

  pub structs_fit : (fs : Fields) (s : List ℕ) → AllFitting program lawful (struct_of fs) (operation (struct_of fs)) (struct_selected s)
  structs_fit fs s = (
    always_fits program lawful (struct_of fs) (operation (struct_of fs) (codes "get_" ++ s)) (struct_get s) (struct_get_fits s),
    (struct_replace_fits fs s, tt),
  )

  -- ---- records

  record_get_fits : (s : List ℕ) → Always program lawful (record_get s)
  record_get_fits s base os typed = fitting_one program lawful base os _ typed (λ r tr. fitting_record program lawful base r _ tr (λ cells l c fs xs kind is cell. fitting_needed program lawful cells _ _ (λ x e.
      fitting_gives program lawful cells (x ∷ []) (if_found (IsTyped program lawful cells) _ x e (component_typed program lawful cells fs s xs (parts_from program lawful cells fs xs cell.0 cell.1)), tt))))

  record_set_fits : (fs : Fields) (s : List ℕ) → FitsHeaded program lawful (record_of fs) (operation (record_of fs) (codes "set_" ++ s)) (record_set s)
  record_set_fits fs s = by_heading (record_of fs) (two (record_of fs)) (type_of_selector fs s) (operation (record_of fs) (codes "set_" ++ s)) (record_set s) (set_takes fs s)
      (λ t type base os typed suits. suited_two program lawful base (record_of fs) (record_of fs) t os _ typed suits (λ r y tr ty sr sy. fitting_record program lawful base r _ tr (λ cells l c gs xs kind is cell.
      let same : gs ≡ fs = ap fields_in (sym is ∙ argument_is (record_of fs) (own_type r) (record_of fs) refl refl refl sr) in
      fitting_needed program lawful cells _ _ (λ ys e.
      let parts = if_found (Parts program lawful cells gs) _ ys e (replaced_parts program lawful cells gs s y xs (typed_on program lawful base cells l y ty)
      (subst (λ hs. fits_in (type_of_selector hs s) y ≡ true) (sym same) (subst (λ u. fits_in u y ≡ true) (sym type) (suits_fits (record_of fs) (own_type y) t refl sy)))
      (parts_from program lawful cells gs xs cell.0 cell.1)) in
      fitting_changes program lawful cells c (record_cell gs ys) gives_nothing kind (parts_typed program lawful cells gs ys parts, parts_fit program lawful cells gs ys parts) (fitting_gives program lawful cells [] tt)))))

  record_copy1_fits : Always program lawful record_copy1
  record_copy1_fits base os typed = fitting_one program lawful base os _ typed (λ r tr. fitting_record program lawful base r _ tr (λ cells l c fs xs kind is cell.
      fitting_new_record program lawful cells fs xs cell.0 cell.1))

  record_equal_fits : Always program lawful record_equal
  record_equal_fits = same_cell_fits program lawful

  pub records_fit : (fs : Fields) (s : List ℕ) → AllFitting program lawful (record_of fs) (operation (record_of fs)) (record_selected s)
  records_fit fs s = (
    always_fits program lawful (record_of fs) (operation (record_of fs) (codes "get_" ++ s)) (record_get s) (record_get_fits s),
    (record_set_fits fs s, tt),
  )

  pub record_fits : (T : CluType) (heading : List ℕ → Option Operation) → AllFitting program lawful T heading record_primitives
  record_fits T heading = (
    always_fits program lawful T (heading (codes "equal")) record_equal record_equal_fits,
    (always_fits program lawful T (heading (codes "copy1")) record_copy1 record_copy1_fits, tt),
  )

  -- ---- oneofs

  oneof_make_fits : (fs : Fields) (s : List ℕ) → FitsHeaded program lawful (oneof_of fs) (operation (oneof_of fs) (codes "make_" ++ s)) (oneof_make fs s)
  oneof_make_fits fs s = by_heading (oneof_of fs) one (type_of_selector fs s) (operation (oneof_of fs) (codes "make_" ++ s)) (oneof_make fs s) (oneof_make_takes fs s)
      (λ t type base os typed suits. suited_one program lawful base (oneof_of fs) t os _ typed suits (λ x tx sx. fitting_new_oneof program lawful base fs s x tx
      (subst (λ u. fits_in u x ≡ true) (sym type) (suits_fits (oneof_of fs) (own_type x) t refl sx))))

  oneof_is_fits : (s : List ℕ) → Always program lawful (oneof_is s)
  oneof_is_fits s base os typed = search fitting

  oneof_value_fits : (s : List ℕ) → Always program lawful (oneof_value s)
  oneof_value_fits s base os typed = fitting_one program lawful base os _ typed (λ a ta. fitting_oneof program lawful base a _ ta (λ tag x tx.
      fitting_signals_if program lawful base _ _ _ (fitting_gives program lawful base (x ∷ []) (tx, tt))))

  pub oneofs_fit : (fs : Fields) (s : List ℕ) → AllFitting program lawful (oneof_of fs) (operation (oneof_of fs)) (oneof_selected fs s)
  oneofs_fit fs s = (
    oneof_make_fits fs s,
    (
      always_fits program lawful (oneof_of fs) (operation (oneof_of fs) (codes "is_" ++ s)) (oneof_is s) (oneof_is_fits s),
      (always_fits program lawful (oneof_of fs) (operation (oneof_of fs) (codes "value_" ++ s)) (oneof_value s) (oneof_value_fits s), tt),
    ),
  )

  -- ---- variants

  variant_make_fits : (fs : Fields) (s : List ℕ) → FitsHeaded program lawful (variant_of fs) (operation (variant_of fs) (codes "make_" ++ s)) (variant_make fs s)
  variant_make_fits fs s = by_heading (variant_of fs) one (type_of_selector fs s) (operation (variant_of fs) (codes "make_" ++ s)) (variant_make fs s) (variant_make_takes fs s)
      (λ t type base os typed suits. suited_one program lawful base (variant_of fs) t os _ typed suits (λ x tx sx. fitting_new_variant program lawful base fs s x tx
      (subst (λ u. fits_in u x ≡ true) (sym type) (suits_fits (variant_of fs) (own_type x) t refl sx))))

  variant_is_fits : (s : List ℕ) → Always program lawful (variant_is s)
  variant_is_fits s base os typed = search fitting

  variant_value_fits : (s : List ℕ) → Always program lawful (variant_value s)
  variant_value_fits s base os typed = fitting_one program lawful base os _ typed (λ r tr. fitting_variant program lawful base r _ tr (λ cells l c fs tag x kind is cell.
      fitting_signals_if program lawful cells _ _ _ (fitting_gives program lawful cells (x ∷ []) (cell.0, tt))))

  variant_change_fits : (fs : Fields) (s : List ℕ) → FitsHeaded program lawful (variant_of fs) (operation (variant_of fs) (codes "change_" ++ s)) (variant_change s)
  variant_change_fits fs s = by_heading (variant_of fs) (two (variant_of fs)) (type_of_selector fs s) (operation (variant_of fs) (codes "change_" ++ s)) (variant_change s) (change_takes fs s)
      (λ t type base os typed suits. suited_two program lawful base (variant_of fs) (variant_of fs) t os _ typed suits (λ r y tr ty sr sy. fitting_variant program lawful base r _ tr (λ cells l c gs tag x kind is cell.
      let same : gs ≡ fs = ap fields_in (sym is ∙ argument_is (variant_of fs) (own_type r) (variant_of fs) refl refl refl sr) in
      fitting_changes program lawful cells c (variant_cell gs s y) gives_nothing kind (
        typed_on program lawful base cells l y ty,
        subst (λ hs. fits_in (type_of_selector hs s) y ≡ true) (sym same) (subst (λ u. fits_in u y ≡ true) (sym type) (suits_fits (variant_of fs) (own_type y) t refl sy)),
      ) (fitting_gives program lawful cells [] tt))))

  variant_copy1_fits : Always program lawful variant_copy1
  variant_copy1_fits base os typed = fitting_one program lawful base os _ typed (λ r tr. fitting_variant program lawful base r _ tr (λ cells l c fs tag x kind is cell.
      fitting_new_variant program lawful cells fs tag x cell.0 cell.1))

  variant_equal_fits : Always program lawful variant_equal
  variant_equal_fits = same_cell_fits program lawful

  pub variants_fit : (fs : Fields) (s : List ℕ) → AllFitting program lawful (variant_of fs) (operation (variant_of fs)) (variant_selected fs s)
  variants_fit fs s = (
    variant_make_fits fs s,
    (
      always_fits program lawful (variant_of fs) (operation (variant_of fs) (codes "is_" ++ s)) (variant_is s) (variant_is_fits s),
      (
        always_fits program lawful (variant_of fs) (operation (variant_of fs) (codes "value_" ++ s)) (variant_value s) (variant_value_fits s),
        (variant_change_fits fs s, tt),
      ),
    ),
  )

  pub variant_fits : (T : CluType) (heading : List ℕ → Option Operation) → AllFitting program lawful T heading variant_primitives
  variant_fits T heading = (
    always_fits program lawful T (heading (codes "equal")) variant_equal variant_equal_fits,
    (always_fits program lawful T (heading (codes "copy1")) variant_copy1 variant_copy1_fits, tt),
  )
