-- The operations of a selector or tag are found by their names.
use Rattle.std.proofs.Common.{◌≡◌, ℕ, suc, Bool, true, false, ◌==◌, List, [], ◌++◌, Option, None, Some, refl, sym, ap, ◌∙◌, arith, bytes_eq, if◌then◌else◌}
use Rattle.std.specs.Prelude.{codes}
use Rattle.std.specs.Option.{option_map}
use Rattle.clu_base.proofs.Lists.{as_bytes, same_bytes}
use Rattle.clu_types.specs.CluType.{CluType, CluTypes, Fields, no_fields, field_and, bool_type, oneof_of, record_of, struct_of, variant_of}
use Rattle.clu_builtin.specs.Operation.{Operation, one, quiet, two, wrong_tag}
use Rattle.clu_builtin.specs.Table.{of_selectors, oneof_selectors, operation, or_else, record_selectors, struct_selectors, variant_selectors}
use Rattle.clu_layout.specs.Actions.{Primitive}
use Rattle.clu_layout.specs.OneofOperations.{oneof_is, oneof_selected, oneof_value, variant_is, variant_primitives, variant_selected, variant_value}
use Rattle.clu_layout.specs.PlainOperations.{Primitives, same_cell}
use Rattle.clu_layout.specs.Primitive.{named, of_each, primitive}
use Rattle.clu_layout.specs.RecordOperations.{record_get, record_primitives, record_selected, struct_get, struct_selected}
use Rattle.clu_representation.specs.Shown.{place_of_field, type_of_field}

-- ---- headings

abbrev plain : CluTypes → CluTypes → Operation
plain args results = record { iter = false; args = args; results = results; signals = quiet; needs = [] }

abbrev pub get_heading : CluType → CluType → Operation
get_heading T t = plain (one T) (one t)

abbrev pub is_heading : CluType → CluType → Operation
is_heading T t = plain (one T) (one bool_type)

abbrev pub value_heading : CluType → CluType → Operation
value_heading T t = record { iter = false; args = one T; results = one t; signals = wrong_tag quiet; needs = [] }

module _ (T : CluType) (s : List ℕ) where
  record_gets : (fs : Fields) → of_selectors (record_selectors T) fs (codes "get_" ++ s) ≡ option_map (get_heading T) (type_of_field fs s)
  record_gets no_fields = refl
  record_gets (field_and name t fs) = by (bytes_eq name s) (record_gets fs)
    where
      by : (b : Bool) → of_selectors (record_selectors T) fs (codes "get_" ++ s) ≡ option_map (get_heading T) (type_of_field fs s) →
          or_else (if b then Some (get_heading T t) else None) (of_selectors (record_selectors T) fs (codes "get_" ++ s)) ≡ option_map (get_heading T) (if b then Some t else type_of_field fs s)
      by true again = refl
      by false again = again

  struct_gets : (fs : Fields) → of_selectors (struct_selectors T) fs (codes "get_" ++ s) ≡ option_map (get_heading T) (type_of_field fs s)
  struct_gets no_fields = refl
  struct_gets (field_and name t fs) = by (bytes_eq name s) (struct_gets fs)
    where
      by : (b : Bool) → of_selectors (struct_selectors T) fs (codes "get_" ++ s) ≡ option_map (get_heading T) (type_of_field fs s) →
          or_else (if b then Some (get_heading T t) else None) (of_selectors (struct_selectors T) fs (codes "get_" ++ s)) ≡ option_map (get_heading T) (if b then Some t else type_of_field fs s)
      by true again = refl
      by false again = again

  oneof_ises : (fs : Fields) → of_selectors (oneof_selectors T) fs (codes "is_" ++ s) ≡ option_map (is_heading T) (type_of_field fs s)
  oneof_ises no_fields = refl
  oneof_ises (field_and name t fs) = by (bytes_eq name s) (oneof_ises fs)
    where
      by : (b : Bool) → of_selectors (oneof_selectors T) fs (codes "is_" ++ s) ≡ option_map (is_heading T) (type_of_field fs s) →
          or_else (if b then Some (is_heading T t) else None) (of_selectors (oneof_selectors T) fs (codes "is_" ++ s)) ≡ option_map (is_heading T) (if b then Some t else type_of_field fs s)
      by true again = refl
      by false again = again

  oneof_values : (fs : Fields) → of_selectors (oneof_selectors T) fs (codes "value_" ++ s) ≡ option_map (value_heading T) (type_of_field fs s)
  oneof_values no_fields = refl
  oneof_values (field_and name t fs) = by (bytes_eq name s) (oneof_values fs)
    where
      by : (b : Bool) → of_selectors (oneof_selectors T) fs (codes "value_" ++ s) ≡ option_map (value_heading T) (type_of_field fs s) →
          or_else (if b then Some (value_heading T t) else None) (of_selectors (oneof_selectors T) fs (codes "value_" ++ s)) ≡ option_map (value_heading T) (if b then Some t else type_of_field fs s)
      by true again = refl
      by false again = again

  variant_ises : (fs : Fields) → of_selectors (variant_selectors T) fs (codes "is_" ++ s) ≡ option_map (is_heading T) (type_of_field fs s)
  variant_ises no_fields = refl
  variant_ises (field_and name t fs) = by (bytes_eq name s) (variant_ises fs)
    where
      by : (b : Bool) → of_selectors (variant_selectors T) fs (codes "is_" ++ s) ≡ option_map (is_heading T) (type_of_field fs s) →
          or_else (if b then Some (is_heading T t) else None) (of_selectors (variant_selectors T) fs (codes "is_" ++ s)) ≡ option_map (is_heading T) (if b then Some t else type_of_field fs s)
      by true again = refl
      by false again = again

  variant_values : (fs : Fields) → of_selectors (variant_selectors T) fs (codes "value_" ++ s) ≡ option_map (value_heading T) (type_of_field fs s)
  variant_values no_fields = refl
  variant_values (field_and name t fs) = by (bytes_eq name s) (variant_values fs)
    where
      by : (b : Bool) → of_selectors (variant_selectors T) fs (codes "value_" ++ s) ≡ option_map (value_heading T) (type_of_field fs s) →
          or_else (if b then Some (value_heading T t) else None) (of_selectors (variant_selectors T) fs (codes "value_" ++ s)) ≡ option_map (value_heading T) (if b then Some t else type_of_field fs s)
      by true again = refl
      by false again = again

-- the heading is the type's, since a selector's comes first
pub first_one : (found other : Option Operation) (h : CluType → Operation) (r : Option CluType) (t : CluType) → found ≡ option_map h r → r ≡ Some t → or_else found other ≡ Some (h t)
first_one found other h r t e g = ap (λ f. or_else f other) (e ∙ ap (option_map h) g)

module _ (fs : Fields) (s : List ℕ) (t : CluType) (e : type_of_field fs s ≡ Some t) where
  pub record_get_heading : operation (record_of fs) (codes "get_" ++ s) ≡ Some (get_heading (record_of fs) t)
  record_get_heading = first_one _ None (get_heading (record_of fs)) (type_of_field fs s) t (record_gets (record_of fs) s fs) e

  pub struct_get_heading : operation (struct_of fs) (codes "get_" ++ s) ≡ Some (get_heading (struct_of fs) t)
  struct_get_heading = first_one _ None (get_heading (struct_of fs)) (type_of_field fs s) t (struct_gets (struct_of fs) s fs) e

  pub oneof_is_heading : operation (oneof_of fs) (codes "is_" ++ s) ≡ Some (is_heading (oneof_of fs) t)
  oneof_is_heading = first_one _ None (is_heading (oneof_of fs)) (type_of_field fs s) t (oneof_ises (oneof_of fs) s fs) e

  pub oneof_value_heading : operation (oneof_of fs) (codes "value_" ++ s) ≡ Some (value_heading (oneof_of fs) t)
  oneof_value_heading = first_one _ None (value_heading (oneof_of fs)) (type_of_field fs s) t (oneof_values (oneof_of fs) s fs) e

  pub variant_is_heading : operation (variant_of fs) (codes "is_" ++ s) ≡ Some (is_heading (variant_of fs) t)
  variant_is_heading = first_one _ None (is_heading (variant_of fs)) (type_of_field fs s) t (variant_ises (variant_of fs) s fs) e

  pub variant_value_heading : operation (variant_of fs) (codes "value_" ++ s) ≡ Some (value_heading (variant_of fs) t)
  variant_value_heading = first_one _ None (value_heading (variant_of fs)) (type_of_field fs s) t (variant_values (variant_of fs) s fs) e

-- ---- what each does

-- if the fields have the name, the first operations of it are found
pub record Finds (rows : List ℕ → Primitives) (own : Primitives) (op : List ℕ → List ℕ) (does : List ℕ → Primitive) : Type 0 where
  pub here : (name s : List ℕ) (rest : Primitives) → named (rows name ++ rest) (op s) ≡ (if bytes_eq name s then Some (does name) else named rest (op s))

pub found : (rows : List ℕ → Primitives) (own : Primitives) (op : List ℕ → List ℕ) (does : List ℕ → Primitive) → Finds rows own op does → (fs : Fields) (s : List ℕ) (t : CluType) → type_of_field fs s ≡ Some t →
    named (of_each rows fs own) (op s) ≡ Some (does s)
found rows own op does f no_fields s t e = absurd (cc e)
found rows own op does f (field_and name u fs) s t e = f.here name s (of_each rows fs own) ∙ by (bytes_eq name s) refl e (λ g. found rows own op does f fs s t g)
  where
    by : (b : Bool) → bytes_eq name s ≡ b → (if b then Some u else type_of_field fs s) ≡ Some t →
        (type_of_field fs s ≡ Some t → named (of_each rows fs own) (op s) ≡ Some (does s)) → (if b then Some (does name) else named (of_each rows fs own) (op s)) ≡ Some (does s)
    by true same g again = ap (λ n. Some (does n)) (same_bytes name s same)
    by false other g again = again g

module _ (fs : Fields) (s : List ℕ) (t : CluType) (e : type_of_field fs s ≡ Some t) where
  pub record_get_does : primitive (record_of fs) (codes "get_" ++ s) ≡ Some (record_get s)
  record_get_does = found record_selected record_primitives (λ s. codes "get_" ++ s) record_get (record { here = λ name s rest. refl }) fs s t e

  pub struct_get_does : primitive (struct_of fs) (codes "get_" ++ s) ≡ Some (struct_get s)
  struct_get_does = found struct_selected [] (λ s. codes "get_" ++ s) struct_get (record { here = λ name s rest. refl }) fs s t e

  pub oneof_is_does : primitive (oneof_of fs) (codes "is_" ++ s) ≡ Some (oneof_is s)
  oneof_is_does = found (oneof_selected fs) [] (λ s. codes "is_" ++ s) oneof_is (record { here = λ name s rest. refl }) fs s t e

  pub oneof_value_does : primitive (oneof_of fs) (codes "value_" ++ s) ≡ Some (oneof_value s)
  oneof_value_does = found (oneof_selected fs) [] (λ s. codes "value_" ++ s) oneof_value (record { here = λ name s rest. refl }) fs s t e

  pub variant_is_does : primitive (variant_of fs) (codes "is_" ++ s) ≡ Some (variant_is s)
  variant_is_does = found (variant_selected fs) variant_primitives (λ s. codes "is_" ++ s) variant_is (record { here = λ name s rest. refl }) fs s t e

  pub variant_value_does : primitive (variant_of fs) (codes "value_" ++ s) ≡ Some (variant_value s)
  variant_value_does = found (variant_selected fs) variant_primitives (λ s. codes "value_" ++ s) variant_value (record { here = λ name s rest. refl }) fs s t e

-- ---- places tell tags apart

suc_equal : (p q : ℕ) → (suc p == suc q) ≡ (p == q)
suc_equal p q = by (suc p == suc q) (p == q) refl refl
  where
    by : (a b : Bool) → (suc p == suc q) ≡ a → (p == q) ≡ b → (suc p == suc q) ≡ (p == q)
    by true true e f = e ∙ sym f
    by false false e f = e ∙ sym f
    by true false e f = absurd (grind arith)
    by false true e f = absurd (grind arith)

pub same_place : (fs : Fields) (a b : List ℕ) (t u : CluType) → type_of_field fs a ≡ Some t → type_of_field fs b ≡ Some u → (place_of_field fs a == place_of_field fs b) ≡ bytes_eq a b
same_place no_fields a b t u e g = absurd (cc e)
same_place (field_and name v fs) a b t u e g = by (bytes_eq name a) (bytes_eq name b) refl refl e g (λ e g. same_place fs a b t u e g)
  where
    unequal : (x y : List ℕ) → (x ≡ y → ⊥) → bytes_eq x y ≡ false
    unequal x y k = test (bytes_eq x y) refl
      where
        test : (r : Bool) → bytes_eq x y ≡ r → bytes_eq x y ≡ false
        test true h = absurd (k (same_bytes x y h))
        test false h = h

    differ : (x y : List ℕ) → bytes_eq x y ≡ false → x ≡ y → ⊥
    differ x y h k = absurd (cc (sym h ∙ as_bytes x y k))

    by : (x y : Bool) → bytes_eq name a ≡ x → bytes_eq name b ≡ y → (if x then Some v else type_of_field fs a) ≡ Some t → (if y then Some v else type_of_field fs b) ≡ Some u →
        (type_of_field fs a ≡ Some t → type_of_field fs b ≡ Some u → (place_of_field fs a == place_of_field fs b) ≡ bytes_eq a b) →
        ((if x then 0 else suc (place_of_field fs a)) == (if y then 0 else suc (place_of_field fs b))) ≡ bytes_eq a b
    by true true p q e g again = sym (as_bytes a b (sym (same_bytes name a p) ∙ same_bytes name b q))
    by true false p q e g again = zero_suc (place_of_field fs b) ∙ sym (unequal a b (λ k. differ name b q (same_bytes name a p ∙ k)))
      where
        zero_suc : (n : ℕ) → (0 == suc n) ≡ false
        zero_suc n = grind arith
    by false true p q e g again = suc_zero (place_of_field fs a) ∙ sym (unequal a b (λ k. differ name a p (same_bytes name b q ∙ sym k)))
      where
        suc_zero : (n : ℕ) → (suc n == 0) ≡ false
        suc_zero n = grind arith
    by false false p q e g again = suc_equal (place_of_field fs a) (place_of_field fs b) ∙ again e g

-- ---- equal of records and variants, which no selector hides

abbrev pub equal_heading : CluType → Operation
equal_heading T = plain (two T T) (one bool_type)

no_record_equal : (T : CluType) (fs : Fields) → of_selectors (record_selectors T) fs (codes "equal") ≡ None
no_record_equal T no_fields = refl
no_record_equal T (field_and name t fs) = no_record_equal T fs

no_variant_equal : (T : CluType) (fs : Fields) → of_selectors (variant_selectors T) fs (codes "equal") ≡ None
no_variant_equal T no_fields = refl
no_variant_equal T (field_and name t fs) = no_variant_equal T fs

pub record_equal_heading : (fs : Fields) → operation (record_of fs) (codes "equal") ≡ Some (equal_heading (record_of fs))
record_equal_heading fs = ap (λ f. or_else f (Some (equal_heading (record_of fs)))) (no_record_equal (record_of fs) fs)

pub variant_equal_heading : (fs : Fields) → operation (variant_of fs) (codes "equal") ≡ Some (equal_heading (variant_of fs))
variant_equal_heading fs = ap (λ f. or_else f (Some (equal_heading (variant_of fs)))) (no_variant_equal (variant_of fs) fs)

pub record_equal_does : (fs : Fields) → primitive (record_of fs) (codes "equal") ≡ Some same_cell
record_equal_does no_fields = refl
record_equal_does (field_and name t fs) = record_equal_does fs

variant_equals : (gs fs : Fields) → named (of_each (variant_selected gs) fs variant_primitives) (codes "equal") ≡ Some same_cell
variant_equals gs no_fields = refl
variant_equals gs (field_and name t fs) = variant_equals gs fs

pub variant_equal_does : (fs : Fields) → primitive (variant_of fs) (codes "equal") ≡ Some same_cell
variant_equal_does fs = variant_equals fs fs
