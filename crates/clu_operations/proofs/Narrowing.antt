-- The type with one component alone, by terms and by types.
use Rattle.std.proofs.Common.{◌≡◌, ◌∙◌, ℕ, zero, suc, ◌+◌, ◌<◌, Bool, true, false, if◌then◌else◌, List, [], ◌∷◌, length, get_or, option_to_list, Option, Some, refl, sym, ap, ap₂, subst, arith}
use Rattle.std.specs.Str.{bytes_eq}
use Rattle.std.specs.Ordering.{is_lt, nat_cmp}
use Rattle.std.specs.Cmp.Lexicographic.{slice_cmp}
use Rattle.clu_types.specs.CluType.{CluType, record_of, struct_of, oneof_of, variant_of, no_fields, field_and}
use Rattle.clu_types.specs.Arena.{type_at, fields_at, type_of, FieldsBelow, PartsBelow}
use Rattle.clu_types.specs.declared.term.Field.{Field}
use Rattle.clu_types.specs.declared.term.Term.{Term}
use Rattle.clu_types.specs.declared.term.Term.TheVariants as term
use Rattle.clu_types.proofs.Parts.{parts_more}
use Rattle.clu_operations.specs.ByName.{AreAscending, first_named}
use Rattle.clu_operations.specs.Builtins.{field_name, only, fields_of, term_with, type_or, IsWithin, fields_with, type_with, names_in, ComponentsAscend}

-- ---- the component of a name alone

module _ (types : List CluType) (name : List ℕ) where
  fields_only : (fields : List Field) → fields_at types (only name fields) ≡ fields_with name (fields_at types fields)
  fields_only [] = refl
  fields_only (f ∷ fields) = by (bytes_eq f.name name) (fields_only fields)
    where
      by : (b : Bool) → fields_at types (only name fields) ≡ fields_with name (fields_at types fields)
          → fields_at types (option_to_list (if b then Some f else first_named field_name name fields)) ≡ (if b then field_and f.name (type_at types f.of) no_fields else fields_with name (fields_at types fields))
      by true more = refl
      by false more = more

  pub type_narrowed : (its : Term) → type_or types (type_of types its) (term_with name its) ≡ type_with name (type_of types its)
  type_narrowed (term.Record fields) = ap record_of (fields_only fields)
  type_narrowed (term.Struct fields) = ap struct_of (fields_only fields)
  type_narrowed (term.Oneof fields) = ap oneof_of (fields_only fields)
  type_narrowed (term.Variant fields) = ap variant_of (fields_only fields)
  type_narrowed _ = refl

module _ (n : ℕ) (name : List ℕ) where
  only_below : (fields : List Field) → FieldsBelow n fields → FieldsBelow n (only name fields)
  only_below [] below = tt
  only_below (f ∷ fields) below = by (bytes_eq f.name name) (only_below fields below.1)
    where
      by : (b : Bool) → FieldsBelow n (only name fields) → FieldsBelow n (option_to_list (if b then Some f else first_named field_name name fields))
      by true more = (below.0, tt)
      by false more = more

  pub within_narrowed : (its : Term) → PartsBelow n its → IsWithin n (term_with name its)
  within_narrowed (term.Record fields) below = only_below fields below
  within_narrowed (term.Struct fields) below = only_below fields below
  within_narrowed (term.Oneof fields) below = only_below fields below
  within_narrowed (term.Variant fields) below = only_below fields below
  within_narrowed _ below = tt

-- ---- components that ascend

module _ (types : List CluType) where
  name_at : (fields : List Field) (k : ℕ) (d : Field) → get_or (names_in (fields_at types fields)) k d.name ≡ (get_or fields k d).name
  name_at [] zero d = refl
  name_at [] (suc k) d = refl
  name_at (f ∷ fields) zero d = refl
  name_at (f ∷ fields) (suc k) d = name_at fields k d

  as_many : (fields : List Field) → length (names_in (fields_at types fields)) ≡ length fields
  as_many [] = refl
  as_many (f ∷ fields) = ap suc (as_many fields)

  fields_ascend : (fields : List Field) → AreAscending (λ (name : List ℕ). name) (names_in (fields_at types fields)) → AreAscending field_name fields
  fields_ascend fields up k d from to =
      ap₂ (λ (m n : List ℕ). is_lt (slice_cmp nat_cmp m n)) (sym (name_at fields (k + 1) d)) (sym (name_at fields k d)) ∙ up k d.name from (omega (arith, to, as_many fields))

  none_ascend : AreAscending field_name []
  none_ascend k d from to = absurd (omega (arith, to))

  pub components_ascend : (its : Term) → ComponentsAscend (type_of types its) → AreAscending field_name (fields_of its)
  components_ascend (term.Record fields) up = fields_ascend fields up
  components_ascend (term.Struct fields) up = fields_ascend fields up
  components_ascend (term.Oneof fields) up = fields_ascend fields up
  components_ascend (term.Variant fields) up = fields_ascend fields up
  components_ascend _ up = none_ascend

-- ---- a type by its term

pub type_by_term : (types : List CluType) (T : CluType) (its : Term) (name : List ℕ) (made : Option Term) → T ≡ type_of types its
    → (AreAscending field_name (fields_of its) → made ≡ term_with name its) → ComponentsAscend T → type_or types T made ≡ type_with name T
type_by_term types T its name made is made_is up =
    let Is : CluType → Type 0 = λ t. type_or types t (term_with name its) ≡ type_with name t in
    ap (type_or types T) (made_is (components_ascend types its (subst ComponentsAscend is up))) ∙ subst Is (sym is) (type_narrowed types name its)

pub within_by_term : (m n : ℕ) (types : List CluType) (T : CluType) (its : Term) (name : List ℕ) (made : Option Term) → m < n → PartsBelow m its → T ≡ type_of types its
    → (AreAscending field_name (fields_of its) → made ≡ term_with name its) → ComponentsAscend T → IsWithin n made
within_by_term m n types T its name made lt below is made_is up =
    subst (IsWithin n) (sym (made_is (components_ascend types its (subst ComponentsAscend is up)))) (within_narrowed n name its (parts_more m n (omega (arith, lt)) its below))
