-- The operation of a selector is that of the type with this component alone, with the whole type in the place of that one.
use Rattle.std.proofs.Common.{◌≡◌, ◌∙◌, inl, inr, ℕ, ◌+◌, suc, ◌<◌, Bool, true, false, if◌then◌else◌, List, [], ◌∷◌, ◌++◌, Option, Some, None, refl, sym, ap, ap₂, subst, arith}
use Rattle.std.specs.Str.{bytes_eq}
use Rattle.std.specs.Option.{option_map}
use Rattle.std.proofs.lemmas.Bool.{true≢false}
use Rattle.std.proofs.lemmas.Option.{none-some, same_Some}
use Rattle.std.proofs.lemmas.Slice.Eq.{bytes_eq-Decides}
use Rattle.clu_base.proofs.Lists.{same_bytes}
use Rattle.clu_types.specs.CluType.{CluType, record_of, struct_of, oneof_of, variant_of, CluTypes, no_types, type_and, Fields, no_fields, field_and}
use Rattle.clu_types.specs.Arena.{type_at, types_at}
use Rattle.clu_types.specs.declared.term.TypeId.{TypeId}
use Rattle.clu_builtin.specs.declared.lookup.Builtin.{Builtin}
use Rattle.clu_builtin.specs.declared.row.Row.{Row}
use Rattle.clu_builtin.specs.declared.row.Slot.{Slot}
use Rattle.clu_builtin.specs.declared.row.Slot.TheVariants as slot
use Rattle.clu_builtin.specs.declared.row.Takes.{Takes}
use Rattle.clu_builtin.specs.declared.row.Takes.TheVariants as takes
use Rattle.clu_builtin.specs.declared.row.Gives.{Gives}
use Rattle.clu_builtin.specs.declared.row.Gives.TheVariants as gives
use Rattle.clu_builtin.specs.declared.tables.TheConstants.{STRUCT_SELECTORS, RECORD_SELECTORS, ONEOF_SELECTORS, VARIANT_SELECTORS}
use Rattle.clu_builtin.specs.Built.{operation_at, found_at}
use Rattle.clu_builtin.specs.Names.{op_name}
use Rattle.clu_builtin.specs.Operation.{Operation}
use Rattle.clu_builtin.specs.Table.{Table, named, or_else, with_selector, of_selectors, parts_of, struct_operations, record_operations, operation}
use Rattle.clu_builtin.specs.Rows.{slot_type, taken_types, given_types, row_operation, table_of, row_before}
use Rattle.clu_operations.specs.Builtins.{selector_in, fields_with, type_with, narrowed_to, narrowed, IsReplaced, AreReplaced, IsOfWhole}
use Rattle.clu_operations.proofs.InPlace.{same_put}

-- ---- no type is a part of itself

abbrev mutual
  weight : CluType → ℕ
  weight (record_of fields) = suc (weights fields)
  weight (struct_of fields) = suc (weights fields)
  weight (oneof_of fields) = suc (weights fields)
  weight (variant_of fields) = suc (weights fields)
  weight _ = 0

  weights : Fields → ℕ
  weights no_fields = 0
  weights (field_and selector t fields) = weight t + weights fields

-- ---- a row of the whole type

-- the operation with other arguments and results
abbrev pub of_types : Operation → CluTypes → CluTypes → Operation
of_types o args results = record o { args = args; results = results }

module _ (part of t : CluType) (less : weight t < weight part) where
  slot_put : (a : Slot) (u : CluType) → IsReplaced part of (slot_type part t a) u → u ≡ slot_type of t a
  slot_put slot.Own u (inl put) = put.1
  slot_put slot.Own u (inr put) = absurd (put.0 refl)
  slot_put slot.Part u (inl put) = absurd (omega (arith, less, ap weight put.0))
  slot_put slot.Part u (inr put) = put.1
  slot_put slot.Bool u (inl put) = absurd (omega (arith, less, ap weight put.0))
  slot_put slot.Bool u (inr put) = put.1
  slot_put slot.Int u (inl put) = absurd (omega (arith, less, ap weight put.0))
  slot_put slot.Int u (inr put) = put.1
  slot_put slot.Char u (inl put) = absurd (omega (arith, less, ap weight put.0))
  slot_put slot.Char u (inr put) = put.1
  slot_put slot.Str u (inl put) = absurd (omega (arith, less, ap weight put.0))
  slot_put slot.Str u (inr put) = put.1
  slot_put slot.Array u (inl put) = absurd (omega (arith, less, ap weight put.0))
  slot_put slot.Array u (inr put) = put.1

  none_put : (us : CluTypes) → AreReplaced part of no_types us → us ≡ no_types
  none_put no_types put = refl
  none_put (type_and u us) put = absurd put

  and_put : (a : Slot) (ts whole us : CluTypes) → ((vs : CluTypes) → AreReplaced part of ts vs → vs ≡ whole) → AreReplaced part of (type_and (slot_type part t a) ts) us → us ≡ type_and (slot_type of t a) whole
  and_put a ts whole no_types behind put = absurd put
  and_put a ts whole (type_and u us) behind put = ap₂ type_and (slot_put a u put.0) (behind us put.1)

  one_put : (a : Slot) (us : CluTypes) → AreReplaced part of (type_and (slot_type part t a) no_types) us → us ≡ type_and (slot_type of t a) no_types
  one_put a us put = and_put a no_types no_types us none_put put

  two_put : (a b : Slot) (us : CluTypes) → AreReplaced part of (type_and (slot_type part t a) (type_and (slot_type part t b) no_types)) us → us ≡ type_and (slot_type of t a) (type_and (slot_type of t b) no_types)
  two_put a b us put = and_put a (type_and (slot_type part t b) no_types) (type_and (slot_type of t b) no_types) us (one_put b) put

  taken_put : (a : Takes) (us : CluTypes) → AreReplaced part of (taken_types part t a) us → us ≡ taken_types of t a
  taken_put takes.Nothing us put = none_put us put
  taken_put (takes.One a) us put = one_put a us put
  taken_put (takes.Two a b) us put = two_put a b us put
  taken_put (takes.Three a b c) us put =
      and_put a (type_and (slot_type part t b) (type_and (slot_type part t c) no_types)) (type_and (slot_type of t b) (type_and (slot_type of t c) no_types)) us (two_put b c) put

  given_put : (a : Gives) (us : CluTypes) → AreReplaced part of (given_types part t a) us → us ≡ given_types of t a
  given_put gives.Nothing us put = none_put us put
  given_put (gives.Value a) us put = one_put a us put
  given_put (gives.Yields a) us put = one_put a us put

  row_put : (row : Row) (args results : CluTypes) → AreReplaced part of (taken_types part t row.1) args → AreReplaced part of (given_types part t row.2) results
      → row_operation of t no_types row ≡ of_types (row_operation part t no_types row) args results
  row_put row args results taken given = rw (taken_put row.1 args taken, given_put row.2 results given) refl

module _ (part of t : CluType) (less : weight t < weight part) (o : Operation) (args results : CluTypes) where
  some_put : (found : Option Row) → option_map (row_operation part t no_types) found ≡ Some o → AreReplaced part of o.args args → AreReplaced part of o.results results
      → option_map (row_operation of t no_types) found ≡ Some (of_types o args results)
  some_put None e taken given = absurd (none-some o e)
  some_put (Some row) e taken given =
      let Put : Operation → Type 0 = λ o. AreReplaced part of o.args args → AreReplaced part of o.results results → Some (row_operation of t no_types row) ≡ Some (of_types o args results) in
      subst Put (same_Some _ _ e) (λ taken given. ap Some (row_put part of t less row args results taken given)) taken given

none_put_in : (part of t : CluType) (found : Option Row) → option_map (row_operation part t no_types) found ≡ None → option_map (row_operation of t no_types) found ≡ None
none_put_in part of t None e = refl
none_put_in part of t (Some row) e = absurd (none-some _ (sym e))

-- ---- the row of a selector

-- each name ends with the only `_` in it, so what follows it is the selector
abbrev AreFronts : List Row → Type 0
AreFronts [] = Unit {0}
AreFronts (row ∷ rows) = ((rest : List ℕ) → selector_in (op_name row.0 ++ rest) ≡ Some rest) × AreFronts rows

first_of : (T t : CluType) (found : Option Row) (others : Option Operation) → (found ≡ None → others ≡ None)
    → or_else (option_map (row_operation T t no_types) found) others ≡ option_map (row_operation T t no_types) found
first_of T t None others none = none refl
first_of T t (Some row) others none = refl

nothing_else : (found : Option Operation) → or_else found None ≡ found
nothing_else None = refl
nothing_else (Some o) = refl

alone_again : (selector : List ℕ) (fields : Fields) → fields_with selector (fields_with selector fields) ≡ fields_with selector fields
alone_again selector no_fields = refl
alone_again selector (field_and name t fields) = by (bytes_eq name selector) refl (alone_again selector fields)
  where
    by : (b : Bool) → bytes_eq name selector ≡ b → fields_with selector (fields_with selector fields) ≡ fields_with selector fields
        → fields_with selector (if b then field_and name t no_fields else fields_with selector fields) ≡ (if b then field_and name t no_fields else fields_with selector fields)
    by true e more = rw e refl
    by false e more = more

-- no name has a `_`
abbrev HaveNone : Table → Type 0
HaveNone [] = Unit {0}
HaveNone ((name, its) ∷ rest) = (selector_in name ≡ None) × HaveNone rest

module _ (operation_name selector : List ℕ) (behind : selector_in operation_name ≡ Some selector) where
  no_row : (rows : List Row) → AreFronts rows → (name : List ℕ) → bytes_eq name selector ≡ false → row_before rows name operation_name ≡ None
  no_row [] fronts name other = refl
  no_row (row ∷ rows) fronts name other = by (bytes_eq (op_name row.0 ++ name) operation_name) refl (no_row rows fronts.1 name other)
    where
      by : (b : Bool) → bytes_eq (op_name row.0 ++ name) operation_name ≡ b → row_before rows name operation_name ≡ None → (if b then Some row else row_before rows name operation_name) ≡ None
      by true e more =
          let same : name ≡ selector = same_Some name selector (sym (fronts.0 name) ∙ ap selector_in (same_bytes (op_name row.0 ++ name) operation_name e) ∙ behind) in
          absurd (true≢false (sym ((bytes_eq-Decides name selector).1 same) ∙ other))
      by false e more = more

  module _ (T : CluType) (rows : List Row) (fronts : AreFronts rows) where
    row_of : (t : CluType) (all : List Row) (name : List ℕ) → named (with_selector name (table_of T t no_types all)) operation_name ≡ option_map (row_operation T t no_types) (row_before all name operation_name)
    row_of t [] name = refl
    row_of t (row ∷ all) name = by (bytes_eq (op_name row.0 ++ name) operation_name) (row_of t all name)
      where
        by : (b : Bool) → named (with_selector name (table_of T t no_types all)) operation_name ≡ option_map (row_operation T t no_types) (row_before all name operation_name)
            → (if b then Some (row_operation T t no_types row) else named (with_selector name (table_of T t no_types all)) operation_name)
            ≡ option_map (row_operation T t no_types) (if b then Some row else row_before all name operation_name)
        by true more = refl
        by false more = more

    none_before : row_before rows selector operation_name ≡ None → (name : List ℕ) → row_before rows name operation_name ≡ None
    none_before none name = by (bytes_eq name selector) refl
      where
        by : (b : Bool) → bytes_eq name selector ≡ b → row_before rows name operation_name ≡ None
        by true e = ap (λ (its : List ℕ). row_before rows its operation_name) (same_bytes name selector e) ∙ none
        by false e = no_row rows fronts name e

    none_selected : row_before rows selector operation_name ≡ None → (fields : Fields) → of_selectors (λ t. table_of T t no_types rows) fields operation_name ≡ None
    none_selected none no_fields = refl
    none_selected none (field_and name t fields) =
        ap₂ or_else (row_of t rows name ∙ ap (option_map (row_operation T t no_types)) (none_before none name)) (none_selected none fields)

    -- the operation of the only component
    abbrev picked : Fields → Option Operation
    picked no_fields = None
    picked (field_and name t others) = option_map (row_operation T t no_types) (row_before rows name operation_name)

    of_alone : (fields : Fields) → of_selectors (λ t. table_of T t no_types rows) fields operation_name ≡ picked (fields_with selector fields)
    of_alone no_fields = refl
    of_alone (field_and name t fields) = by (bytes_eq name selector) refl (of_alone fields)
      where
        by : (b : Bool) → bytes_eq name selector ≡ b → of_selectors (λ t. table_of T t no_types rows) fields operation_name ≡ picked (fields_with selector fields)
            → or_else (named (with_selector name (table_of T t no_types rows)) operation_name) (of_selectors (λ t. table_of T t no_types rows) fields operation_name)
            ≡ picked (if b then field_and name t no_fields else fields_with selector fields)
        by true e more =
            ap (λ (o : Option Operation). or_else o (of_selectors (λ t. table_of T t no_types rows) fields operation_name)) (row_of t rows name)
            ∙ first_of T t (row_before rows name operation_name) (of_selectors (λ t. table_of T t no_types rows) fields operation_name)
            (λ none. none_selected (ap (λ (its : List ℕ). row_before rows its operation_name) (sym (same_bytes name selector e)) ∙ none) fields)
        by false e more =
            ap (λ (o : Option Operation). or_else o (of_selectors (λ t. table_of T t no_types rows) fields operation_name))
            (row_of t rows name ∙ ap (option_map (row_operation T t no_types)) (no_row rows fronts name e))
            ∙ more

  no_plain : (table : Table) → HaveNone table → named table operation_name ≡ None
  no_plain [] none = refl
  no_plain ((name, its) ∷ rest) none = by (bytes_eq name operation_name) refl (no_plain rest none.1)
    where
      by : (b : Bool) → bytes_eq name operation_name ≡ b → named rest operation_name ≡ None → (if b then Some its else named rest operation_name) ≡ None
      by true e more = absurd (none-some selector (sym none.0 ∙ ap selector_in (same_bytes name operation_name e) ∙ behind))
      by false e more = more

  -- ---- a type with components, by its constructor, its table, and the rows of its selectors

  module _ (made : Fields → CluType) (table : CluType → CluTypes → Table) (rows : List Row) (fronts : AreFronts rows) (none : (T : CluType) (parts : CluTypes) → HaveNone (table T parts))
      (has : (fields : Fields) → operation (made fields) operation_name
      ≡ or_else (of_selectors (λ t. table_of (made fields) t no_types rows) fields operation_name) (named (table (made fields) (parts_of fields)) operation_name))
      (heavy : (fields : Fields) → weight (made fields) ≡ suc (weights fields)) where
    of_whole : (fields : Fields) → operation (made fields) operation_name ≡ picked (made fields) rows fronts (fields_with selector fields)
    of_whole fields =
        has fields
        ∙ ap₂ or_else (of_alone (made fields) rows fronts fields) (no_plain (table (made fields) (parts_of fields)) (none (made fields) (parts_of fields)))
        ∙ nothing_else (picked (made fields) rows fronts (fields_with selector fields))

    of_part : (fields : Fields) → operation (made (fields_with selector fields)) operation_name ≡ picked (made (fields_with selector fields)) rows fronts (fields_with selector fields)
    of_part fields = of_whole (fields_with selector fields) ∙ ap (picked (made (fields_with selector fields)) rows fronts) (alone_again selector fields)

    whole_some : (fields : Fields) (o : Operation) → operation (made (fields_with selector fields)) operation_name ≡ Some o → (args results : CluTypes)
        → AreReplaced (made (fields_with selector fields)) (made fields) o.args args → AreReplaced (made (fields_with selector fields)) (made fields) o.results results
        → operation (made fields) operation_name ≡ Some (of_types o args results)
    whole_some fields o e args results taken given = of_whole fields ∙ by (fields_with selector fields) (sym (of_part fields) ∙ e) taken given
      where
        by : (alone : Fields) → picked (made alone) rows fronts alone ≡ Some o → AreReplaced (made alone) (made fields) o.args args → AreReplaced (made alone) (made fields) o.results results
            → picked (made fields) rows fronts alone ≡ Some (of_types o args results)
        by no_fields e taken given = absurd (none-some o e)
        by (field_and name t others) e taken given =
            let more : weight (made (field_and name t others)) ≡ suc (weight t + weights others) = heavy (field_and name t others) in
            some_put (made (field_and name t others)) (made fields) t (omega (arith, more)) o args results (row_before rows name operation_name) e taken given

    whole_none : (fields : Fields) → operation (made (fields_with selector fields)) operation_name ≡ None → operation (made fields) operation_name ≡ None
    whole_none fields e = of_whole fields ∙ by (fields_with selector fields) (sym (of_part fields) ∙ e)
      where
        by : (alone : Fields) → picked (made alone) rows fronts alone ≡ None → picked (made fields) rows fronts alone ≡ None
        by no_fields e = refl
        by (field_and name t others) e = none_put_in (made (field_and name t others)) (made fields) t (row_before rows name operation_name) e

-- ---- each constructor

struct_fronts : AreFronts STRUCT_SELECTORS
struct_fronts = ((λ rest. refl), ((λ rest. refl), tt))

record_fronts : AreFronts RECORD_SELECTORS
record_fronts = ((λ rest. refl), ((λ rest. refl), tt))

oneof_fronts : AreFronts ONEOF_SELECTORS
oneof_fronts = ((λ rest. refl), ((λ rest. refl), ((λ rest. refl), tt)))

variant_fronts : AreFronts VARIANT_SELECTORS
variant_fronts = ((λ rest. refl), ((λ rest. refl), ((λ rest. refl), ((λ rest. refl), tt))))

struct_names : (T : CluType) (parts : CluTypes) → HaveNone (struct_operations T parts)
struct_names T parts = (refl, (refl, (refl, tt)))

record_names : (T : CluType) (parts : CluTypes) → HaveNone (record_operations T parts)
record_names T parts = (refl, (refl, (refl, (refl, (refl, tt)))))

same_some : (T : CluType) (operation_name : List ℕ) (o : Operation) → operation T operation_name ≡ Some o → (args results : CluTypes)
    → AreReplaced T T o.args args → AreReplaced T T o.results results → operation T operation_name ≡ Some (of_types o args results)
same_some T operation_name o e args results taken given =
    e ∙ ap₂ (λ (a r : CluTypes). Some (of_types o a r)) (sym (same_put T o.args args taken)) (sym (same_put T o.results results given))

module _ (operation_name selector : List ℕ) (behind : selector_in operation_name ≡ Some selector) where
  with_some : (T : CluType) (o : Operation) → operation (type_with selector T) operation_name ≡ Some o → (args results : CluTypes)
      → AreReplaced (type_with selector T) T o.args args → AreReplaced (type_with selector T) T o.results results → operation T operation_name ≡ Some (of_types o args results)
  with_some (record_of fields) = whole_some operation_name selector behind record_of record_operations RECORD_SELECTORS record_fronts record_names (λ fields. refl) (λ fields. refl) fields
  with_some (struct_of fields) = whole_some operation_name selector behind struct_of struct_operations STRUCT_SELECTORS struct_fronts struct_names (λ fields. refl) (λ fields. refl) fields
  with_some (oneof_of fields) = whole_some operation_name selector behind oneof_of struct_operations ONEOF_SELECTORS oneof_fronts struct_names (λ fields. refl) (λ fields. refl) fields
  with_some (variant_of fields) = whole_some operation_name selector behind variant_of record_operations VARIANT_SELECTORS variant_fronts record_names (λ fields. refl) (λ fields. refl) fields
  with_some T = same_some T operation_name

  with_none : (T : CluType) → operation (type_with selector T) operation_name ≡ None → operation T operation_name ≡ None
  with_none (record_of fields) = whole_none operation_name selector behind record_of record_operations RECORD_SELECTORS record_fronts record_names (λ fields. refl) (λ fields. refl) fields
  with_none (struct_of fields) = whole_none operation_name selector behind struct_of struct_operations STRUCT_SELECTORS struct_fronts struct_names (λ fields. refl) (λ fields. refl) fields
  with_none (oneof_of fields) = whole_none operation_name selector behind oneof_of struct_operations ONEOF_SELECTORS oneof_fronts struct_names (λ fields. refl) (λ fields. refl) fields
  with_none (variant_of fields) = whole_none operation_name selector behind variant_of record_operations VARIANT_SELECTORS variant_fronts record_names (λ fields. refl) (λ fields. refl) fields
  with_none T = λ e. e

-- ---- any type

pub whole_operation : (T : CluType) (operation_name : List ℕ) (o : Operation) → operation (narrowed operation_name T) operation_name ≡ Some o → (args results : CluTypes)
    → AreReplaced (narrowed operation_name T) T o.args args → AreReplaced (narrowed operation_name T) T o.results results → operation T operation_name ≡ Some (of_types o args results)
whole_operation T operation_name o e args results taken given = by (selector_in operation_name) refl e taken given
  where
    by : (found : Option (List ℕ)) → selector_in operation_name ≡ found → operation (narrowed_to found T) operation_name ≡ Some o
        → AreReplaced (narrowed_to found T) T o.args args → AreReplaced (narrowed_to found T) T o.results results → operation T operation_name ≡ Some (of_types o args results)
    by None at e taken given = same_some T operation_name o e args results taken given
    by (Some selector) at e taken given = with_some operation_name selector at T o e args results taken given

pub no_operation : (T : CluType) (operation_name : List ℕ) → operation (narrowed operation_name T) operation_name ≡ None → operation T operation_name ≡ None
no_operation T operation_name e = by (selector_in operation_name) refl e
  where
    by : (found : Option (List ℕ)) → selector_in operation_name ≡ found → operation (narrowed_to found T) operation_name ≡ None → operation T operation_name ≡ None
    by None at e = e
    by (Some selector) at e = with_none operation_name selector at T e

-- ---- as it was found in an arena

pub whole_found : (types : List CluType) (part of : TypeId) (name : List ℕ) (builtin made : Builtin) → IsOfWhole types part of builtin made → type_at types part ≡ narrowed name (type_at types of)
    → found_at types (Some builtin) ≡ operation (narrowed name (type_at types of)) name → found_at types (Some made) ≡ operation (type_at types of) name
whole_found types part of name builtin made whole part_is found =
    let args = types_at types made.heading.args in
    let results = types_at types made.heading.results in
    let parts : operation_at types made ≡ of_types (operation_at types builtin) args results = rw (whole.iter, whole.heading.signals, whole.needs) refl in
    ap Some parts
    ∙ sym (whole_operation (type_at types of) name (operation_at types builtin) (sym found) args results
    (subst (λ (t : CluType). AreReplaced t (type_at types of) (types_at types builtin.heading.args) args) part_is whole.heading.args)
    (subst (λ (t : CluType). AreReplaced t (type_at types of) (types_at types builtin.heading.results) results) part_is whole.heading.results))
