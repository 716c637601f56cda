-- The components of the terms of types that ascend.
use Rattle.std.proofs.Common.{◌≡◌, ◌∙◌, ℕ, zero, suc, ◌+◌, true, false, List, [], ◌∷◌, get_or, slice_get, Option, Some, None, refl, sym, subst, arith}
use Rattle.std.proofs.lemmas.Option.{slice_get_within}
use Rattle.clu_base.specs.declared.constants.Const.{Const}
use Rattle.std.specs.Ordering.{is_lt, nat_cmp}
use Rattle.std.specs.Cmp.Lexicographic.{slice_cmp}
use Rattle.clu_types.specs.CluType.{CluType, record_of, struct_of, oneof_of, variant_of, Fields, no_fields, field_and}
use Rattle.clu_types.specs.Arena.{type_at, fields_at, type_of, types_of, IsArena}
use Rattle.clu_types.specs.declared.term.TypeId.{TypeId}
use Rattle.clu_types.specs.declared.term.Field.{Field}
use Rattle.clu_types.specs.declared.term.Term.{Term}
use Rattle.clu_types.specs.declared.term.Term.TheVariants as term
use Rattle.clu_types.proofs.Arenas.{type_found}
use Rattle.clu_tree.specs.declared.node.Node.{Node}
use Rattle.clu_syntax.specs.Kinds.{is_type, kind_at}
use Rattle.clu_syntax.specs.Nodes.{item_at}
use Rattle.clu_meaning.specs.Scoping.{Scope}
use Rattle.clu_settle.specs.declared.value.Value.{Value}
use Rattle.clu_settle.specs.Lists.{field_before, type_id, value_of}
use Rattle.clu_settle.specs.Settled.{AreSettled}
use Rattle.clu_settle.proofs.Fields.{after_is_before}
use Rattle.clu_name_rules.specs.Components.{AreAscending, fields_of, fields_in}
use Rattle.clu_operations.specs.ByName as ByName
use Rattle.clu_operations.specs.Builtins.{names_in, ComponentsAscend}
use Rattle.clu_passes.specs.Ascending.{Ascends, FieldsAscend}
use Rattle.clu_passes.proofs.Seen.{type_told}
use Rattle.clu_passes.proofs.SettledAscend.{type_settled_ascends}

-- ---- of a term

module _ (types : List CluType) where
  pub sorted : (fields : List Field) → FieldsAscend (fields_at types fields) → AreAscending fields
  sorted [] up k d from to = absurd (omega (arith, to))
  sorted (f ∷ []) up k d from to = absurd (omega (arith, to))
  sorted (f ∷ g ∷ fields) up zero d from to = sym (after_is_before f.name g.name) ∙ up.0
  sorted (f ∷ g ∷ fields) up (suc k) d from to =
      let next : suc k + 1 ≡ suc (k + 1) = omega arith in
      subst (λ (i : ℕ). field_before (get_or (f ∷ g ∷ fields) i d) (get_or (g ∷ fields) k d) ≡ false) (sym next)
      (sorted (g ∷ fields) up.2 k d (omega arith) (omega (arith, to)))

  pub term_ascends : (its : Term) → Ascends (type_of types its) → AreAscending (fields_of its)
  term_ascends (term.Record fields) up = sorted fields up
  term_ascends (term.Struct fields) up = sorted fields up
  term_ascends (term.Oneof fields) up = sorted fields up
  term_ascends (term.Variant fields) up = sorted fields up
  term_ascends _ up = sorted [] tt

-- ---- by the names of a type, as the operations of built-in types ask

names_sorted : (fields : Fields) → FieldsAscend fields → ByName.AreAscending (λ (name : List ℕ). name) (names_in fields)
names_sorted no_fields up k d from to = absurd (omega (arith, to))
names_sorted (field_and name t no_fields) up k d from to = absurd (omega (arith, to))
names_sorted (field_and name t (field_and other u others)) up zero d from to = sym (after_is_before name other) ∙ up.0
names_sorted (field_and name t (field_and other u others)) up (suc k) d from to =
    let next : suc k + 1 ≡ suc (k + 1) = omega arith in
    subst (λ (i : ℕ). is_lt (slice_cmp nat_cmp (get_or (names_in (field_and name t (field_and other u others))) i d) (get_or (names_in (field_and other u others)) k d)) ≡ false) (sym next)
    (names_sorted (field_and other u others) up.2 k d (omega arith) (omega (arith, to)))

pub components_up : (t : CluType) → Ascends t → ComponentsAscend t
components_up (record_of fields) up = names_sorted fields up
components_up (struct_of fields) up = names_sorted fields up
components_up (oneof_of fields) up = names_sorted fields up
components_up (variant_of fields) up = names_sorted fields up
components_up _ up = names_sorted no_fields tt

-- ---- in an arena

pub arena_ascends : (types : List Term) → IsArena types → (id : TypeId) → Ascends (type_at (types_of types) id) → AreAscending (fields_in (slice_get types id.0))
arena_ascends types arena id up = by (slice_get types id.0) refl
  where
    by : (its : Option Term) → slice_get types id.0 ≡ its → AreAscending (fields_in its)
    by (Some its) at = term_ascends (types_of types) its (subst Ascends (type_found types arena id its at (slice_get_within types id.0 its at)) up)
    by None at = sorted (types_of types) [] tt

-- ---- a type that is known of a node

module _ (nodes : List Node) (scope : Scope) (types : List Term) (constants : List Const) (values : List Value) (known : AreSettled nodes scope types constants values) where
  pub type_of_node : (n : ℕ) → is_type (kind_at nodes n) ≡ true → (id : TypeId) → type_id (value_of values n) ≡ Some id → Ascends (type_at (types_of types) id)
  type_of_node n is id e = subst Ascends (type_told nodes scope types constants values known n is id e) (type_settled_ascends scope (item_at nodes n).type)

  pub components_of_node : IsArena types → (n : ℕ) → is_type (kind_at nodes n) ≡ true → (id : TypeId) → type_id (value_of values n) ≡ Some id → AreAscending (fields_in (slice_get types id.0))
  components_of_node arena n is id e = arena_ascends types arena id (type_of_node n is id e)
