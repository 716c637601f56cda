-- The components of a type that is written with its selectors have each name once, if no selector stands twice among them.
use Rattle.std.proofs.Common.{◌≡◌, ◌∙◌, ℕ, ◌||◌, if◌then◌else◌, Bool, true, false, List, [], ◌∷◌, ◌++◌, flat_map, refl, sym, ap}
use Rattle.std.specs.Prelude.{bytes_eq}
use Rattle.std.specs.List.{list_any}
use Rattle.std.proofs.lemmas.Bool.{or_from, or_parts}
use Rattle.std.proofs.lemmas.Cmp.{nat_list_eq_equiv}
use Rattle.std.proofs.lemmas.List.Folds.{list_any-append}
use Rattle.clu_types.specs.CluType.{CluType, record_of, struct_of, oneof_of, variant_of, Fields, no_fields, field_and}
use Rattle.clu_types.specs.declared.term.Field.{Field}
use Rattle.clu_types.specs.declared.term.Term.{Term}
use Rattle.clu_types.specs.declared.term.Term.TheVariants as term
use Rattle.clu_types.specs.Arena.{fields_at, type_of}
use Rattle.clu_syntax.specs.Syntax.{Identifier, Constant}
use Rattle.clu_syntax.specs.Items.{Item, selectors_at}
use Rattle.clu_meaning.specs.Scoping.{Scope}
use Rattle.clu_meaning.specs.Settling.{Value, comes_after, with_field, with_fields, fields_of}
use Rattle.clu_meaning.specs.Settling as settling
use Rattle.clu_checking.specs.NameRules.{stands_twice}
use Rattle.clu_name_rules.specs.Components as components
use Rattle.clu_passes.specs.Counting.{names_of_fields}

abbrev pub names_in : Fields → List Identifier
names_in no_fields = []
names_in (field_and name t fs) = name ∷ names_in fs

-- those of the components or tags of a type
abbrev pub names_in_type : CluType → List Identifier
names_in_type (record_of fs) = names_in fs
names_in_type (struct_of fs) = names_in fs
names_in_type (oneof_of fs) = names_in fs
names_in_type (variant_of fs) = names_in fs
names_in_type _ = []

-- ---- by the term of the type

fields_named : (types : List CluType) (fs : List Field) → names_in (fields_at types fs) ≡ names_of_fields fs
fields_named types [] = refl
fields_named types (f ∷ fs) = ap (λ (names : List Identifier). f.name ∷ names) (fields_named types fs)

pub term_named : (types : List CluType) (its : Term) → names_in_type (type_of types its) ≡ names_of_fields (components.fields_of its)
term_named types (term.Record fs) = fields_named types fs
term_named types (term.Struct fs) = fields_named types fs
term_named types (term.Oneof fs) = fields_named types fs
term_named types (term.Variant fs) = fields_named types fs
term_named types _ = refl

-- ---- tests

swap : (a b c : Bool) → (a || (b || c)) ≡ (b || (a || c))
swap true true c = refl
swap true false c = refl
swap false true c = refl
swap false false c = refl

-- ---- one component more

any_put : (p : Identifier → Bool) (name : Identifier) (t : CluType) (fs : Fields) → list_any p (names_in (with_field name t fs)) ≡ (p name || list_any p (names_in fs))
any_put p name t no_fields = refl
any_put p name t (field_and other u rest) = by (comes_after name other) (any_put p name t rest)
  where
    by : (b : Bool) → list_any p (names_in (with_field name t rest)) ≡ (p name || list_any p (names_in rest)) →
        list_any p (names_in (if b then field_and other u (with_field name t rest) else field_and name t (field_and other u rest))) ≡ (p name || (p other || list_any p (names_in rest)))
    by true e = ap (λ (x : Bool). p other || x) e ∙ swap (p other) (p name) (list_any p (names_in rest))
    by false e = refl

once_put : (name : Identifier) (t : CluType) (fs : Fields) → list_any (bytes_eq name) (names_in fs) ≡ false → stands_twice (names_in fs) ≡ false → stands_twice (names_in (with_field name t fs)) ≡ false
once_put name t no_fields apart once = refl
once_put name t (field_and other u rest) apart once =
    let a = or_parts (bytes_eq name other) (list_any (bytes_eq name) (names_in rest)) apart in
    let b = or_parts (list_any (bytes_eq other) (names_in rest)) (stands_twice (names_in rest)) once in
    by (comes_after name other)
    (or_from (list_any (bytes_eq other) (names_in (with_field name t rest))) (stands_twice (names_in (with_field name t rest)))
    (any_put (bytes_eq other) name t rest ∙ or_from (bytes_eq other name) (list_any (bytes_eq other) (names_in rest)) (nat_list_eq_equiv.symm other name ∙ a.0) b.0)
    (once_put name t rest a.1 b.1))
    (or_from (bytes_eq name other || list_any (bytes_eq name) (names_in rest)) (list_any (bytes_eq other) (names_in rest) || stands_twice (names_in rest)) apart once)
  where
    by : (c : Bool) → stands_twice (other ∷ names_in (with_field name t rest)) ≡ false → stands_twice (name ∷ other ∷ names_in rest) ≡ false →
        stands_twice (names_in (if c then field_and other u (with_field name t rest) else field_and name t (field_and other u rest))) ≡ false
    by true behind before = behind
    by false behind before = before

any_all : (p : Identifier → Bool) (names : List Identifier) (t : CluType) (fs : Fields) → list_any p (names_in (with_fields names t fs)) ≡ list_any p (names ++ names_in fs)
any_all p [] t fs = refl
any_all p (name ∷ names) t fs = any_put p name t (with_fields names t fs) ∙ ap (λ (x : Bool). p name || x) (any_all p names t fs)

once_all : (names : List Identifier) (t : CluType) (fs : Fields) → stands_twice (names ++ names_in fs) ≡ false → stands_twice (names_in (with_fields names t fs)) ≡ false
once_all [] t fs once = once
once_all (name ∷ names) t fs once =
    let both = or_parts (list_any (bytes_eq name) (names ++ names_in fs)) (stands_twice (names ++ names_in fs)) once in
    once_put name t (with_fields names t fs) (any_all (bytes_eq name) names t fs ∙ both.0) (once_all names t fs both.1)

-- ---- names that stand behind others

once_behind : (xs ys : List Identifier) → stands_twice (xs ++ ys) ≡ false → stands_twice ys ≡ false
once_behind [] ys once = once
once_behind (x ∷ xs) ys once = once_behind xs ys (or_parts (list_any (bytes_eq x) (xs ++ ys)) (stands_twice (xs ++ ys)) once).1

exchanged : (xs ys zs : List Identifier) → ((p : Identifier → Bool) → list_any p ys ≡ list_any p zs) → stands_twice ys ≡ false → stands_twice (xs ++ zs) ≡ false → stands_twice (xs ++ ys) ≡ false
exchanged [] ys zs same once both = once
exchanged (x ∷ xs) ys zs same once both =
    let parts = or_parts (list_any (bytes_eq x) (xs ++ zs)) (stands_twice (xs ++ zs)) both in
    or_from (list_any (bytes_eq x) (xs ++ ys)) (stands_twice (xs ++ ys))
    (list_any-append (bytes_eq x) xs ys ∙ ap (λ (b : Bool). list_any (bytes_eq x) xs || b) (same (bytes_eq x)) ∙ sym (list_any-append (bytes_eq x) xs zs) ∙ parts.0)
    (exchanged xs ys zs same once parts.1)

-- ---- selectors of nodes

module _ (scope : Scope) (unfolded : Constant → Value) (items : ℕ → Item) where
  abbrev pub selected : ℕ → List Identifier
  selected c = (items c).selector.names

  any_selected : (p : Identifier → Bool) (cs : List ℕ) → list_any p (names_in (fields_of scope unfolded (selectors_at items cs))) ≡ list_any p (flat_map selected cs)
  any_selected p [] = refl
  any_selected p (c ∷ cs) =
      any_all p (selected c) (settling.type_of scope unfolded (items c).selector.type) (fields_of scope unfolded (selectors_at items cs))
      ∙ list_any-append p (selected c) (names_in (fields_of scope unfolded (selectors_at items cs)))
      ∙ ap (λ (b : Bool). list_any p (selected c) || b) (any_selected p cs)
      ∙ sym (list_any-append p (selected c) (flat_map selected cs))

  pub selected_once : (cs : List ℕ) → stands_twice (flat_map selected cs) ≡ false → stands_twice (names_in (fields_of scope unfolded (selectors_at items cs))) ≡ false
  selected_once [] once = refl
  selected_once (c ∷ cs) once =
      once_all (selected c) (settling.type_of scope unfolded (items c).selector.type) (fields_of scope unfolded (selectors_at items cs))
      (exchanged (selected c) (names_in (fields_of scope unfolded (selectors_at items cs))) (flat_map selected cs) (λ p. any_selected p cs)
      (selected_once cs (once_behind (selected c) (flat_map selected cs) once)) once)
