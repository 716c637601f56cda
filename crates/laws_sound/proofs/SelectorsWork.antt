-- The primitive operations of structs, records, oneofs and variants give objects of their headings' results, whatever the
-- selectors or tags.
use Rattle.std.proofs.Common.{◌≡◌, refl, sym, ap, subst}
use Rattle.std.proofs.lemmas.Bool.{true≢false}
use Rattle.std.specs.Prelude.{ℕ, Bool, true, false, not, List, [], ◌∷◌, ◌++◌, Option, Some, None, cond, bytes_eq, codes}
use Rattle.std.specs.Option.{option_map}
use Rattle.clu_base.proofs.Lists.{same_bytes}
use Rattle.clu_types.specs.CluType.{CluType, bool_type, record_of, struct_of, oneof_of, variant_of, CluTypes, no_types, Fields, no_fields, field_and}
use Rattle.clu_builtin.specs.Operation.{Operation, one, two}
use Rattle.clu_builtin.specs.Table.{SelectorTable, operation, or_else, named as headed, with_selector, of_selectors, struct_selectors, record_selectors, oneof_selectors, variant_selectors, record_operations, parts_of}
use Rattle.clu_layout.specs.Objects.{Routine, Object, bool_object, Cell, record_cell, variant_cell, own_type, own_types}
use Rattle.clu_layout.specs.SameType.{fits, all_fit}
use Rattle.clu_layout.specs.Actions.{Primitive}
use Rattle.clu_layout.specs.PlainOperations.{Primitives, same_cell}
use Rattle.clu_layout.specs.RecordOperations.{component, with_component, struct_get, struct_replace, struct_selected, record_get, record_set, record_copy1, record_selected, record_primitives}
use Rattle.clu_layout.specs.OneofOperations.{oneof_make, oneof_is, oneof_value, oneof_selected, variant_make, variant_is, variant_value, variant_change, variant_copy1, variant_selected, variant_primitives}
use Rattle.clu_layout.specs.Primitive.{of_each, primitives}
use Rattle.clu_meaning.specs.Programs.{Program}
use Rattle.clu_meaning.specs.Typed.{type_of_selector, fits_in, AllTyped}
use Rattle.clu_meaning.proofs.TypedElements.{IfThere, Is, Parts}
use Rattle.laws_sound.proofs.Works.{Works, works_gives, works_signals_if, works_needed, works_changes, works_one, works_two, works_struct, works_oneof, works_record, works_variant, works_same, works_new_struct, works_new_record, works_new_oneof, works_new_variant}
use Rattle.laws_sound.proofs.PlainWorks.{WorksHeaded, AllWork, joined_work}
use Rattle.laws_sound.proofs.ElementsWork.{same_cell_works}
use Rattle.laws_sound.proofs.TextHeadings.{no_record_selector, no_variant_selector}

-- ---- the heading of an operation of a selector has the selector's type

abbrev Heads : (CluType → CluTypes) → (CluType → CluTypes) → Option CluType → Operation → Type 0
Heads args results type heading = (t : CluType) × (type ≡ Some t) × (heading.args ≡ args t) × (heading.results ≡ results t)

module _ (args results : CluType → CluTypes) where
  chosen : (here : Bool) (t : CluType) (heading : Operation) (others : Option Operation) (type : Option CluType) → heading.args ≡ args t → heading.results ≡ results t →
      IfThere (Heads args results type) others → IfThere (Heads args results (cond here (Some t) type)) (or_else (cond here (Some heading) None) others)
  chosen true t heading others type e f h = (t, refl, e, f)
  chosen false t heading others type e f h = h

  among : (table : SelectorTable) (s op : List ℕ) →
      ((n : List ℕ) (t : CluType) (others : Option Operation) (type : Option CluType) → IfThere (Heads args results type) others →
      IfThere (Heads args results (cond (bytes_eq n s) (Some t) type)) (or_else (headed (with_selector n (table t)) op) others)) →
      (fs : Fields) → IfThere (Heads args results (type_of_selector fs s)) (of_selectors table fs op)
  among table s op rows no_fields = tt
  among table s op rows (field_and n t rest) = rows n t (of_selectors table rest op) (type_of_selector rest s) (among table s op rows rest)

  -- no other operation has the name
  alone : (type : Option CluType) (found : Option Operation) → IfThere (Heads args results type) found → IfThere (Heads args results type) (or_else found None)
  alone type None h = tt
  alone type (Some heading) h = h

  in_struct : (fs : Fields) (s op : List ℕ) → ((n : List ℕ) (t : CluType) (others : Option Operation) (type : Option CluType) → IfThere (Heads args results type) others →
      IfThere (Heads args results (cond (bytes_eq n s) (Some t) type)) (or_else (headed (with_selector n (struct_selectors (struct_of fs) t)) op) others)) →
      IfThere (Heads args results (type_of_selector fs s)) (or_else (of_selectors (struct_selectors (struct_of fs)) fs op) None)
  in_struct fs s op rows = alone (type_of_selector fs s) (of_selectors (struct_selectors (struct_of fs)) fs op) (among (struct_selectors (struct_of fs)) s op rows fs)

  in_record : (fs : Fields) (s op : List ℕ) → ((n : List ℕ) (t : CluType) (others : Option Operation) (type : Option CluType) → IfThere (Heads args results type) others →
      IfThere (Heads args results (cond (bytes_eq n s) (Some t) type)) (or_else (headed (with_selector n (record_selectors (record_of fs) t)) op) others)) →
      IfThere (Heads args results (type_of_selector fs s)) (or_else (of_selectors (record_selectors (record_of fs)) fs op) None)
  in_record fs s op rows = alone (type_of_selector fs s) (of_selectors (record_selectors (record_of fs)) fs op) (among (record_selectors (record_of fs)) s op rows fs)

  in_oneof : (fs : Fields) (s op : List ℕ) → ((n : List ℕ) (t : CluType) (others : Option Operation) (type : Option CluType) → IfThere (Heads args results type) others →
      IfThere (Heads args results (cond (bytes_eq n s) (Some t) type)) (or_else (headed (with_selector n (oneof_selectors (oneof_of fs) t)) op) others)) →
      IfThere (Heads args results (type_of_selector fs s)) (or_else (of_selectors (oneof_selectors (oneof_of fs)) fs op) None)
  in_oneof fs s op rows = alone (type_of_selector fs s) (of_selectors (oneof_selectors (oneof_of fs)) fs op) (among (oneof_selectors (oneof_of fs)) s op rows fs)

  in_variant : (fs : Fields) (s op : List ℕ) → ((n : List ℕ) (t : CluType) (others : Option Operation) (type : Option CluType) → IfThere (Heads args results type) others →
      IfThere (Heads args results (cond (bytes_eq n s) (Some t) type)) (or_else (headed (with_selector n (variant_selectors (variant_of fs) t)) op) others)) →
      IfThere (Heads args results (type_of_selector fs s)) (or_else (of_selectors (variant_selectors (variant_of fs)) fs op) None)
  in_variant fs s op rows = alone (type_of_selector fs s) (of_selectors (variant_selectors (variant_of fs)) fs op) (among (variant_selectors (variant_of fs)) s op rows fs)

fits_there : (found : Option CluType) (t : CluType) (x : Object) → found ≡ Some t → fits_in found x ≡ true → fits (own_type x) t ≡ true
fits_there found t x e h = subst (λ f. fits_in f x ≡ true) e h

none_some : {A : Type 0} {x : A} → None ≡ Some x → ⊥
none_some e = subst is_none e tt
  where
    is_none : {A : Type 0} → Option A → Type 0
    is_none None = Unit {0}
    is_none (Some x) = ⊥

some_is : {A : Type 0} {x y : A} → Some x ≡ Some y → x ≡ y
some_is {A} {x} {y} e = ap (λ o. get o x) e
  where
    get : Option A → A → A
    get (Some z) other = z
    get None other = other

-- what fits at the tag fits at the same name
of_tag : (fs : Fields) (tag s : List ℕ) (t : CluType) (x : Object) → not (bytes_eq tag s) ≡ false → type_of_selector fs s ≡ Some t → fits_in (type_of_selector fs tag) x ≡ true → fits (own_type x) t ≡ true
of_tag fs tag s t x n e h = by (bytes_eq tag s) refl n
  where
    by : (b : Bool) → bytes_eq tag s ≡ b → not b ≡ false → fits (own_type x) t ≡ true
    by true is k = fits_there (type_of_selector fs s) t x e (subst (λ name. fits_in (type_of_selector fs name) x ≡ true) (same_bytes tag s is) h)
    by false is k = absurd (true≢false k)

module _ (program : Program) (lawful : Routine → Type 0) where
  -- ---- components are there

  module _ (cells : List Cell) where
    component_by : (b : Bool) (u t : CluType) (later : Option CluType) (x : Object) (others : Option Object) → cond b (Some u) later ≡ Some t → Is program lawful cells u x →
        (later ≡ Some t → (y : Object) × (others ≡ Some y) × (fits (own_type y) t ≡ true)) → (y : Object) × (cond b (Some x) others ≡ Some y) × (fits (own_type y) t ≡ true)
    component_by true u t later x others e is h = (x, refl, subst (λ v. fits (own_type x) v ≡ true) (some_is e) is.1)
    component_by false u t later x others e is h = h e

    component_there : (fs : Fields) (s : List ℕ) (t : CluType) (xs : List Object) → Parts program lawful cells fs xs → type_of_selector fs s ≡ Some t → (y : Object) × (component fs s xs ≡ Some y) × (fits (own_type y) t ≡ true)
    component_there (field_and name u rest) s t (x ∷ xs) h e = component_by (bytes_eq name s) u t (type_of_selector rest s) x (component rest s xs) e h.0 (λ later. component_there rest s t xs h.1 later)
    component_there no_fields s t [] h e = absurd (none_some e)
    component_there no_fields s t (x ∷ xs) h e = absurd h
    component_there (field_and name u rest) s t [] h e = absurd h

    changed_by : (b : Bool) (u t : CluType) (later : Option CluType) (x y : Object) (xs : List Object) (others : Option (List Object)) → cond b (Some u) later ≡ Some t →
        (later ≡ Some t → (ys : List Object) × (others ≡ Some ys)) → (ys : List Object) × (cond b (Some (y ∷ xs)) (option_map (λ zs. x ∷ zs) others) ≡ Some ys)
    changed_by true u t later x y xs others e h = (y ∷ xs, refl)
    changed_by false u t later x y xs others e h = let found = h e in (x ∷ found.0, ap (option_map (λ zs. x ∷ zs)) found.1)

    changed_there : (fs : Fields) (s : List ℕ) (t : CluType) (y : Object) (xs : List Object) → Parts program lawful cells fs xs → type_of_selector fs s ≡ Some t → (ys : List Object) × (with_component fs s y xs ≡ Some ys)
    changed_there (field_and name u rest) s t y (x ∷ xs) h e = changed_by (bytes_eq name s) u t (type_of_selector rest s) x y xs (with_component rest s y xs) e (λ later. changed_there rest s t y xs h.1 later)
    changed_there no_fields s t y [] h e = absurd (none_some e)
    changed_there no_fields s t y (x ∷ xs) h e = absurd h
    changed_there (field_and name u rest) s t y [] h e = absurd h

  -- ---- by headings

  by_heading : (args results : CluType → CluTypes) (type : Option CluType) (h : Option Operation) (p : Primitive) → IfThere (Heads args results type) h →
      ((t : CluType) → type ≡ Some t → (base : List Cell) (os : List Object) → AllTyped program lawful base os → all_fit (own_types os) (args t) ≡ true → Works program lawful base (results t) (p os)) → WorksHeaded program lawful h p
  by_heading args results type None p k f = tt
  by_heading args results type (Some heading) p k f = λ base os typed s. subst (λ ts. Works program lawful base ts (p os)) (sym k.3) (f k.0 k.1 base os typed (subst (λ formals. all_fit (own_types os) formals ≡ true) k.2 s))

  as_headed : (h : Option Operation) (row : Operation) (p : Primitive) → h ≡ Some row → WorksHeaded program lawful (Some row) p → WorksHeaded program lawful h p
  as_headed h row p e f = subst (λ o. WorksHeaded program lawful o p) (sym e) f

  -- the operations of each selector, and then those of the type
  of_each_work : (heading : List ℕ → Option Operation) (selected : List ℕ → Primitives) (own : Primitives) → ((s : List ℕ) → AllWork program lawful heading (selected s)) → AllWork program lawful heading own → (fs : Fields) →
      AllWork program lawful heading (of_each selected fs own)
  of_each_work heading selected own f g no_fields = g
  of_each_work heading selected own f g (field_and s t rest) = joined_work program lawful heading (selected s) (of_each selected rest own) (f s) (of_each_work heading selected own f g rest)

  module _ (fs : Fields) where
    -- ---- structs

    struct_get_works : (s : List ℕ) → WorksHeaded program lawful (operation (struct_of fs) (codes "get_" ++ s)) (struct_get s)
    struct_get_works s = by_heading (λ t. one (struct_of fs)) one (type_of_selector fs s) (operation (struct_of fs) (codes "get_" ++ s)) (struct_get s)
        (in_struct (λ t. one (struct_of fs)) one fs s (codes "get_" ++ s) (λ n t others type h. chosen (λ u. one (struct_of fs)) one (bytes_eq n s) t _ others type refl refl h))
        (λ t e base os typed fit. works_one program lawful base (one t) (struct_of fs) os _ typed fit (λ a ta fa. works_struct program lawful base (one t) a fs _ ta fa (λ xs parts.
        let found = component_there base fs s t xs parts e in works_needed program lawful base (one t) _ _ found.0 found.1 (works_same program lawful base t found.0 found.2))))

    struct_replace_works : (s : List ℕ) → WorksHeaded program lawful (operation (struct_of fs) (codes "replace_" ++ s)) (struct_replace s)
    struct_replace_works s = by_heading (two (struct_of fs)) (λ t. one (struct_of fs)) (type_of_selector fs s) (operation (struct_of fs) (codes "replace_" ++ s)) (struct_replace s)
        (in_struct (two (struct_of fs)) (λ t. one (struct_of fs)) fs s (codes "replace_" ++ s) (λ n t others type h. chosen (two (struct_of fs)) (λ u. one (struct_of fs)) (bytes_eq n s) t _ others type refl refl h))
        (λ t e base os typed fit. works_two program lawful base (one (struct_of fs)) (struct_of fs) t os _ typed fit (λ a y ta ty fa fy. works_struct program lawful base (one (struct_of fs)) a fs _ ta fa (λ xs parts.
        let found = changed_there base fs s t y xs parts e in works_needed program lawful base (one (struct_of fs)) _ _ found.0 found.1 (works_new_struct program lawful base fs found.0))))

    pub structs_work : AllWork program lawful (operation (struct_of fs)) (primitives (struct_of fs))
    structs_work = of_each_work (operation (struct_of fs)) struct_selected [] (λ s. (struct_get_works s, (struct_replace_works s, tt))) tt fs

    -- ---- records

    record_get_works : (s : List ℕ) → WorksHeaded program lawful (operation (record_of fs) (codes "get_" ++ s)) (record_get s)
    record_get_works s = by_heading (λ t. one (record_of fs)) one (type_of_selector fs s) (operation (record_of fs) (codes "get_" ++ s)) (record_get s)
        (in_record (λ t. one (record_of fs)) one fs s (codes "get_" ++ s) (λ n t others type h. chosen (λ u. one (record_of fs)) one (bytes_eq n s) t _ others type refl refl h))
        (λ t e base os typed fit. works_one program lawful base (one t) (record_of fs) os _ typed fit (λ a ta fa. works_record program lawful base (one t) a fs _ ta fa (λ cells l c xs parts.
        let found = component_there cells fs s t xs parts e in works_needed program lawful cells (one t) _ _ found.0 found.1 (works_same program lawful cells t found.0 found.2))))

    record_set_works : (s : List ℕ) → WorksHeaded program lawful (operation (record_of fs) (codes "set_" ++ s)) (record_set s)
    record_set_works s = by_heading (two (record_of fs)) (λ t. no_types) (type_of_selector fs s) (operation (record_of fs) (codes "set_" ++ s)) (record_set s)
        (in_record (two (record_of fs)) (λ t. no_types) fs s (codes "set_" ++ s) (λ n t others type h. chosen (two (record_of fs)) (λ u. no_types) (bytes_eq n s) t _ others type refl refl h))
        (λ t e base os typed fit. works_two program lawful base no_types (record_of fs) t os _ typed fit (λ a y ta ty fa fy. works_record program lawful base no_types a fs _ ta fa (λ cells l c xs parts.
        let found = changed_there cells fs s t y xs parts e in works_needed program lawful cells no_types _ _ found.0 found.1 (works_changes program lawful cells no_types c (record_cell fs found.0) [] refl))))

    record_equal_works : WorksHeaded program lawful (operation (record_of fs) (codes "equal")) same_cell
    record_equal_works = as_headed (operation (record_of fs) (codes "equal")) _ same_cell
        (ap (λ o. or_else o (headed (record_operations (record_of fs) (parts_of fs)) (codes "equal"))) (no_record_selector (codes "equal") (record_of fs) (λ s t. refl) fs)) (same_cell_works program lawful (record_of fs) refl refl refl)

    record_copy1_works : WorksHeaded program lawful (operation (record_of fs) (codes "copy1")) record_copy1
    record_copy1_works = as_headed (operation (record_of fs) (codes "copy1")) _ record_copy1
        (ap (λ o. or_else o (headed (record_operations (record_of fs) (parts_of fs)) (codes "copy1"))) (no_record_selector (codes "copy1") (record_of fs) (λ s t. refl) fs))
        (λ base os typed fit. works_one program lawful base (one (record_of fs)) (record_of fs) os _ typed fit (λ a ta fa. works_record program lawful base (one (record_of fs)) a fs _ ta fa (λ cells l c xs parts. works_new_record program lawful cells fs xs)))

    pub records_work : AllWork program lawful (operation (record_of fs)) (primitives (record_of fs))
    records_work = of_each_work (operation (record_of fs)) record_selected record_primitives (λ s. (record_get_works s, (record_set_works s, tt))) (record_equal_works, (record_copy1_works, tt)) fs

    -- ---- oneofs

    oneof_make_works : (s : List ℕ) → WorksHeaded program lawful (operation (oneof_of fs) (codes "make_" ++ s)) (oneof_make fs s)
    oneof_make_works s = by_heading one (λ t. one (oneof_of fs)) (type_of_selector fs s) (operation (oneof_of fs) (codes "make_" ++ s)) (oneof_make fs s)
        (in_oneof one (λ t. one (oneof_of fs)) fs s (codes "make_" ++ s) (λ n t others type h. chosen one (λ u. one (oneof_of fs)) (bytes_eq n s) t _ others type refl refl h))
        (λ t e base os typed fit. works_one program lawful base (one (oneof_of fs)) t os _ typed fit (λ x tx fx. works_new_oneof program lawful base fs s x))

    oneof_is_works : (s : List ℕ) → WorksHeaded program lawful (operation (oneof_of fs) (codes "is_" ++ s)) (oneof_is s)
    oneof_is_works s = by_heading (λ t. one (oneof_of fs)) (λ t. one bool_type) (type_of_selector fs s) (operation (oneof_of fs) (codes "is_" ++ s)) (oneof_is s)
        (in_oneof (λ t. one (oneof_of fs)) (λ t. one bool_type) fs s (codes "is_" ++ s) (λ n t others type h. chosen (λ u. one (oneof_of fs)) (λ u. one bool_type) (bytes_eq n s) t _ others type refl refl h))
        (λ t e base os typed fit. works_one program lawful base (one bool_type) (oneof_of fs) os _ typed fit (λ a ta fa. works_oneof program lawful base (one bool_type) a fs _ ta fa (λ tag x tx fx. works_gives program lawful base (one bool_type) (bool_object _ ∷ []) refl)))

    oneof_value_works : (s : List ℕ) → WorksHeaded program lawful (operation (oneof_of fs) (codes "value_" ++ s)) (oneof_value s)
    oneof_value_works s = by_heading (λ t. one (oneof_of fs)) one (type_of_selector fs s) (operation (oneof_of fs) (codes "value_" ++ s)) (oneof_value s)
        (in_oneof (λ t. one (oneof_of fs)) one fs s (codes "value_" ++ s) (λ n t others type h. chosen (λ u. one (oneof_of fs)) one (bytes_eq n s) t _ others type refl refl h))
        (λ t e base os typed fit. works_one program lawful base (one t) (oneof_of fs) os _ typed fit (λ a ta fa. works_oneof program lawful base (one t) a fs _ ta fa (λ tag x tx fx.
        works_signals_if program lawful base (one t) _ _ _ (λ same. works_same program lawful base t x (of_tag fs tag s t x same e fx)))))

    pub oneofs_work : AllWork program lawful (operation (oneof_of fs)) (primitives (oneof_of fs))
    oneofs_work = of_each_work (operation (oneof_of fs)) (oneof_selected fs) [] (λ s. (oneof_make_works s, (oneof_is_works s, (oneof_value_works s, tt)))) tt fs

    -- ---- variants

    variant_make_works : (s : List ℕ) → WorksHeaded program lawful (operation (variant_of fs) (codes "make_" ++ s)) (variant_make fs s)
    variant_make_works s = by_heading one (λ t. one (variant_of fs)) (type_of_selector fs s) (operation (variant_of fs) (codes "make_" ++ s)) (variant_make fs s)
        (in_variant one (λ t. one (variant_of fs)) fs s (codes "make_" ++ s) (λ n t others type h. chosen one (λ u. one (variant_of fs)) (bytes_eq n s) t _ others type refl refl h))
        (λ t e base os typed fit. works_one program lawful base (one (variant_of fs)) t os _ typed fit (λ x tx fx. works_new_variant program lawful base fs s x))

    variant_is_works : (s : List ℕ) → WorksHeaded program lawful (operation (variant_of fs) (codes "is_" ++ s)) (variant_is s)
    variant_is_works s = by_heading (λ t. one (variant_of fs)) (λ t. one bool_type) (type_of_selector fs s) (operation (variant_of fs) (codes "is_" ++ s)) (variant_is s)
        (in_variant (λ t. one (variant_of fs)) (λ t. one bool_type) fs s (codes "is_" ++ s) (λ n t others type h. chosen (λ u. one (variant_of fs)) (λ u. one bool_type) (bytes_eq n s) t _ others type refl refl h))
        (λ t e base os typed fit. works_one program lawful base (one bool_type) (variant_of fs) os _ typed fit (λ a ta fa. works_variant program lawful base (one bool_type) a fs _ ta fa (λ cells l c tag x tx fx. works_gives program lawful cells (one bool_type) (bool_object _ ∷ []) refl)))

    variant_value_works : (s : List ℕ) → WorksHeaded program lawful (operation (variant_of fs) (codes "value_" ++ s)) (variant_value s)
    variant_value_works s = by_heading (λ t. one (variant_of fs)) one (type_of_selector fs s) (operation (variant_of fs) (codes "value_" ++ s)) (variant_value s)
        (in_variant (λ t. one (variant_of fs)) one fs s (codes "value_" ++ s) (λ n t others type h. chosen (λ u. one (variant_of fs)) one (bytes_eq n s) t _ others type refl refl h))
        (λ t e base os typed fit. works_one program lawful base (one t) (variant_of fs) os _ typed fit (λ a ta fa. works_variant program lawful base (one t) a fs _ ta fa (λ cells l c tag x tx fx.
        works_signals_if program lawful cells (one t) _ _ _ (λ same. works_same program lawful cells t x (of_tag fs tag s t x same e fx)))))

    variant_change_works : (s : List ℕ) → WorksHeaded program lawful (operation (variant_of fs) (codes "change_" ++ s)) (variant_change s)
    variant_change_works s = by_heading (two (variant_of fs)) (λ t. no_types) (type_of_selector fs s) (operation (variant_of fs) (codes "change_" ++ s)) (variant_change s)
        (in_variant (two (variant_of fs)) (λ t. no_types) fs s (codes "change_" ++ s) (λ n t others type h. chosen (two (variant_of fs)) (λ u. no_types) (bytes_eq n s) t _ others type refl refl h))
        (λ t e base os typed fit. works_two program lawful base no_types (variant_of fs) t os _ typed fit (λ a y ta ty fa fy. works_variant program lawful base no_types a fs _ ta fa (λ cells l c tag x tx fx.
        works_changes program lawful cells no_types c (variant_cell fs s y) [] refl)))

    variant_equal_works : WorksHeaded program lawful (operation (variant_of fs) (codes "equal")) same_cell
    variant_equal_works = as_headed (operation (variant_of fs) (codes "equal")) _ same_cell
        (ap (λ o. or_else o (headed (record_operations (variant_of fs) (parts_of fs)) (codes "equal"))) (no_variant_selector (codes "equal") (variant_of fs) (λ s t. refl) fs)) (same_cell_works program lawful (variant_of fs) refl refl refl)

    variant_copy1_works : WorksHeaded program lawful (operation (variant_of fs) (codes "copy1")) variant_copy1
    variant_copy1_works = as_headed (operation (variant_of fs) (codes "copy1")) _ variant_copy1
        (ap (λ o. or_else o (headed (record_operations (variant_of fs) (parts_of fs)) (codes "copy1"))) (no_variant_selector (codes "copy1") (variant_of fs) (λ s t. refl) fs))
        (λ base os typed fit. works_one program lawful base (one (variant_of fs)) (variant_of fs) os _ typed fit (λ a ta fa. works_variant program lawful base (one (variant_of fs)) a fs _ ta fa (λ cells l c tag x tx fx. works_new_variant program lawful cells fs tag x)))

    pub variants_work : AllWork program lawful (operation (variant_of fs)) (primitives (variant_of fs))
    variants_work = of_each_work (operation (variant_of fs)) (variant_selected fs) variant_primitives (λ s. (variant_make_works s, (variant_is_works s, (variant_value_works s, (variant_change_works s, tt))))) (variant_equal_works, (variant_copy1_works, tt)) fs
