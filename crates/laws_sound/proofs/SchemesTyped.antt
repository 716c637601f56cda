-- The schemes of structs and records are well typed, where they are lawful and the selectors differ from each other.
use Rattle.std.proofs.Common.{◌≡◌, ℕ, suc, Bool, true, false, List, [], ◌∷◌, ◌++◌, Option, None, Some, refl, sym, ap, subst, ◌∙◌, inl, cond, eq-eqb}
use Rattle.std.specs.Prelude.{length, nat_eq, bytes_eq, codes}
use Rattle.std.specs.Option.{option_map}
use Rattle.clu_base.proofs.Lists.{same_bytes, as_bytes}
use Rattle.clu_types.specs.CluType.{CluType, bool_type, record_of, struct_of, proc_of, CluTypes, no_types, Fields, no_fields, field_and, no_actuals}
use Rattle.clu_types.specs.Substituted.{substituted}
use Rattle.clu_types.proofs.Identity.{substituted-none}
use Rattle.clu_builtin.specs.Operation.{Operation, one, two, quiet, comparing, copying, asking}
use Rattle.clu_builtin.specs.Table.{operation, or_else, of_selectors, struct_selectors, record_selectors, parts_of}
use Rattle.clu_layout.specs.Objects.{Routine, operation_of}
use Rattle.clu_layout.specs.SameType.{is_any, is_routine_type}
use Rattle.clu_layout.specs.Primitive.{heading_type}
use Rattle.clu_meaning.specs.Lists.{selectors}
use Rattle.clu_meaning.specs.Programs.{Statements, Program}
use Rattle.clu_meaning.specs.State.{Instance}
use Rattle.clu_meaning.specs.Schemes as schemes
use Rattle.clu_meaning.specs.Schemes.{scheme, copied_components}
use Rattle.clu_meaning.specs.Operations.{headed, may_name}
use Rattle.clu_meaning.specs.Binding.{Running}
use Rattle.clu_meaning.specs.Typed.{type_of_selector}
use Rattle.laws_sound.specs.WellTyped.{NamedTypes, type_named, ComponentsFit, FieldsFit, Names, HasOperation, ComponentsHave, AllWellTyped}
use Rattle.laws_sound.specs.Sound.{outermost}
use Rattle.laws_sound.specs.Builtins.{AreDistinct, AreMet, BuiltinsLawful}
use Rattle.laws_sound.proofs.Shapes.{fits_itself}
use Rattle.laws_sound.proofs.Invoking.{fit_same}
use Rattle.laws_sound.proofs.TextsTyped.{text_raises, fails, Applies, met_applies, named_proc, negates}

none_some : {A : Type 0} {x : A} → None ≡ Some x → ⊥
none_some e = subst is_none e tt
  where
    is_none : {A : Type 0} → Option A → Type 0
    is_none None = Unit {0}
    is_none (Some x) = ⊥

some_is : {A : Type 0} {x y : A} → Some x ≡ Some y → x ≡ y
some_is {A} {x} {y} e = ap (λ o. get o x) e
  where
    get : Option A → A → A
    get (Some z) other = z
    get None other = other

-- ---- selectors that differ have their own types

-- each selector of the second has its type in the first
abbrev pub AreThere : Fields → Fields → Type 0
AreThere whole no_fields = Unit {0}
AreThere whole (field_and s u rest) = (type_of_selector whole s ≡ Some u) × AreThere whole rest

there_more : (n : List ℕ) (t : CluType) (whole rest : Fields) → type_of_selector whole n ≡ None → AreThere whole rest → AreThere (field_and n t whole) rest
there_more n t whole no_fields e h = tt
there_more n t whole (field_and s u rest) e h = (by (bytes_eq n s) refl, there_more n t whole rest e h.1)
  where
    by : (b : Bool) → bytes_eq n s ≡ b → cond (bytes_eq n s) (Some t) (type_of_selector whole s) ≡ Some u
    by true is = absurd (none_some (sym e ∙ (ap (type_of_selector whole) (same_bytes n s is) ∙ h.0)))
    by false is = ap (λ b. cond b (Some t) (type_of_selector whole s)) is ∙ h.0

same_name : (s : List ℕ) → bytes_eq s s ≡ true
same_name s = as_bytes s s refl

pub all_there : (fs : Fields) → AreDistinct fs → AreThere fs fs
all_there no_fields d = tt
all_there (field_and s u rest) d = (ap (λ b. cond b (Some u) (type_of_selector rest s)) (same_name s), there_more s u rest rest d.0 (all_there rest d.1))

-- ---- the types of components, by selector

abbrev pub selected : Fields → NamedTypes
selected no_fields = []
selected (field_and s u rest) = (s, u) ∷ selected rest

selected_named : (fs : Fields) (s : List ℕ) → type_named (selected fs) s ≡ type_of_selector fs s
selected_named no_fields s = refl
selected_named (field_and n u rest) s = ap (cond (bytes_eq n s) (Some u)) (selected_named rest s)

selected_length : (fs : Fields) → length (selected fs) ≡ selectors fs
selected_length no_fields = refl
selected_length (field_and s u rest) = ap suc (selected_length rest)

selected_fit : (whole fs : Fields) → AreThere whole fs → ComponentsFit fs (selected whole)
selected_fit whole no_fields h = tt
selected_fit whole (field_and s u rest) h = ((u, selected_named whole s ∙ h.0, fits_itself u), selected_fit whole rest h.1)

pub whole_fit : (fs : Fields) → AreDistinct fs → (nat_eq (length (selected fs)) (selectors fs) ≡ true) × ComponentsFit fs (selected fs)
whole_fit fs d = (eq-eqb (length (selected fs)) (selectors fs) (selected_length fs), selected_fit fs fs (all_there fs d))

-- ---- the operation that gets a component

struct_row : (T : CluType) (fs : Fields) (s : List ℕ) (u : CluType) → type_of_selector fs s ≡ Some u → (h : Operation) × (of_selectors (struct_selectors T) fs (codes "get_" ++ s) ≡ Some h) × (heading_type h ≡ proc_of (one T) (one u) quiet) × (h.needs ≡ [])
struct_row T no_fields s u e = absurd (none_some e)
struct_row T (field_and n t rest) s u e = by (bytes_eq n s) refl (λ k. struct_row T rest s u k)
  where
    by : (b : Bool) → bytes_eq n s ≡ b → (type_of_selector rest s ≡ Some u → (h : Operation) × (of_selectors (struct_selectors T) rest (codes "get_" ++ s) ≡ Some h) × (heading_type h ≡ proc_of (one T) (one u) quiet) × (h.needs ≡ [])) → (h : Operation) × (of_selectors (struct_selectors T) (field_and n t rest) (codes "get_" ++ s) ≡ Some h) × (heading_type h ≡ proc_of (one T) (one u) quiet) × (h.needs ≡ [])
    by true is later_row = (
      record { iter = false; args = one T; results = one t; signals = quiet; needs = [] },
      ap (λ b. or_else (cond b (Some (record { iter = false; args = one T; results = one t; signals = quiet; needs = [] })) None) (of_selectors (struct_selectors T) rest (codes "get_" ++ s))) is,
      ap (λ v. proc_of (one T) (one v) quiet) (some_is (sym (ap (λ b. cond b (Some t) (type_of_selector rest s)) is) ∙ e)),
      refl,
    )
    by false is later_row =
        let later = later_row (sym (ap (λ b. cond b (Some t) (type_of_selector rest s)) is) ∙ e) in
        (later.0, ap (λ b. or_else (cond b (Some (record { iter = false; args = one T; results = one t; signals = quiet; needs = [] })) None) (of_selectors (struct_selectors T) rest (codes "get_" ++ s))) is ∙ later.1, later.2, later.3)

record_row : (T : CluType) (fs : Fields) (s : List ℕ) (u : CluType) → type_of_selector fs s ≡ Some u → (h : Operation) × (of_selectors (record_selectors T) fs (codes "get_" ++ s) ≡ Some h) × (heading_type h ≡ proc_of (one T) (one u) quiet) × (h.needs ≡ [])
record_row T no_fields s u e = absurd (none_some e)
record_row T (field_and n t rest) s u e = by (bytes_eq n s) refl (λ k. record_row T rest s u k)
  where
    by : (b : Bool) → bytes_eq n s ≡ b → (type_of_selector rest s ≡ Some u → (h : Operation) × (of_selectors (record_selectors T) rest (codes "get_" ++ s) ≡ Some h) × (heading_type h ≡ proc_of (one T) (one u) quiet) × (h.needs ≡ [])) → (h : Operation) × (of_selectors (record_selectors T) (field_and n t rest) (codes "get_" ++ s) ≡ Some h) × (heading_type h ≡ proc_of (one T) (one u) quiet) × (h.needs ≡ [])
    by true is later_row = (
      record { iter = false; args = one T; results = one t; signals = quiet; needs = [] },
      ap (λ b. or_else (cond b (Some (record { iter = false; args = one T; results = one t; signals = quiet; needs = [] })) None) (of_selectors (record_selectors T) rest (codes "get_" ++ s))) is,
      ap (λ v. proc_of (one T) (one v) quiet) (some_is (sym (ap (λ b. cond b (Some t) (type_of_selector rest s)) is) ∙ e)),
      refl,
    )
    by false is later_row =
        let later = later_row (sym (ap (λ b. cond b (Some t) (type_of_selector rest s)) is) ∙ e) in
        (later.0, ap (λ b. or_else (cond b (Some (record { iter = false; args = one T; results = one t; signals = quiet; needs = [] })) None) (of_selectors (record_selectors T) rest (codes "get_" ++ s))) is ∙ later.1, later.2, later.3)

module _ (program : Program) (lawful : Routine → Type 0) (closed : BuiltinsLawful program lawful) where
  -- each component may be got, and has this operation
  abbrev pub Gets : CluType → Fields → Type 0
  Gets T no_fields = Unit {0}
  Gets T (field_and s u rest) = Applies program lawful T (codes "get_" ++ s) (one T) (one u) × Gets T rest

  abbrev pub Compares : List ℕ → Fields → Type 0
  Compares op no_fields = Unit {0}
  Compares op (field_and s u rest) = Applies program lawful u op (two u u) (one bool_type) × Compares op rest

  abbrev pub Copies : Fields → Type 0
  Copies no_fields = Unit {0}
  Copies (field_and s u rest) = Applies program lawful u (codes "copy") (one u) (one u) × Copies rest

  pub compare_each : (op : List ℕ) (fs : Fields) → AreMet program lawful (asking op comparing (parts_of fs)) → Compares op fs
  compare_each op no_fields h = tt
  compare_each op (field_and s u rest) h = (met_applies program lawful u op (two u u) (one bool_type) h.0, compare_each op rest h.1)

  pub copy_each : (fs : Fields) → AreMet program lawful (asking (codes "copy") copying (parts_of fs)) → Copies fs
  copy_each no_fields h = tt
  copy_each (field_and s u rest) h = (met_applies program lawful u (codes "copy") (one u) (one u) h.0, copy_each rest h.1)

  got : (T : CluType) (op s : List ℕ) (u : CluType) → lawful (operation_of T op) → (h : Operation) → operation T (codes "get_" ++ s) ≡ Some h → heading_type h ≡ proc_of (one T) (one u) quiet → h.needs ≡ [] →
      headed program (operation_of T (codes "get_" ++ s)) ≡ option_map heading_type (operation T (codes "get_" ++ s)) → may_name program None (operation_of T (codes "get_" ++ s)) ≡ true → Applies program lawful T (codes "get_" ++ s) (one T) (one u)
  got T op s u law h e is none head may = record {
    signals = quiet;
    heading = head ∙ (ap (option_map heading_type) e ∙ ap Some is);
    may = may;
    law = closed.same T op (codes "get_" ++ s) h law e none;
    raises = fails;
  }

  pub struct_gets : (whole fs : Fields) (op : List ℕ) → lawful (operation_of (struct_of whole) op) → AreThere whole fs → Gets (struct_of whole) fs
  struct_gets whole no_fields op law h = tt
  struct_gets whole (field_and s u rest) op law h =
      let row = struct_row (struct_of whole) whole s u h.0 in
      (got (struct_of whole) op s u law row.0 (ap (λ o. or_else o None) row.1) row.2 row.3 refl refl, struct_gets whole rest op law h.1)

  pub record_gets : (whole fs : Fields) (op : List ℕ) → lawful (operation_of (record_of whole) op) → AreThere whole fs → Gets (record_of whole) fs
  record_gets whole no_fields op law h = tt
  record_gets whole (field_and s u rest) op law h =
      let row = record_row (record_of whole) whole s u h.0 in
      (got (record_of whole) op s u law row.0 (ap (λ o. or_else o None) row.1) row.2 row.3 refl refl, record_gets whole rest op law h.1)

  -- ---- the texts

  module _ (T : CluType) (object : is_any T ≡ false) (plain_type : is_routine_type T ≡ false) (i : Instance) where
    abbrev runs : List ℕ → List CluType → CluType → Fields → Statements → Running
    runs op arguments result fs body = record { instance = i; given = no_actuals; home = None; definition = scheme op arguments result fs body }

    -- a routine that is named with no actuals is itself
    as_named : (r : Running) (u : CluType) (op : List ℕ) (ts : CluTypes) → Names program lawful r (operation_of u op) ts → Names program lawful r (operation_of (substituted no_actuals u) op) ts
    as_named r u op ts n = subst (λ t. Names program lawful r (operation_of t op) ts) (sym (substituted-none u)) n

    gets : (r : Running) (s : List ℕ) (u : CluType) → Applies program lawful T (codes "get_" ++ s) (one T) (one u) → may_name program r.home (operation_of T (codes "get_" ++ s)) ≡ true → HasOperation program lawful r text_raises (codes "get_" ++ s) T no_types (one u)
    gets r s u a may = inl (record { object = object; plain = plain_type; args = one T; signals = a.signals; heading = a.heading; may = may; law = a.law; fit = fit_same (one T); raises = a.raises })

    module _ (name op : List ℕ) (whole : Fields) (all : Statements) where
      abbrev comparison : Running
      comparison = runs name (T ∷ T ∷ []) bool_type whole all

      pub compares_typed : (fs : Fields) → Gets T fs → Compares op fs → AllWellTyped program lawful comparison (outermost true text_raises) (schemes.comparing op fs)
      compares_typed no_fields g c = ((one bool_type, (refl, tt), refl, refl), tt)
      compares_typed (field_and s u rest) g c =
          let a = c.0 in (
            (
              (
                (
                  bool_type,
                  no_types,
                  (
                    two u u,
                    a.signals,
                    two u u,
                    as_named comparison u op _ (named_proc program lawful closed comparison (operation_of u op) (two u u) (one bool_type) a.signals a.heading a.may a.law),
                    (
                      (T, no_types, (T, ap Some (substituted-none T), refl, fails), tt, gets comparison s u g.0 g.0.may),
                      ((T, no_types, (T, ap Some (substituted-none T), refl, fails), tt, gets comparison s u g.0 g.0.may), tt),
                    ),
                    record { fit = fit_same (two u u); raises = a.raises },
                  ),
                  tt,
                  negates program lawful closed comparison,
                ),
                ((one bool_type, (refl, tt), refl, refl), tt),
                tt,
              ),
              tt,
            ),
            compares_typed rest g.1 c.1,
          )

    module _ (whole : Fields) (all : Statements) where
      abbrev copy : Running
      copy = runs (codes "copy") (T ∷ []) T whole all

      copies_have : (fs : Fields) → Gets T fs → Copies fs → ComponentsHave program lawful copy text_raises (copied_components fs) (selected fs)
      copies_have no_fields g c = refl
      copies_have (field_and s u rest) g c =
          let a = c.0 in (
            u,
            selected rest,
            (
              one u,
              a.signals,
              one u,
              as_named copy u (codes "copy") _ (named_proc program lawful closed copy (operation_of u (codes "copy")) (one u) (one u) a.signals a.heading a.may a.law),
              ((T, no_types, (T, ap Some (substituted-none T), refl, fails), tt, gets copy s u g.0 g.0.may), tt),
              record { fit = fit_same (one u); raises = a.raises },
            ),
            copies_have rest g.1 c.1,
            refl,
          )

      pub copies_typed : Gets T whole → Copies whole → FieldsFit T (selected whole) → AllWellTyped program lawful copy (outermost true text_raises) (schemes.copying T whole)
      copies_typed g c f = (
        (
          one (substituted no_actuals T),
          ((selected whole, copies_have whole g c, subst (λ t. FieldsFit t (selected whole)) (sym (substituted-none T)) f, refl), tt),
          refl,
          fit_same (one (substituted no_actuals T)),
        ),
        tt,
      )
