-- The schemes of oneofs and variants are well typed, where they are lawful and the tags differ from each other.
use Rattle.std.proofs.Common.{◌≡◌, ◌∙◌, ℕ, ◌+◌, ◌<◌, ◌==◌, Bool, true, false, ◌||◌, List, [], ◌∷◌, ◌++◌, Option, None, Some, refl, sym, ap, subst, cond, arith, eq-eqb, eqb-true, bytes_eq}
use Rattle.std.specs.Prelude.{codes}
use Rattle.std.specs.Option.{option_map}
use Rattle.std.proofs.lemmas.Bool.{false≢true}
use Rattle.clu_base.proofs.Lists.{same_bytes}
use Rattle.clu_types.specs.CluType.{CluType, bool_type, oneof_of, variant_of, proc_of, CluTypes, Fields, no_fields, field_and, no_actuals}
use Rattle.clu_types.specs.Substituted.{substituted}
use Rattle.clu_types.proofs.Identity.{substituted-none}
use Rattle.clu_builtin.specs.Operation.{Operation, one, two, quiet}
use Rattle.clu_builtin.specs.Table.{operation, or_else, of_selectors, oneof_selectors, variant_selectors}
use Rattle.clu_layout.specs.Objects.{Routine, operation_of}
use Rattle.clu_layout.specs.SameType.{all_fit}
use Rattle.clu_layout.specs.Primitive.{heading_type}
use Rattle.clu_meaning.specs.Lists.{is_among}
use Rattle.clu_meaning.specs.Programs.{local, Declaration, Program}
use Rattle.clu_meaning.specs.Schemes.{locals_from, tag_variables, tags_comparing, tags_copying}
use Rattle.clu_meaning.specs.Operations.{headed, may_name}
use Rattle.clu_meaning.specs.Binding.{Running, declared_in, put_in, inward}
use Rattle.clu_meaning.specs.Typed.{type_of_selector}
use Rattle.laws_sound.specs.WellTyped.{tags_of, has_arm, Bind, Returns, Names, ArmsWellTyped}
use Rattle.laws_sound.specs.Sound.{outermost}
use Rattle.laws_sound.specs.Builtins.{BuiltinsLawful}
use Rattle.laws_sound.proofs.Invoking.{fit_same}
use Rattle.laws_sound.proofs.TextsTyped.{text_raises, fails, Applies, named_proc}
use Rattle.laws_sound.proofs.SchemesTyped.{AreThere, Compares, Copies}

none_some : {A : Type 0} {x : A} → None ≡ Some x → ⊥
none_some e = subst is_none e tt
  where
    is_none : {A : Type 0} → Option A → Type 0
    is_none None = Unit {0}
    is_none (Some x) = ⊥

some_is : {A : Type 0} {x y : A} → Some x ≡ Some y → x ≡ y
some_is {A} {x} {y} e = ap (λ o. get o x) e
  where
    get : Option A → A → A
    get (Some z) other = z
    get None other = other

-- ---- the variables of arms, two for each tag

abbrev Numbered : List Declaration → ℕ → Fields → Type 0
Numbered ds n no_fields = Unit {0}
Numbered ds n (field_and s u rest) = (declared_in ds n ≡ Some u) × (declared_in ds (n + 1) ≡ Some u) × Numbered ds (n + 2) rest

less_differs : (a b : ℕ) → a < b → (a == b) ≡ false
less_differs a b l = by (a == b) refl
  where
    never : a ≡ b → ⊥
    never same = omega (arith, l, same)

    by : (c : Bool) → (a == b) ≡ c → (a == b) ≡ false
    by false e = e
    by true e = absurd (never (eqb-true a b e))

skipped : (d : Declaration) (ds : List Declaration) (n : ℕ) (fs : Fields) → d.number < n → Numbered ds n fs → Numbered (d ∷ ds) n fs
skipped d ds n no_fields l h = tt
skipped d ds n (field_and s u rest) l h = (
  ap (λ b. cond b (Some d.type) (declared_in ds n)) (less_differs d.number n l) ∙ h.0,
  ap (λ b. cond b (Some d.type) (declared_in ds (n + 1))) (less_differs d.number (n + 1) (omega (arith, l))) ∙ h.1,
  skipped d ds (n + 2) rest (omega (arith, l)) h.2,
)

second_found : (a b : Bool) (u : CluType) (others : Option CluType) → b ≡ true → cond a (Some u) (cond b (Some u) others) ≡ Some u
second_found true b u others e = refl
second_found false b u others e = ap (λ c. cond c (Some u) others) e

pub numbered : (fs : Fields) (n : ℕ) → Numbered (tag_variables n fs) n fs
numbered no_fields n = tt
numbered (field_and s u rest) n = (
  ap (λ b. cond b (Some u) (declared_in (record { number = n + 1; type = u } ∷ tag_variables (n + 2) rest) n)) (eq-eqb n n refl),
  second_found (n == n + 1) (n + 1 == n + 1) u (declared_in (tag_variables (n + 2) rest) (n + 1)) (eq-eqb (n + 1) (n + 1) refl),
  skipped (record { number = n; type = u }) (record { number = n + 1; type = u } ∷ tag_variables (n + 2) rest) (n + 2) rest (omega arith)
      (skipped (record { number = n + 1; type = u }) (tag_variables (n + 2) rest) (n + 2) rest (omega arith) (numbered rest (n + 2))),
)

pub numbered_two : (T : CluType) (fs : Fields) → Numbered (locals_from 0 (T ∷ T ∷ []) ++ tag_variables 2 fs) 2 fs
numbered_two T fs = skipped (record { number = 0; type = T }) (record { number = 1; type = T } ∷ tag_variables 2 fs) 2 fs (omega arith)
    (skipped (record { number = 1; type = T }) (tag_variables 2 fs) 2 fs (omega arith) (numbered fs 2))

pub numbered_one : (T : CluType) (fs : Fields) → Numbered (locals_from 0 (T ∷ []) ++ tag_variables 2 fs) 2 fs
numbered_one T fs = skipped (record { number = 0; type = T }) (tag_variables 2 fs) 2 fs (omega arith) (numbered fs 2)

-- ---- the operation that makes an object of a tag

oneof_row : (T : CluType) (fs : Fields) (s : List ℕ) (u : CluType) → type_of_selector fs s ≡ Some u → (h : Operation) × (of_selectors (oneof_selectors T) fs (codes "make_" ++ s) ≡ Some h) × (heading_type h ≡ proc_of (one u) (one T) quiet) × (h.needs ≡ [])
oneof_row T no_fields s u e = absurd (none_some e)
oneof_row T (field_and n t rest) s u e = by (bytes_eq n s) refl (λ k. oneof_row T rest s u k)
  where
    by : (b : Bool) → bytes_eq n s ≡ b → (type_of_selector rest s ≡ Some u → (h : Operation) × (of_selectors (oneof_selectors T) rest (codes "make_" ++ s) ≡ Some h) × (heading_type h ≡ proc_of (one u) (one T) quiet) × (h.needs ≡ [])) → (h : Operation) × (of_selectors (oneof_selectors T) (field_and n t rest) (codes "make_" ++ s) ≡ Some h) × (heading_type h ≡ proc_of (one u) (one T) quiet) × (h.needs ≡ [])
    by true is later_row = (
      record { iter = false; args = one t; results = one T; signals = quiet; needs = [] },
      ap (λ b. or_else (cond b (Some (record { iter = false; args = one t; results = one T; signals = quiet; needs = [] })) None) (of_selectors (oneof_selectors T) rest (codes "make_" ++ s))) is,
      ap (λ v. proc_of (one v) (one T) quiet) (some_is (sym (ap (λ b. cond b (Some t) (type_of_selector rest s)) is) ∙ e)),
      refl,
    )
    by false is later_row =
        let later = later_row (sym (ap (λ b. cond b (Some t) (type_of_selector rest s)) is) ∙ e) in
        (later.0, ap (λ b. or_else (cond b (Some (record { iter = false; args = one t; results = one T; signals = quiet; needs = [] })) None) (of_selectors (oneof_selectors T) rest (codes "make_" ++ s))) is ∙ later.1, later.2, later.3)

variant_row : (T : CluType) (fs : Fields) (s : List ℕ) (u : CluType) → type_of_selector fs s ≡ Some u → (h : Operation) × (of_selectors (variant_selectors T) fs (codes "make_" ++ s) ≡ Some h) × (heading_type h ≡ proc_of (one u) (one T) quiet) × (h.needs ≡ [])
variant_row T no_fields s u e = absurd (none_some e)
variant_row T (field_and n t rest) s u e = by (bytes_eq n s) refl (λ k. variant_row T rest s u k)
  where
    by : (b : Bool) → bytes_eq n s ≡ b → (type_of_selector rest s ≡ Some u → (h : Operation) × (of_selectors (variant_selectors T) rest (codes "make_" ++ s) ≡ Some h) × (heading_type h ≡ proc_of (one u) (one T) quiet) × (h.needs ≡ [])) → (h : Operation) × (of_selectors (variant_selectors T) (field_and n t rest) (codes "make_" ++ s) ≡ Some h) × (heading_type h ≡ proc_of (one u) (one T) quiet) × (h.needs ≡ [])
    by true is later_row = (
      record { iter = false; args = one t; results = one T; signals = quiet; needs = [] },
      ap (λ b. or_else (cond b (Some (record { iter = false; args = one t; results = one T; signals = quiet; needs = [] })) None) (of_selectors (variant_selectors T) rest (codes "make_" ++ s))) is,
      ap (λ v. proc_of (one v) (one T) quiet) (some_is (sym (ap (λ b. cond b (Some t) (type_of_selector rest s)) is) ∙ e)),
      refl,
    )
    by false is later_row =
        let later = later_row (sym (ap (λ b. cond b (Some t) (type_of_selector rest s)) is) ∙ e) in
        (later.0, ap (λ b. or_else (cond b (Some (record { iter = false; args = one t; results = one T; signals = quiet; needs = [] })) None) (of_selectors (variant_selectors T) rest (codes "make_" ++ s))) is ∙ later.1, later.2, later.3)

-- the only name of an arm
only_name : (s tag : List ℕ) → is_among (s ∷ []) tag ≡ true → s ≡ tag
only_name s tag e = same_bytes s tag (by (bytes_eq s tag) e)
  where
    by : (b : Bool) → (b || false) ≡ true → b ≡ true
    by true e = refl
    by false e = absurd (false≢true e)

module _ (program : Program) (lawful : Routine → Type 0) (closed : BuiltinsLawful program lawful) where
  abbrev pub Makes : CluType → Fields → Type 0
  Makes T no_fields = Unit {0}
  Makes T (field_and s u rest) = Applies program lawful T (codes "make_" ++ s) (one u) (one T) × Makes T rest

  made : (T : CluType) (op s : List ℕ) (u : CluType) → lawful (operation_of T op) → (h : Operation) → operation T (codes "make_" ++ s) ≡ Some h → heading_type h ≡ proc_of (one u) (one T) quiet → h.needs ≡ [] →
      headed program (operation_of T (codes "make_" ++ s)) ≡ option_map heading_type (operation T (codes "make_" ++ s)) → may_name program None (operation_of T (codes "make_" ++ s)) ≡ true → Applies program lawful T (codes "make_" ++ s) (one u) (one T)
  made T op s u law h e is none head may = record {
    signals = quiet;
    heading = head ∙ (ap (option_map heading_type) e ∙ ap Some is);
    may = may;
    law = closed.same T op (codes "make_" ++ s) h law e none;
    raises = fails;
  }

  pub oneof_makes : (whole fs : Fields) (op : List ℕ) → lawful (operation_of (oneof_of whole) op) → AreThere whole fs → Makes (oneof_of whole) fs
  oneof_makes whole no_fields op law h = tt
  oneof_makes whole (field_and s u rest) op law h =
      let row = oneof_row (oneof_of whole) whole s u h.0 in
      (made (oneof_of whole) op s u law row.0 (ap (λ o. or_else o None) row.1) row.2 row.3 refl refl, oneof_makes whole rest op law h.1)

  pub variant_makes : (whole fs : Fields) (op : List ℕ) → lawful (operation_of (variant_of whole) op) → AreThere whole fs → Makes (variant_of whole) fs
  variant_makes whole no_fields op law h = tt
  variant_makes whole (field_and s u rest) op law h =
      let row = variant_row (variant_of whole) whole s u h.0 in
      (made (variant_of whole) op s u law row.0 (ap (λ o. or_else o None) row.1) row.2 row.3 refl refl, variant_makes whole rest op law h.1)

  -- ---- the texts

  module _ (T : CluType) (whole : Fields) (tags : tags_of T ≡ Some whole) (r : Running) (given : r.given ≡ no_actuals) (home : r.home ≡ None) where
    -- a variable of an arm
    put : (n : ℕ) (u : CluType) → declared_in r.definition.locals n ≡ Some u → put_in r (declared_in r.definition.locals n) ≡ Some u
    put n u e = ap (put_in r) e ∙ (ap (λ g. Some (substituted g u)) given ∙ ap Some (substituted-none u))

    as_named : (u : CluType) (op : List ℕ) (ts : CluTypes) → Names program lawful r (operation_of u op) ts → Names program lawful r (operation_of (substituted r.given u) op) ts
    as_named u op ts n = subst (λ t. Names program lawful r (operation_of t op) ts) (sym (ap (λ g. substituted g u) given ∙ substituted-none u)) n

    may_here : (p : Routine) → may_name program None p ≡ true → may_name program r.home p ≡ true
    may_here p e = subst (λ h. may_name program h p ≡ true) (sym home) e

    -- an arm's variable takes the objects of its tag
    arm_binds : (s : List ℕ) (u : CluType) (n : ℕ) → type_of_selector whole s ≡ Some u → declared_in r.definition.locals n ≡ Some u → (tag : List ℕ) (t : CluType) → is_among (s ∷ []) tag ≡ true → type_of_selector whole tag ≡ Some t →
        Bind program lawful r (local n ∷ []) (one t)
    arm_binds s u n there e tag t is found =
        let same : u ≡ t = some_is (sym there ∙ (ap (type_of_selector whole) (only_name s tag is) ∙ found)) in
        record { types = one u; declared = (put n u e, tt); fit = subst (λ v. all_fit (one v) (one u) ≡ true) same (fit_same (one u)) }

    module _ (op : List ℕ) (b_there : put_in r (declared_in r.definition.locals 1) ≡ Some T) (results : all_fit (one bool_type) (inward r.given r.definition.results) ≡ true) (plain_end : r.definition.is_iterator ≡ false) where
      pub compares_arms : (fs : Fields) (n : ℕ) → AreThere whole fs → Numbered r.definition.locals n fs → Compares program lawful closed op fs → ArmsWellTyped program lawful r (outermost true text_raises) whole (tags_comparing op n fs)
      compares_arms no_fields n h k c = tt
      compares_arms (field_and s u rest) n h k c =
          let a = c.0 in (
            arm_binds s u n h.0 k.0,
            (
              (
                T,
                whole,
                (T, b_there, refl, fails),
                tags,
                tt,
                (
                  arm_binds s u (n + 1) h.0 k.1,
                  (
                    (
                      one bool_type,
                      (
                        (
                          two u u,
                          a.signals,
                          two u u,
                          as_named u op _ (named_proc program lawful closed r (operation_of u op) (two u u) (one bool_type) a.signals a.heading (may_here (operation_of u op) a.may) a.law),
                          ((u, put n u k.0, refl, fails), ((u, put (n + 1) u k.1, refl, fails), tt)),
                          record { fit = fit_same (two u u); raises = a.raises },
                        ),
                        tt,
                      ),
                      refl,
                      ended,
                    ),
                    tt,
                  ),
                  tt,
                ),
                ((one bool_type, (refl, tt), refl, ended), tt),
              ),
              tt,
            ),
            compares_arms rest (n + 2) h.1 k.2 c.1,
          )
        where
          ended : Returns program lawful r r.definition.is_iterator (one bool_type)
          ended = subst (λ b. Returns program lawful r b (one bool_type)) (sym plain_end) results

    module _ (result : all_fit (one T) (inward r.given r.definition.results) ≡ true) (plain_end : r.definition.is_iterator ≡ false) where
      pub copies_arms : (fs : Fields) (n : ℕ) → AreThere whole fs → Numbered r.definition.locals n fs → Makes T fs → Copies program lawful closed fs → ArmsWellTyped program lawful r (outermost true text_raises) whole (tags_copying T n fs)
      copies_arms no_fields n h k m c = tt
      copies_arms (field_and s u rest) n h k m c =
          let a = c.0 in
          let make = m.0 in (
            arm_binds s u n h.0 k.0,
            (
              (
                one T,
                (
                  (
                    one u,
                    make.signals,
                    one u,
                    as_named T (codes "make_" ++ s) _ (named_proc program lawful closed r (operation_of T (codes "make_" ++ s)) (one u) (one T) make.signals make.heading (may_here (operation_of T (codes "make_" ++ s)) make.may) make.law),
                    (
                      (
                        one u,
                        a.signals,
                        one u,
                        as_named u (codes "copy") _ (named_proc program lawful closed r (operation_of u (codes "copy")) (one u) (one u) a.signals a.heading (may_here (operation_of u (codes "copy")) a.may) a.law),
                        ((u, put n u k.0, refl, fails), tt),
                        record { fit = fit_same (one u); raises = a.raises },
                      ),
                      tt,
                    ),
                    record { fit = fit_same (one u); raises = make.raises },
                  ),
                  tt,
                ),
                refl,
                subst (λ b. Returns program lawful r b (one T)) (sym plain_end) result,
              ),
              tt,
            ),
            copies_arms rest (n + 2) h.1 k.2 m.1 c.1,
          )

-- ---- each tag has an arm

has_by : (b : Bool) (u t : CluType) (later : Option CluType) (others : Bool) → cond b (Some u) later ≡ Some t → (later ≡ Some t → others ≡ true) → ((b || false) || others) ≡ true
has_by true u t later others e h = refl
has_by false u t later others e h = h e

pub comparing_exhausts : (op : List ℕ) (fs : Fields) (n : ℕ) (tag : List ℕ) (t : CluType) → type_of_selector fs tag ≡ Some t → has_arm (tags_comparing op n fs) tag ≡ true
comparing_exhausts op no_fields n tag t e = absurd (none_some e)
comparing_exhausts op (field_and s u rest) n tag t e = has_by (bytes_eq s tag) u t (type_of_selector rest tag) (has_arm (tags_comparing op (n + 2) rest) tag) e (λ later. comparing_exhausts op rest (n + 2) tag t later)

pub copying_exhausts : (T : CluType) (fs : Fields) (n : ℕ) (tag : List ℕ) (t : CluType) → type_of_selector fs tag ≡ Some t → has_arm (tags_copying T n fs) tag ≡ true
copying_exhausts T no_fields n tag t e = absurd (none_some e)
copying_exhausts T (field_and s u rest) n tag t e = has_by (bytes_eq s tag) u t (type_of_selector rest tag) (has_arm (tags_copying T (n + 2) rest) tag) e (λ later. copying_exhausts T rest (n + 2) tag t later)
