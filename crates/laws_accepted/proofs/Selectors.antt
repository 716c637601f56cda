-- Constructors of records and structs that keep the rules are well typed in each instance of their text: they have each selector once.
use Rattle.std.proofs.Common.{◌≡◌, ℕ, suc, Bool, true, false, List, [], ◌∷◌, ◌++◌, length, Option, Some, refl, sym, ap, subst, ◌∙◌, inl, inr}
use Rattle.std.specs.Prelude.{◌&&◌, ◌||◌, is_none, is_some, nat_eq, bytes_eq, if◌then◌else◌}
use Rattle.std.specs.List.{list_any, list_all}
use Rattle.std.proofs.lemmas.Bool.{and_parts, and_from, or_parts, or_from, or_cases, cond-true, cond-false, eq-eqb, not-false}
use Rattle.clu_base.proofs.Lists.{same_bytes, as_bytes}
use Rattle.clu_base.specs.declared.rules.Rule.TheVariants as rule
use Rattle.clu_tree.specs.declared.node.NodeKind.{NodeKind}
use Rattle.clu_tree.specs.declared.node.NodeKind.TheVariants as kind
use Rattle.clu_types.specs.CluType.{CluType, record_of, struct_of, Fields, no_fields, field_and, Actuals}
use Rattle.clu_types.specs.Substituted.{substituted, fields_substituted}
use Rattle.clu_layout.specs.SameType.{fits}
use Rattle.clu_syntax.specs.Syntax.{Identifier, Expression, fields, Components, no_components, component_and, TypeExpression}
use Rattle.clu_meaning.specs.Lists.{selectors}
use Rattle.clu_meaning.specs.Settling.{type_settled}
use Rattle.clu_meaning.specs.Programs.{Program}
use Rattle.clu_meaning.specs.Resolving.{components}
use Rattle.clu_meaning.specs.Typed.{type_of_selector}
use Rattle.clu_meaning.specs.Binding.{Running}
use Rattle.clu_checking.specs.Files.{File, item, kind_in}
use Rattle.clu_checking.specs.Headings.{specification}
use Rattle.clu_checking.specs.NameRules.{stands_twice}
use Rattle.clu_checking.specs.Typing.{type_of}
use Rattle.clu_checking.specs.Wanted.{an_object, wanted}
use Rattle.clu_checking.specs.Invocations.{is_object_wanted, invocations}
use Rattle.clu_checking.specs.ExpressionRules.{components_of, component_type, may_be, selectors_of, is_selector_of, has_each, all_components_fit, some_component_misfits, has_misfit, is_misfit, has_other_types, has_other_selectors, has_no_constructor, v17_at}
use Rattle.laws_sound.specs.Raises.{Raise}
use Rattle.laws_sound.specs.Sound.{LawfulBy}
use Rattle.laws_sound.specs.WellTyped.{NamedTypes, each_of_type, type_named, ComponentsFit, FieldsFit, ComponentsHave}
use Rattle.laws_sound.proofs.Transitive.{trans_fits}
use Rattle.laws_accepted.specs.Legal.{Context, are_distinct, is_legal, fields_legal}
use Rattle.laws_accepted.specs.Lawful.{Routines, is_lawful}
use Rattle.laws_accepted.specs.Instances.{AsSpecified}
use Rattle.laws_accepted.specs.Standing.{ExpressionAt}
use Rattle.laws_accepted.proofs.PutIn.{fits_put}
use Rattle.laws_accepted.proofs.OfKinds.{no}
use Rattle.laws_accepted.proofs.FileTexts.{bytes_turned}
use Rattle.laws_accepted.proofs.FoundRuns.{fits_itself}
use Rattle.laws_accepted.proofs.AtNodes.{second_false}
use Rattle.laws_accepted.proofs.ExpressionsTyped.{place, Typed}

abbrev Names : Type 0
Names = List Identifier

abbrev is_in : Names → Identifier → Bool
is_in names s = list_any (bytes_eq s) names

abbrev remove : Identifier → Names → Names
remove s [] = []
remove s (n ∷ ns) = if bytes_eq s n then ns else n ∷ remove s ns

removed_count : (s : Identifier) (names : Names) → is_in names s ≡ true → length names ≡ suc (length (remove s names))
removed_count s [] h = no h
removed_count s (n ∷ ns) h = by (bytes_eq s n) h (λ k. removed_count s ns k)
  where
    by : (b : Bool) → (b || is_in ns s) ≡ true → (is_in ns s ≡ true → length ns ≡ suc (length (remove s ns))) → suc (length ns) ≡ suc (length (if b then ns else n ∷ remove s ns))
    by true h later = refl
    by false h later = ap suc (later h)

-- another name stays
removed_stays : (s t : Identifier) (names : Names) → bytes_eq s t ≡ false → is_in names t ≡ true → is_in (remove s names) t ≡ true
removed_stays s t [] d h = no h
removed_stays s t (n ∷ ns) d h = by (bytes_eq s n) refl (bytes_eq t n) refl h (λ k. removed_stays s t ns d k)
  where
    by : (b : Bool) → bytes_eq s n ≡ b → (c : Bool) → bytes_eq t n ≡ c → (c || is_in ns t) ≡ true → (is_in ns t ≡ true → is_in (remove s ns) t ≡ true) → is_in (if b then ns else n ∷ remove s ns) t ≡ true
    by true e true g h later = no (sym d ∙ as_bytes s t (same_bytes s n e ∙ sym (same_bytes t n g)))
    by true e false g h later = h
    by false e true g h later = ap (λ c. c || is_in (remove s ns) t) g
    by false e false g h later = ap (λ c. c || is_in (remove s ns) t) g ∙ later h

-- what is left stood before
removed_was : (s t : Identifier) (names : Names) → is_in (remove s names) t ≡ true → is_in names t ≡ true
removed_was s t [] h = no h
removed_was s t (n ∷ ns) h = by (bytes_eq s n) h (bytes_eq t n) refl (λ k. removed_was s t ns k)
  where
    by : (b : Bool) → is_in (if b then ns else n ∷ remove s ns) t ≡ true → (c : Bool) → bytes_eq t n ≡ c → (is_in (remove s ns) t ≡ true → is_in ns t ≡ true) → (bytes_eq t n || is_in ns t) ≡ true
    by b h true g later = ap (λ c. c || is_in ns t) g
    by true h false g later = ap (λ c. c || is_in ns t) g ∙ h
    by false h false g later = ap (λ c. c || is_in ns t) g ∙ later (sym (ap (λ c. c || is_in (remove s ns) t) g) ∙ h)

removed_once : (s : Identifier) (names : Names) → stands_twice names ≡ false → (stands_twice (remove s names) ≡ false) × (is_in (remove s names) s ≡ false)
removed_once s [] h = (refl, refl)
removed_once s (n ∷ ns) h =
    let p = or_parts (is_in ns n) (stands_twice ns) h in
    by (bytes_eq s n) refl p (removed_once s ns p.1)
  where
    stays_out : (b : Bool) → is_in (remove s ns) n ≡ b → is_in ns n ≡ false → b ≡ false
    stays_out false e k = refl
    stays_out true e k = no (sym k ∙ removed_was s n ns e)

    by : (b : Bool) → bytes_eq s n ≡ b → (is_in ns n ≡ false) × (stands_twice ns ≡ false) → (stands_twice (remove s ns) ≡ false) × (is_in (remove s ns) s ≡ false) →
        (stands_twice (if b then ns else n ∷ remove s ns) ≡ false) × (is_in (if b then ns else n ∷ remove s ns) s ≡ false)
    by true e p later = (p.1, subst (λ x. is_in ns x ≡ false) (sym (same_bytes s n e)) p.0)
    by false e p later = (or_from (is_in (remove s ns) n) (stands_twice (remove s ns)) (stays_out (is_in (remove s ns) n) refl p.0) later.0, ap (λ c. c || is_in (remove s ns) s) e ∙ later.1)

all_removed : (test : Identifier → Bool) (s : Identifier) (names : Names) → list_all test names ≡ true → list_all test (remove s names) ≡ true
all_removed test s [] h = h
all_removed test s (n ∷ ns) h =
    let p = and_parts (test n) (list_all test ns) h in
    by (bytes_eq s n) p (all_removed test s ns p.1)
  where
    by : (b : Bool) → (test n ≡ true) × (list_all test ns ≡ true) → list_all test (remove s ns) ≡ true → list_all test (if b then ns else n ∷ remove s ns) ≡ true
    by true p later = p.1
    by false p later = and_from (test n) (list_all test (remove s ns)) p.0 later

all_rest : (s : Identifier) (t : CluType) (rest : Fields) (names : Names) → list_all (is_selector_of (field_and s t rest)) names ≡ true → is_in names s ≡ false → list_all (is_selector_of rest) names ≡ true
all_rest s t rest [] h k = refl
all_rest s t rest (n ∷ ns) h k =
    let p = and_parts (is_selector_of (field_and s t rest) n) (list_all (is_selector_of (field_and s t rest)) ns) h in
    let q = or_parts (bytes_eq s n) (is_in ns s) k in
    and_from (is_selector_of rest n) (list_all (is_selector_of rest) ns) (sym (ap is_some (cond-false (bytes_eq s n) (Some t) (component_type rest n) q.0)) ∙ p.0) (all_rest s t rest ns p.1 q.1)

-- a selector that is none of others differs from the first of them
other_first : (s u : Identifier) (t : CluType) (rest : Fields) → is_none (type_of_selector (field_and u t rest) s) ≡ true → (bytes_eq u s ≡ false) × (is_none (type_of_selector rest s) ≡ true)
other_first s u t rest h = by (bytes_eq u s) h
  where
    by : (b : Bool) → is_none (if b then Some t else type_of_selector rest s) ≡ true → (b ≡ false) × (is_none (type_of_selector rest s) ≡ true)
    by true h = no h
    by false h = (refl, h)

each_removed : (s : Identifier) (rest : Fields) (names : Names) → is_none (type_of_selector rest s) ≡ true → has_each rest names ≡ true → has_each rest (remove s names) ≡ true
each_removed s no_fields names d h = refl
each_removed s (field_and u t rest) names d h =
    let p = and_parts (is_in names u) (has_each rest names) h in
    let q = other_first s u t rest d in
    and_from (is_in (remove s names) u) (has_each rest (remove s names)) (removed_stays s u names (bytes_turned s u ∙ q.0) p.0) (each_removed s rest names q.1 p.1)

-- as many names as selectors, where each stands once
count_is : (fs : Fields) (names : Names) → are_distinct fs ≡ true → stands_twice names ≡ false → list_all (is_selector_of fs) names ≡ true → has_each fs names ≡ true → length names ≡ selectors fs
count_is no_fields [] d o a h = refl
count_is no_fields (n ∷ ns) d o a h = no a
count_is (field_and s t rest) names d o a h =
    let p = and_parts (is_none (type_of_selector rest s)) (are_distinct rest) d in
    let q = and_parts (is_in names s) (has_each rest names) h in
    let r = removed_once s names o in
    removed_count s names q.0 ∙ ap suc (count_is rest (remove s names) p.1 r.0 (all_rest s t rest (remove s names) (all_removed (is_selector_of (field_and s t rest)) s names a) r.1) (each_removed s rest names p.0 q.1))

selectors_put : (given : Actuals) (fs : Fields) → selectors (fields_substituted given fs) ≡ selectors fs
selectors_put given no_fields = refl
selectors_put given (field_and s t fs) = ap suc (selectors_put given fs)

-- ---- the type of each selector

abbrev Agrees : Fields → Fields → Type 0
Agrees fs no_fields = Unit {0}
Agrees fs (field_and s t rest) = (component_type fs s ≡ Some t) × Agrees fs rest

agrees_behind : (s : Identifier) (t : CluType) (fs gs : Fields) → is_none (type_of_selector gs s) ≡ true → Agrees fs gs → Agrees (field_and s t fs) gs
agrees_behind s t fs no_fields d a = tt
agrees_behind s t fs (field_and u v gs) d a =
    let q = other_first s u v gs d in
    (cond-false (bytes_eq s u) (Some t) (component_type fs u) (bytes_turned s u ∙ q.0) ∙ a.0, agrees_behind s t fs gs q.1 a.1)

agrees : (fs : Fields) → are_distinct fs ≡ true → Agrees fs fs
agrees no_fields d = tt
agrees (field_and s t rest) d =
    let p = and_parts (is_none (type_of_selector rest s)) (are_distinct rest) d in
    (cond-true (bytes_eq s s) (Some t) (component_type rest s) (as_bytes s s refl), agrees_behind s t rest rest p.0 (agrees rest p.1))

named_front : (names : Names) (u : CluType) (rest : NamedTypes) (s : Identifier) → is_in names s ≡ true → type_named (each_of_type names u ++ rest) s ≡ Some u
named_front [] u rest s h = no h
named_front (n ∷ ns) u rest s h = by (bytes_eq s n) refl h (λ k. named_front ns u rest s k)
  where
    by : (b : Bool) → bytes_eq s n ≡ b → (b || is_in ns s) ≡ true → (is_in ns s ≡ true → type_named (each_of_type ns u ++ rest) s ≡ Some u) → (if bytes_eq n s then Some u else type_named (each_of_type ns u ++ rest) s) ≡ Some u
    by true e h later = cond-true (bytes_eq n s) (Some u) (type_named (each_of_type ns u ++ rest) s) (bytes_turned n s ∙ e)
    by false e h later = cond-false (bytes_eq n s) (Some u) (type_named (each_of_type ns u ++ rest) s) (bytes_turned n s ∙ e) ∙ later h

named_behind : (names : Names) (u : CluType) (rest : NamedTypes) (s : Identifier) → is_in names s ≡ false → type_named (each_of_type names u ++ rest) s ≡ type_named rest s
named_behind [] u rest s h = refl
named_behind (n ∷ ns) u rest s h =
    let p = or_parts (bytes_eq s n) (is_in ns s) h in
    cond-false (bytes_eq n s) (Some u) (type_named (each_of_type ns u ++ rest) s) (bytes_turned n s ∙ p.0) ∙ named_behind ns u rest s p.1

count_front : (names : Names) (u : CluType) (rest : NamedTypes) (more : Names) → length rest ≡ length more → length (each_of_type names u ++ rest) ≡ length (names ++ more)
count_front [] u rest more e = e
count_front (n ∷ ns) u rest more e = ap suc (count_front ns u rest more e)

in_parts : (xs ys : Names) (s : Identifier) → is_in (xs ++ ys) s ≡ true → is_in xs s ≡ false → is_in ys s ≡ true
in_parts [] ys s h k = h
in_parts (x ∷ xs) ys s h k =
    let p = or_parts (bytes_eq s x) (is_in xs s) k in
    in_parts xs ys s (sym (ap (λ c. c || is_in (xs ++ ys) s) p.0) ∙ h) p.1

all_in : (test : Identifier → Bool) (names : Names) (s : Identifier) → list_all test names ≡ true → is_in names s ≡ true → test s ≡ true
all_in test [] s a h = no h
all_in test (n ∷ ns) s a h =
    let p = and_parts (test n) (list_all test ns) a in
    elim (or_cases (bytes_eq s n) (is_in ns s) h) [
      | inl e ↦ subst (λ x. test x ≡ true) (sym (same_bytes s n e)) p.0
      | inr k ↦ all_in test ns s p.1 k
    ]

module _ (f : File) (program : Program) (routines : Routines) (s : AsSpecified f program routines) (r : Running) (home : Option CluType) (context : Context) (rs : List Raise) where
  abbrev Here : ℕ → NodeKind → Expression → Type 0
  Here n k e = ExpressionAt f routines r home context n k an_object e

  abbrev Gives : Expression → Type 0
  Gives e = Typed f program routines s r home context rs e

  abbrev To : CluType → CluType
  To t = substituted r.given t

  -- an object for the selectors of each component
  abbrev pub ComponentsGive : Components → Type 0
  ComponentsGive no_components = Unit {0}
  ComponentsGive (component_and n names e cs) = Gives e × ComponentsGive cs

  abbrev chosen : (cs : Components) → ComponentsGive cs → NamedTypes
  chosen no_components g = []
  chosen (component_and n names e cs) g = each_of_type names g.0.own ++ chosen cs g.1

  chosen_have : (cs : Components) (g : ComponentsGive cs) → ComponentsHave program (LawfulBy (is_lawful (specification f) routines)) r rs (components (place f program routines s r home context rs) cs) (chosen cs g)
  chosen_have no_components g = refl
  chosen_have (component_and n names e cs) g = (g.0.own, chosen cs g.1, g.0.typed, chosen_have cs g.1, refl)

  chosen_count : (cs : Components) (g : ComponentsGive cs) → length (chosen cs g) ≡ length (selectors_of cs)
  chosen_count no_components g = refl
  chosen_count (component_and n names e cs) g = count_front names g.0.own (chosen cs g.1) (selectors_of cs) (chosen_count cs g.1)

  -- the object of a selector is included in the selector's type
  chosen_fits : (fs : Fields) (name : Identifier) (t : CluType) → component_type fs name ≡ Some t → (cs : Components) (g : ComponentsGive cs) → is_in (selectors_of cs) name ≡ true → all_components_fit f fs cs ≡ true →
      (u : CluType) × (type_named (chosen cs g) name ≡ Some u) × (fits u (To t) ≡ true)
  chosen_fits fs name t e no_components g h a = no h
  chosen_fits fs name t e (component_and n names x cs) g h a =
      let p = and_parts (list_all (λ name. may_be (type_of f x) (component_type fs name)) names) (all_components_fit f fs cs) a in
      by (is_in names name) refl p.0 (λ k. chosen_fits fs name t e cs g.1 k p.1)
    where
      by : (b : Bool) → is_in names name ≡ b → list_all (λ name. may_be (type_of f x) (component_type fs name)) names ≡ true → (is_in (selectors_of cs) name ≡ true → (u : CluType) × (type_named (chosen cs g.1) name ≡ Some u) × (fits u (To t) ≡ true)) →
          (u : CluType) × (type_named (each_of_type names g.0.own ++ chosen cs g.1) name ≡ Some u) × (fits u (To t) ≡ true)
      by true i p later =
          let q : may_be (type_of f x) (component_type fs name) ≡ true = all_in (λ name. may_be (type_of f x) (component_type fs name)) names name p i in
          let k : fits g.0.type t ≡ true = subst (λ o. may_be (Some g.0.type) o ≡ true) e (subst (λ o. may_be o (component_type fs name) ≡ true) g.0.is q) in
          (g.0.own, named_front names g.0.own (chosen cs g.1) name i, trans_fits g.0.own (To g.0.type) (To t) g.0.fit (fits_put r.given g.0.type t k))
      by false i p later =
          let k = later (in_parts names (selectors_of cs) name h i) in
          (k.0, named_behind names g.0.own (chosen cs g.1) name i ∙ k.1, k.2)

  each_fits : (fs gs : Fields) → Agrees fs gs → (cs : Components) (g : ComponentsGive cs) → has_each gs (selectors_of cs) ≡ true → all_components_fit f fs cs ≡ true → ComponentsFit (fields_substituted r.given gs) (chosen cs g)
  each_fits fs no_fields a cs g h k = tt
  each_fits fs (field_and name t gs) a cs g h k =
      let p = and_parts (is_in (selectors_of cs) name) (has_each gs (selectors_of cs)) h in
      (chosen_fits fs name t a.0 cs g p.0 k, each_fits fs gs a.1 cs g p.1 k)

  all_fit_fields : (fs : Fields) (cs : Components) (g : ComponentsGive cs) → are_distinct fs ≡ true → stands_twice (selectors_of cs) ≡ false → has_other_selectors f (Some fs) (selectors_of cs) ≡ false → some_component_misfits f (Some fs) cs ≡ false →
      (nat_eq (length (chosen cs g)) (selectors (fields_substituted r.given fs)) ≡ true) × ComponentsFit (fields_substituted r.given fs) (chosen cs g)
  all_fit_fields fs cs g d o h m =
      let p = and_parts (list_all (is_selector_of fs) (selectors_of cs)) (has_each fs (selectors_of cs)) (not-false (list_all (is_selector_of fs) (selectors_of cs) && has_each fs (selectors_of cs)) h) in (
        eq-eqb (length (chosen cs g)) (selectors (fields_substituted r.given fs)) (chosen_count cs g ∙ count_is fs (selectors_of cs) d o p.0 p.1 ∙ sym (selectors_put r.given fs)),
        each_fits fs fs (agrees fs d) cs g p.1 (not-false (all_components_fit f fs cs) m),
      )

  fields_fit : (T : CluType) (cs : Components) (g : ComponentsGive cs) → is_legal context (specification f) T ≡ true → stands_twice (selectors_of cs) ≡ false → has_other_selectors f (components_of T) (selectors_of cs) ≡ false → some_component_misfits f (components_of T) cs ≡ false →
      FieldsFit (To T) (chosen cs g)
  fields_fit (struct_of fs) cs g l o h m = all_fit_fields fs cs g (and_parts (are_distinct fs) (fields_legal context (specification f) fs) l).0 o h m
  fields_fit (record_of fs) cs g l o h m = all_fit_fields fs cs g (and_parts (are_distinct fs) (fields_legal context (specification f) fs) l).0 o h m
  fields_fit _ cs g l o h m = no (sym h)

  -- t${a: e}
  pub fields_typed : (n : ℕ) (t : TypeExpression) (cs : Components) → Here n kind.Fields (fields n t cs) → is_legal context (specification f) (type_settled f.scope t) ≡ true → stands_twice (selectors_of cs) ≡ false → ComponentsGive cs → Gives (fields n t cs)
  fields_typed n t cs x l o g =
      let constructed : has_no_constructor f (fields n t cs) ≡ false = sym (ap (has_no_constructor f) x.is) ∙ second_false (is_object_wanted (wanted f n)) (has_no_constructor f (item f n).expression) (ap is_object_wanted x.wants) (sym (ap (λ k. v17_at f k n) x.stands.kind) ∙ x.stands.rules rule.Selectors) in
      let here = (or_parts (list_any has_other_types (invocations f n)) (is_misfit f (kind_in f n) n) (x.stands.rules rule.ArgumentType)).1 in
      let fitting : has_misfit f (fields n t cs) ≡ false = sym (ap (has_misfit f) x.is) ∙ second_false (is_object_wanted (wanted f n)) (has_misfit f (item f n).expression) (ap is_object_wanted x.wants) (sym (ap (λ k. is_misfit f k n) x.stands.kind) ∙ here) in
      record {
        type = type_settled f.scope t;
        is = refl;
        legal = l;
        own = To (type_settled f.scope t);
        typed = (chosen cs g, chosen_have cs g, fields_fit (type_settled f.scope t) cs g l o constructed fitting, refl);
        fit = fits_itself (To (type_settled f.scope t));
      }
