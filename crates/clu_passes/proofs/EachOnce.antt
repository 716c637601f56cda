-- The names of several nodes, one after the other, have none twice if no node has one twice, or one that stands before it.
use Rattle.std.proofs.Common.{◌≡◌, ◌∙◌, ℕ, Bool, true, false, ◌||◌, not, ◌==◌, if◌then◌else◌, List, [], ◌∷◌, ◌++◌, flat_map, bytes_eq, refl, sym, ap, subst, append_assoc, append-nil}
use Rattle.std.specs.List.{list_any}
use Rattle.std.proofs.lemmas.Bool.{true≢false, eq-eqb, ne_eqb, and_parts, not-true, or_left, or_parts, or_right, or_from}
use Rattle.std.proofs.lemmas.Cmp.{nat_list_eq_equiv}
use Rattle.std.proofs.lemmas.List.Folds.{list_any-append}
use Rattle.clu_syntax.specs.Syntax.{Identifier}
use Rattle.clu_checking.specs.NameRules.{stands_twice, before_in}
use Rattle.clu_passes.specs.Notes.{has, each_once}
use Rattle.clu_passes.proofs.Noted.{any_same}

none_either : (p q : Identifier → Bool) (xs : List Identifier) → list_any (λ x. p x || q x) xs ≡ false → (list_any p xs ≡ false) × (list_any q xs ≡ false)
none_either p q [] e = (refl, refl)
none_either p q (x ∷ xs) e =
    let both = or_parts (p x || q x) (list_any (λ x. p x || q x) xs) e in
    let here = or_parts (p x) (q x) both.0 in
    let rest = none_either p q xs both.1 in
    (or_from (p x) (list_any p xs) here.0 rest.0, or_from (q x) (list_any q xs) here.1 rest.1)

-- one of the names is among those before
abbrev pub some_before : List Identifier → List Identifier → Bool
some_before before names = list_any (λ name. list_any (bytes_eq name) before) names

fewer : (before more names : List Identifier) → some_before (before ++ more) names ≡ false → (some_before before names ≡ false) × (some_before more names ≡ false)
fewer before more names e =
    none_either (λ name. list_any (bytes_eq name) before) (λ name. list_any (bytes_eq name) more) names
    (sym (any_same (λ name. list_any (bytes_eq name) (before ++ more)) (λ name. list_any (bytes_eq name) before || list_any (bytes_eq name) more) (λ name. list_any-append (bytes_eq name) before more) names) ∙ e)

joined : (xs ys : List Identifier) → stands_twice xs ≡ false → stands_twice ys ≡ false → some_before xs ys ≡ false → stands_twice (xs ++ ys) ≡ false
joined [] ys once_x once_y apart = once_y
joined (x ∷ xs) ys once_x once_y apart =
    let first = or_parts (list_any (bytes_eq x) xs) (stands_twice xs) once_x in
    let parts = none_either (λ y. bytes_eq y x) (λ y. list_any (bytes_eq y) xs) ys apart in
    let none : list_any (bytes_eq x) ys ≡ false = any_same (bytes_eq x) (λ y. bytes_eq y x) (λ y. nat_list_eq_equiv.symm x y) ys ∙ parts.0 in
    or_from (list_any (bytes_eq x) (xs ++ ys)) (stands_twice (xs ++ ys))
    (list_any-append (bytes_eq x) xs ys ∙ or_from (list_any (bytes_eq x) xs) (list_any (bytes_eq x) ys) first.0 none)
    (joined xs ys first.1 once_y parts.1)

-- ---- a list that has each node once

has_middle : (fs : List ℕ) (c : ℕ) (cs : List ℕ) → has c (fs ++ c ∷ cs) ≡ true
has_middle fs c cs = list_any-append (λ m. m == c) fs (c ∷ cs) ∙ or_right (has c fs) (has c (c ∷ cs)) (or_left (c == c) (has c cs) (eq-eqb c c refl))

front_is : (fs : List ℕ) (c : ℕ) (cs : List ℕ) → each_once (fs ++ c ∷ cs) ≡ true → before_in (fs ++ c ∷ cs) c ≡ fs
front_is [] c cs once = ap (λ (b : Bool). if◌then◌else◌ {A = List ℕ} b [] (c ∷ before_in cs c)) (eq-eqb c c refl)
front_is (d ∷ fs) c cs once =
    let parts = and_parts (not (has d (fs ++ c ∷ cs))) (each_once (fs ++ c ∷ cs)) once in
    let none : has d (fs ++ c ∷ cs) ≡ false = not-true (has d (fs ++ c ∷ cs)) parts.0 in
    let apart : (d == c) ≡ false = ne_eqb d c (λ e. true≢false (sym (has_middle fs c cs) ∙ ap (λ (m : ℕ). has m (fs ++ c ∷ cs)) (sym e) ∙ none)) in
    ap (λ (b : Bool). if◌then◌else◌ {A = List ℕ} b [] (d ∷ before_in (fs ++ c ∷ cs) c)) apart
    ∙ ap (λ (xs : List ℕ). d ∷ xs) (front_is fs c cs parts.1)

module _ (names : ℕ → List Identifier) where
  -- none of them stands twice, or before
  abbrev AreFresh : List Identifier → List ℕ → Type 0
  AreFresh before [] = Unit {0}
  AreFresh before (c ∷ cs) = (stands_twice (names c) ≡ false) × ((some_before before (names c) ≡ false) × AreFresh (before ++ names c) cs)

  apart : (before : List Identifier) (cs : List ℕ) → AreFresh before cs → some_before before (flat_map names cs) ≡ false
  apart before [] fresh = refl
  apart before (c ∷ cs) fresh =
      list_any-append (λ name. list_any (bytes_eq name) before) (names c) (flat_map names cs)
      ∙ or_from (some_before before (names c)) (some_before before (flat_map names cs)) fresh.1.0 (fewer before (names c) (flat_map names cs) (apart (before ++ names c) cs fresh.1.1)).0

  once_all : (before : List Identifier) (cs : List ℕ) → AreFresh before cs → stands_twice (flat_map names cs) ≡ false
  once_all before [] fresh = refl
  once_all before (c ∷ cs) fresh =
      joined (names c) (flat_map names cs) fresh.0 (once_all (before ++ names c) cs fresh.1.1) (fewer before (names c) (flat_map names cs) (apart (before ++ names c) cs fresh.1.1)).1

  -- the names of a node of the list stand neither twice at it nor at one before it
  abbrev pub IsFresh : List ℕ → ℕ → Type 0
  IsFresh all c = (stands_twice (names c) ≡ false) × (some_before (flat_map names (before_in all c)) (names c) ≡ false)

  one_more : (fs : List ℕ) (c : ℕ) → flat_map names (fs ++ c ∷ []) ≡ flat_map names fs ++ names c
  one_more [] c = append-nil (names c)
  one_more (f ∷ fs) c = ap (λ (xs : List Identifier). names f ++ xs) (one_more fs c) ∙ sym (append_assoc (names f) (flat_map names fs) (names c))

  fresh_from : (fs cs all : List ℕ) → fs ++ cs ≡ all → each_once all ≡ true → ((c : ℕ) → has c all ≡ true → IsFresh all c) → AreFresh (flat_map names fs) cs
  fresh_from fs [] all e once each = tt
  fresh_from fs (c ∷ cs) all e once each =
      let here : has c all ≡ true = ap (has c) (sym e) ∙ has_middle fs c cs in
      let its : IsFresh all c = each c here in
      let front : before_in all c ≡ fs = ap (λ (xs : List ℕ). before_in xs c) (sym e) ∙ front_is fs c cs (ap each_once e ∙ once) in (
        its.0,
        (
          ap (λ (xs : List ℕ). some_before (flat_map names xs) (names c)) (sym front) ∙ its.1,
          subst (λ (before : List Identifier). AreFresh before cs) (one_more fs c) (fresh_from (fs ++ c ∷ []) cs all (append_assoc fs (c ∷ []) cs ∙ e) once each),
        ),
      )

  pub stand_once : (all : List ℕ) → each_once all ≡ true → ((c : ℕ) → has c all ≡ true → IsFresh all c) → stands_twice (flat_map names all) ≡ false
  stand_once all once each = once_all [] all (fresh_from [] all all refl once each)
