-- Names are one word just if they are equal, where all of them are numbered.
use Rattle.std.proofs.Common.{◌≡◌, ◌∙◌, ◌⊎◌, ℕ, zero, suc, ◌+◌, ◌<◌, ◌≤◌, nat_lt, Bool, true, false, not, ◌&&◌, ◌||◌, ◌==◌, cond, List, [], ◌∷◌, ◌++◌, length, slice_get, if◌then◌else◌, bytes_eq, Some, None, inl, inr, refl, sym, ap, arith}
use Rattle.std.specs.Prelude.{unwrap_or}
use Rattle.std.specs.List.{list_any, prefix_len}
use Rattle.std.proofs.lemmas.Bool.{true≢false, eqb-true, eqb-false, eq-eqb, ne_eqb, cases_lt, lt-ltb, le-ltb, and_parts, and_from, or_left, or_right}
use Rattle.std.proofs.lemmas.List.Folds.{list_any-append}
use Rattle.std.proofs.lemmas.Slice.Eq.{bytes_eq-Decides}
use Rattle.clu_tree.specs.declared.node.Node.{Node}
use Rattle.clu_settle.specs.Names.{names_of}
use Rattle.clu_checking.specs.NameRules.{stands_twice}
use Rattle.clu_name_rules.specs.Words.{number_of, with_name, with_names, words_to}
use Rattle.clu_passes.proofs.Noted.{same_word, stand_twice}

-- the name is numbered
abbrev pub is_known : List (List ℕ) → List ℕ → Bool
is_known all name = list_any (bytes_eq name) all

abbrev pub are_known : List (List ℕ) → List (List ℕ) → Bool
are_known all [] = true
are_known all (name ∷ names) = is_known all name && are_known all names

module _ {X : Type 0} (p : X → Bool) where
  prefix_most : (xs : List X) → prefix_len p xs ≤ length xs
  prefix_most [] = omega arith
  prefix_most (x ∷ xs) = by (prefix_most xs) (p x)
    where
      by : prefix_len p xs ≤ length xs → (b : Bool) → cond b (1 + prefix_len p xs) 0 ≤ length (x ∷ xs)
      by rest true = omega (arith, rest)
      by rest false = omega arith

  or_behind : (k n : ℕ) → k ≤ n → unwrap_or (cond (nat_lt k n) (Some k) None) n ≡ k
  or_behind k n most = by (cases_lt k n)
    where
      by : (k < n) ⊎ (n ≤ k) → unwrap_or (cond (nat_lt k n) (Some k) None) n ≡ k
      by (inl less) = ap (λ (b : Bool). unwrap_or (cond b (Some k) None) n) (lt-ltb k n less)
      by (inr more) = ap (λ (b : Bool). unwrap_or (cond b (Some k) None) n) (le-ltb k n more) ∙ omega (arith, most, more)

module _ (all : List (List ℕ)) where
  abbrev place : List ℕ → List (List ℕ) → ℕ
  place name xs = prefix_len (λ x. not (bytes_eq name x)) xs

  number_is : (name : List ℕ) → number_of all name ≡ place name all
  number_is name = or_behind (λ (x : List ℕ). not (bytes_eq name x)) (place name all) (length all) (prefix_most (λ x. not (bytes_eq name x)) all)

  same_place : (xs : List (List ℕ)) (a b : List ℕ) → list_any (bytes_eq a) xs ≡ true → place a xs ≡ place b xs → a ≡ b
  same_place [] a b known e = absurd (true≢false (sym known))
  same_place (x ∷ xs) a b known e = by (λ h g. same_place xs a b h g) (bytes_eq a x) refl (bytes_eq b x) refl
    where
      step : (name : List ℕ) (t : Bool) → bytes_eq name x ≡ t → place name (x ∷ xs) ≡ cond (not t) (1 + place name xs) 0
      step name t is = ap (λ (t : Bool). cond (not t) (1 + place name xs) 0) is

      by : (list_any (bytes_eq a) xs ≡ true → place a xs ≡ place b xs → a ≡ b) → (s : Bool) → bytes_eq a x ≡ s → (t : Bool) → bytes_eq b x ≡ t → a ≡ b
      by rest true i true j = (bytes_eq-Decides a x).0 i ∙ sym ((bytes_eq-Decides b x).0 j)
      by rest true i false j =
          let left : place a (x ∷ xs) ≡ 0 = step a true i in
          let right : place b (x ∷ xs) ≡ 1 + place b xs = step b false j in
          absurd (omega (arith, left, right, e))
      by rest false i true j =
          let left : place a (x ∷ xs) ≡ 1 + place a xs = step a false i in
          let right : place b (x ∷ xs) ≡ 0 = step b true j in
          absurd (omega (arith, left, right, e))
      by rest false i false j =
          let left : place a (x ∷ xs) ≡ 1 + place a xs = step a false i in
          let right : place b (x ∷ xs) ≡ 1 + place b xs = step b false j in
          rest (ap (λ (t : Bool). t || list_any (bytes_eq a) xs) (sym i) ∙ known) (omega (arith, left, right, e))

  pub word_is : (a b : List ℕ) → is_known all a ≡ true → same_word all a b ≡ bytes_eq a b
  word_is a b known = by (bytes_eq a b) refl
    where
      by : (t : Bool) → bytes_eq a b ≡ t → same_word all a b ≡ t
      by true is = eq-eqb (number_of all a) (number_of all b) (ap (number_of all) ((bytes_eq-Decides a b).0 is))
      by false is = ne_eqb (number_of all a) (number_of all b) (λ e. true≢false (sym ((bytes_eq-Decides a b).1 (same_place all a b known (sym (number_is a) ∙ e ∙ number_is b))) ∙ is))

  pub equal_turned : (a b : ℕ) → (a == b) ≡ (b == a)
  equal_turned a b = by (a == b) refl
    where
      by : (t : Bool) → (a == b) ≡ t → t ≡ (b == a)
      by true is = sym (eq-eqb b a (sym (eqb-true a b is)))
      by false is = sym (ne_eqb b a (λ e. eqb-false a b is (sym e)))

  pub turned_is : (a b : List ℕ) → is_known all a ≡ true → same_word all b a ≡ bytes_eq a b
  turned_is a b known = equal_turned (number_of all b) (number_of all a) ∙ word_is a b known

  any_word : (a : List ℕ) → is_known all a ≡ true → (names : List (List ℕ)) → list_any (same_word all a) names ≡ list_any (bytes_eq a) names
  any_word a known [] = refl
  any_word a known (b ∷ names) = ap (λ (t : Bool). t || list_any (same_word all a) names) (word_is a b known) ∙ ap (λ (t : Bool). bytes_eq a b || t) (any_word a known names)

  pub any_turned : (a : List ℕ) → is_known all a ≡ true → (names : List (List ℕ)) → list_any (λ b. same_word all b a) names ≡ list_any (bytes_eq a) names
  any_turned a known [] = refl
  any_turned a known (b ∷ names) =
      ap (λ (t : Bool). t || list_any (λ b. same_word all b a) names) (turned_is a b known) ∙ ap (λ (t : Bool). bytes_eq a b || t) (any_turned a known names)

  pub twice_is : (names : List (List ℕ)) → are_known all names ≡ true → stand_twice all names ≡ stands_twice names
  twice_is [] known = refl
  twice_is (name ∷ names) known =
      let parts = and_parts (is_known all name) (are_known all names) known in
      ap (λ (t : Bool). t || stand_twice all names) (any_word name parts.0 names) ∙ ap (λ (t : Bool). list_any (bytes_eq name) names || t) (twice_is names parts.1)

-- ---- the names of a tree are numbered

known_more : (all : List (List ℕ)) (name x : List ℕ) → is_known all x ≡ true → is_known (with_name all name) x ≡ true
known_more all name x known = by (list_any (bytes_eq name) all)
  where
    by : (b : Bool) → is_known (if b then all else all ++ name ∷ []) x ≡ true
    by true = known
    by false = list_any-append (bytes_eq x) all (name ∷ []) ∙ or_left (is_known all x) (is_known (name ∷ []) x) known

known_new : (all : List (List ℕ)) (name : List ℕ) → is_known (with_name all name) name ≡ true
known_new all name = by (list_any (bytes_eq name) all) refl
  where
    by : (b : Bool) → list_any (bytes_eq name) all ≡ b → is_known (if b then all else all ++ name ∷ []) name ≡ true
    by true is = is
    by false is =
        list_any-append (bytes_eq name) all (name ∷ [])
        ∙ or_right (is_known all name) (is_known (name ∷ []) name) (or_left (bytes_eq name name) false ((bytes_eq-Decides name name).1 refl))

names_more : (all names : List (List ℕ)) (x : List ℕ) → is_known all x ≡ true → is_known (with_names all names) x ≡ true
names_more all [] x known = known
names_more all (name ∷ names) x known = names_more (with_name all name) names x (known_more all name x known)

names_new : (all names : List (List ℕ)) → are_known (with_names all names) names ≡ true
names_new all [] = refl
names_new all (name ∷ names) = and_from (is_known (with_names all (name ∷ names)) name) (are_known (with_names all (name ∷ names)) names) (names_more (with_name all name) names name (known_new all name)) (names_new (with_name all name) names)

module _ (nodes : List Node) where
  abbrev names_at : ℕ → List (List ℕ)
  names_at n = names_of (slice_get nodes n)

  all_more : (all more names : List (List ℕ)) → are_known all names ≡ true → are_known (with_names all more) names ≡ true
  all_more all more [] known = refl
  all_more all more (name ∷ names) known =
      let parts = and_parts (is_known all name) (are_known all names) known in
      and_from (is_known (with_names all more) name) (are_known (with_names all more) names) (names_more all more name parts.0) (all_more all more names parts.1)

  pub nodes_known : (l n : ℕ) → n < l → are_known (words_to nodes l) (names_at n) ≡ true
  nodes_known zero n less = absurd (omega (arith, less))
  nodes_known (suc l) n less = by (λ more. nodes_known l n more) (cases_lt n l)
    where
      by : (n < l → are_known (words_to nodes l) (names_at n) ≡ true) → (n < l) ⊎ (l ≤ n) → are_known (words_to nodes (suc l)) (names_at n) ≡ true
      by rest (inl more) = all_more (words_to nodes l) (names_at l) (names_at n) (rest more)
      by rest (inr last) =
          let same : n ≡ l = omega (arith, less, last) in
          ap (λ (j : ℕ). are_known (words_to nodes (suc l)) (names_at j)) same ∙ names_new (words_to nodes l) (names_at l)
