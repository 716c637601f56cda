-- A test of each raise of some names, where the set of raises is that of the definition.
use Rattle.std.proofs.Common.{◌≡◌, ◌∙◌, ◌+◌, ◌≤◌, ℕ, Bool, true, false, ◌||◌, cond, filter, List, [], ◌∷◌, bytes_eq, Option, Some, None, inl, inr, refl, sym, ap, subst, arith}
use Rattle.std.specs.Prelude.{position}
use Rattle.std.specs.List.{list_any, list_all, position_from}
use Rattle.std.proofs.lemmas.Bool.{true≢false, and_parts, and_from, or_left, or_right, eq-eqb, eqb-true}
use Rattle.std.proofs.lemmas.Iterator.Adapters.{position_from-zero}
use Rattle.std.proofs.lemmas.Option.{none-some, same_Some}
use Rattle.std.proofs.lemmas.Slice.Eq.{bytes_eq-Decides}
use Rattle.clu_base.proofs.Bools.{same_truth}
use Rattle.clu_syntax.specs.Syntax.{Identifier}
use Rattle.clu_operations.specs.declared.words.NameId.{NameId}
use Rattle.clu_operations.specs.Words.{id_of, named}
use Rattle.clu_typing.specs.declared.raising.Raise.{Raise}
use Rattle.clu_typing.specs.declared.raising.RaisesId.{RaisesId}
use Rattle.clu_typing.specs.Raised.{raises_of, is_of}
use Rattle.clu_checking.specs.Raising as definition
use Rattle.clu_checking.specs.Raising.{is_named}
use Rattle.clu_type_rules.specs.declared.known.Known.{Known}
use Rattle.clu_type_rules.specs.ExceptionRules.{raised_in, raised_if}
use Rattle.clu_passes.specs.TableRaises.{IsAmong, IsRaise, AreSame}

-- ---- members of lists

all_at : {A : Type 0} (p : A → Bool) (xs : List A) → list_all p xs ≡ true → (x : A) → IsAmong x xs → p x ≡ true
all_at p [] all x i = absurd i
all_at p (y ∷ ys) all x (inl e) = ap p e ∙ (and_parts (p y) (list_all p ys) all).0
all_at p (y ∷ ys) all x (inr i) = all_at p ys (and_parts (p y) (list_all p ys) all).1 x i

all_by : {A : Type 0} (p : A → Bool) (xs : List A) → ((x : A) → IsAmong x xs → p x ≡ true) → list_all p xs ≡ true
all_by p [] each = refl
all_by p (y ∷ ys) each = and_from (p y) (list_all p ys) (each y (inl refl)) (all_by p ys (λ x i. each x (inr i)))

among_filter : {A : Type 0} (p : A → Bool) (xs : List A) (x : A) → IsAmong x xs → p x ≡ true → IsAmong x (filter p xs)
among_filter p [] x i h = i
among_filter p (y ∷ ys) x i h = by (p y) refl i (λ j. among_filter p ys x j h)
  where
    by : (b : Bool) → p y ≡ b → IsAmong x (y ∷ ys) → (IsAmong x ys → IsAmong x (filter p ys)) → IsAmong x (cond b (y ∷ filter p ys) (filter p ys))
    by true e (inl same) rest = inl same
    by true e (inr j) rest = inr (rest j)
    by false e (inl same) rest = absurd (true≢false (sym h ∙ ap p same ∙ e))
    by false e (inr j) rest = rest j

filter_among : {A : Type 0} (p : A → Bool) (xs : List A) (x : A) → IsAmong x (filter p xs) → IsAmong x xs × (p x ≡ true)
filter_among p [] x i = absurd i
filter_among p (y ∷ ys) x i = by (p y) refl i (λ j. filter_among p ys x j)
  where
    by : (b : Bool) → p y ≡ b → IsAmong x (cond b (y ∷ filter p ys) (filter p ys)) → (IsAmong x (filter p ys) → IsAmong x ys × (p x ≡ true)) → IsAmong x (y ∷ ys) × (p x ≡ true)
    by true e (inl same) rest = (inl same, ap p same ∙ e)
    by true e (inr j) rest = let its = rest j in (inr its.0, its.1)
    by false e j rest = let its = rest j in (inr its.0, its.1)

-- one of the names is this one
one_of : (a : Identifier) (names : List Identifier) → list_any (bytes_eq a) names ≡ true → (name : Identifier) × (IsAmong name names × (a ≡ name))
one_of a [] e = absurd (true≢false (sym e))
one_of a (name ∷ names) e = by (bytes_eq a name) refl e (λ more. one_of a names more)
  where
    by : (b : Bool) → bytes_eq a name ≡ b → (b || list_any (bytes_eq a) names) ≡ true → (list_any (bytes_eq a) names ≡ true → (other : Identifier) × (IsAmong other names × (a ≡ other))) → (other : Identifier) × (IsAmong other (name ∷ names) × (a ≡ other))
    by true same e rest = (name, (inl refl, (bytes_eq-Decides a name).0 same))
    by false same e rest = let its = rest e in (its.0, (inr its.1.0, its.1.1))

among_any : (a name : Identifier) (names : List Identifier) → a ≡ name → IsAmong name names → list_any (bytes_eq a) names ≡ true
among_any a name [] e i = absurd i
among_any a name (other ∷ names) e (inl same) = or_left (bytes_eq a other) (list_any (bytes_eq a) names) ((bytes_eq-Decides a other).1 (e ∙ same))
among_any a name (other ∷ names) e (inr i) = or_right (bytes_eq a other) (list_any (bytes_eq a) names) (among_any a name names e i)

-- ---- names of one number are the same

at_least : (p : List ℕ → Bool) (m i : ℕ) (xs : List (List ℕ)) → position_from p m xs ≡ Some i → m ≤ i
at_least p m i [] e = absurd (none-some i e)
at_least p m i (x ∷ xs) e = by (p x) e (at_least p (m + 1) i xs)
  where
    by : (b : Bool) → cond b (Some m) (position_from p (m + 1) xs) ≡ Some i → (position_from p (m + 1) xs ≡ Some i → m + 1 ≤ i) → m ≤ i
    by true e rest = let same : m ≡ i = same_Some m i e in omega (arith, same)
    by false e rest = let more : m + 1 ≤ i = rest e in omega (arith, more)

same_from : (a b : List ℕ) (m i : ℕ) (xs : List (List ℕ)) → position_from (bytes_eq a) m xs ≡ Some i → position_from (bytes_eq b) m xs ≡ Some i → a ≡ b
same_from a b m i [] e g = absurd (none-some i e)
same_from a b m i (x ∷ xs) e g = by (bytes_eq a x) refl (bytes_eq b x) refl e g (λ e g. same_from a b (m + 1) i xs e g)
  where
    by : (s : Bool) → bytes_eq a x ≡ s → (t : Bool) → bytes_eq b x ≡ t → cond s (Some m) (position_from (bytes_eq a) (m + 1) xs) ≡ Some i → cond t (Some m) (position_from (bytes_eq b) (m + 1) xs) ≡ Some i →
        (position_from (bytes_eq a) (m + 1) xs ≡ Some i → position_from (bytes_eq b) (m + 1) xs ≡ Some i → a ≡ b) → a ≡ b
    by true s true t e g rest = (bytes_eq-Decides a x).0 s ∙ sym ((bytes_eq-Decides b x).0 t)
    by true s false t e g rest =
        let same : m ≡ i = same_Some m i e in
        let more : m + 1 ≤ i = at_least (bytes_eq b) (m + 1) i xs g in
        absurd (omega (arith, same, more))
    by false s true t e g rest =
        let same : m ≡ i = same_Some m i g in
        let more : m + 1 ≤ i = at_least (bytes_eq a) (m + 1) i xs e in
        absurd (omega (arith, same, more))
    by false s false t e g rest = rest e g

place_in : (words : List (List ℕ)) (a : List ℕ) (id : NameId) → named words a ≡ Some id → position_from (bytes_eq a) 0 words ≡ Some id.0
place_in words a id e = sym (position_from-zero (bytes_eq a) words) ∙ by (position (bytes_eq a) words) e
  where
    by : (o : Option ℕ) → id_of o ≡ Some id → o ≡ Some id.0
    by None e = absurd (none-some id e)
    by (Some place) e = ap Some (ap (λ (id : NameId). id.0) (same_Some (record { 0 = place }) id e))

same_name : (words : List (List ℕ)) (a b : List ℕ) (id other : NameId) → named words a ≡ Some id → named words b ≡ Some other → id.0 ≡ other.0 → a ≡ b
same_name words a b id other e g same = same_from a b 0 id.0 words (place_in words a id e) (place_in words b other g ∙ ap Some (sym same))

-- ---- the test

module _ (k : Known) (set : RaisesId) (xs : List definition.Raise) (same : AreSame k (raises_of k.facts.now.raising set) xs) (names : List Identifier) (test : Identifier → Raise → Bool) (its_test : definition.Raise → Bool) (agree : (name : Identifier) → IsAmong name names → (r : Raise) (x : definition.Raise) → IsRaise k r x → x.0 ≡ name → its_test x ≡ test name r) where
  abbrev words : List (List ℕ)
  words = k.facts.now.finding.words

  -- the raises of this name are kept under it
  kept_in : (name : Identifier) (r : Raise) → named words name ≡ Some r.name → IsAmong r (raises_of k.facts.now.raising set) → IsAmong r (raised_in k set name)
  kept_in name r e i =
      subst (λ (o : Option NameId). IsAmong r (raised_if k set o)) (sym e)
      (among_filter (is_of r.name) (raises_of k.facts.now.raising set) r i (eq-eqb r.name.0 r.name.0 refl))

  -- what is kept under a name is a raise of this name
  record Told (name : Identifier) (r : Raise) : Type 0 where
    its : definition.Raise
    among : IsAmong its xs
    is : IsRaise k r its
    name_is : its.0 ≡ name

  told_in : (name : Identifier) (r : Raise) → IsAmong r (raised_in k set name) → Told name r
  told_in name r i = by (named words name) refl i
    where
      by : (o : Option NameId) → named words name ≡ o → IsAmong r (raised_if k set o) → Told name r
      by None e i = absurd i
      by (Some id) e i =
          let parts = filter_among (is_of id) (raises_of k.facts.now.raising set) r i in
          let its = same.told r parts.0 in
          record { its = its.0; among = its.1.0; is = its.1.1; name_is = same_name words its.0.0 name r.name id its.1.1.0 e (eqb-true r.name.0 id.0 parts.1) }

  abbrev by_tables : Bool
  by_tables = list_all (λ name. list_all (test name) (raised_in k set name)) names

  abbrev by_definition : Bool
  by_definition = list_all its_test (filter (is_named names) xs)

  to_definition : by_tables ≡ true → by_definition ≡ true
  to_definition all = all_by its_test (filter (is_named names) xs) (λ x i. each x (filter_among (is_named names) xs x i))
    where
      each : (x : definition.Raise) → IsAmong x xs × (is_named names x ≡ true) → its_test x ≡ true
      each x i =
          let name = one_of x.0 names i.1 in
          let r = same.kept x i.0 in
          let kept : IsAmong r.0 (raised_in k set name.0) = kept_in name.0 r.0 (ap (named words) (sym name.1.1) ∙ r.1.1.0) r.1.0 in
          agree name.0 name.1.0 r.0 x r.1.1 name.1.1
          ∙ all_at (test name.0) (raised_in k set name.0) (all_at (λ name. list_all (test name) (raised_in k set name)) names all name.0 name.1.0) r.0 kept

  to_tables : by_definition ≡ true → by_tables ≡ true
  to_tables all = all_by (λ name. list_all (test name) (raised_in k set name)) names (λ name i. all_by (test name) (raised_in k set name) (λ r j. each name i r (told_in name r j)))
    where
      each : (name : Identifier) → IsAmong name names → (r : Raise) → Told name r → test name r ≡ true
      each name i r told =
          sym (agree name i r told.its told.is told.name_is)
          ∙ all_at its_test (filter (is_named names) xs) all told.its (among_filter (is_named names) xs told.its told.among (among_any told.its.0 name names told.name_is i))

  pub tests_same : by_definition ≡ by_tables
  tests_same = same_truth by_definition by_tables to_tables to_definition
