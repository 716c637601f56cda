-- What is noted one after the other says which names stand twice.
use Rattle.std.proofs.Common.{◌≡◌, ◌∙◌, ℕ, zero, suc, nat_lt, Bool, true, false, not, ◌&&◌, ◌||◌, ◌==◌, if◌then◌else◌, ◌⊎◌, ◌<◌, ◌≤◌, inl, inr, arith, get_or, List, [], ◌∷◌, length, set, replicate, slice_get, is_some, Option, Some, None, refl, sym, ap}
use Rattle.std.specs.List.{list_any}
use Rattle.std.specs.Bool.{Decides}
use Rattle.std.proofs.Math.Bool.{and-false}
use Rattle.std.proofs.lemmas.Bool.{eq-eqb, eqb-true, eqb-false, cases_lt, lt-ltb, le-ltb}
use Rattle.std.proofs.lemmas.Bool.Decides.{Decides-like, Decides-and, Decides-eqb}
use Rattle.std.proofs.lemmas.List.{length-set, length-replicate, get_or-set_same, get_or-set_other, set_past}
use Rattle.clu_head.specs.Refused.{is_set}
use Rattle.clu_name_rules.specs.declared.repeated.ListKind.{ListKind}
use Rattle.clu_name_rules.specs.declared.repeated.ListKind.TheVariants as list
use Rattle.clu_name_rules.specs.declared.repeated.Listed.{Listed}
use Rattle.clu_name_rules.specs.contracts.repeated.ListKindPartialEq.TheImpl as kinds
use Rattle.clu_name_rules.specs.Words.{number_of}
use Rattle.clu_name_rules.specs.Repeated.{same, Note, first_in, put_first, marked, repeated_in, is_refused, listed_name, with_name, with_names}

-- ---- tests

or_assoc : (a b c : Bool) → (a || (b || c)) ≡ ((a || b) || c)
or_assoc true b c = refl
or_assoc false b c = refl

-- a step that adds to what was there, and the steps before it
both_add : (m a b r : Bool) → ((m && b) || ((m && a) || r)) ≡ ((m && (a || b)) || r)
both_add true true true r = refl
both_add true true false r = refl
both_add true false b r = refl
both_add false a b r = refl

regroup : (s a b t : Bool) → (s || ((a || b) || t)) ≡ ((s || b) || (a || t))
regroup true a b t = refl
regroup false true true t = refl
regroup false true false t = refl
regroup false false true t = refl
regroup false false false t = refl

pub any_either : {X : Type 0} (p q : X → Bool) (xs : List X) → list_any (λ x. p x || q x) xs ≡ (list_any p xs || list_any q xs)
any_either p q [] = refl
any_either p q (x ∷ xs) = ap (λ (b : Bool). (p x || q x) || b) (any_either p q xs) ∙ four (p x) (q x) (list_any p xs) (list_any q xs)
  where
    four : (a b c d : Bool) → ((a || b) || (c || d)) ≡ ((a || c) || (b || d))
    four true b c d = refl
    four false true true d = refl
    four false true false d = refl
    four false false c d = refl

pub any_same : {X : Type 0} (p q : X → Bool) → ((x : X) → p x ≡ q x) → (xs : List X) → list_any p xs ≡ list_any q xs
any_same p q same [] = refl
any_same p q same (x ∷ xs) = ap (λ (b : Bool). b || list_any p xs) (same x) ∙ ap (λ (b : Bool). q x || b) (any_same p q same xs)

self : (n : ℕ) → (n == n) ≡ true
self n = eq-eqb n n refl

-- ---- listed names

abbrev pub same_kind : ListKind → ListKind → Bool
same_kind = (kinds.ghosts).eq

kind_decided : (a b : ListKind) → Decides (same_kind a b) (a ≡ b)
kind_decided list.Exceptions list.Exceptions = (λ e. refl, λ e. refl)
kind_decided list.Declared list.Declared = (λ e. refl, λ e. refl)
kind_decided list.Selectors list.Selectors = (λ e. refl, λ e. refl)
kind_decided list.Components list.Components = (λ e. refl, λ e. refl)
kind_decided list.WhenArms list.WhenArms = (λ e. refl, λ e. refl)
kind_decided list.Tags list.Tags = (λ e. refl, λ e. refl)
kind_decided list.Routines list.Routines = (λ e. refl, λ e. refl)
kind_decided list.Names list.Names = (λ e. refl, λ e. refl)
kind_decided list.Modules list.Modules = (λ e. refl, λ e. refl)
kind_decided _ _ = (λ e. cc, λ e. cc)

join : {A B C D : Type 0} (f : A → B → C → D) {a a' : A} {b b' : B} {c c' : C} → a ≡ a' → b ≡ b' → c ≡ c' → f a b c ≡ f a' b' c'
join f p q r = cc

pub listed_decided : (a b : Listed) → Decides (same a b) (a ≡ b)
listed_decided a b =
    Decides-like _ (λ e. join (λ (l : ℕ) (k : ListKind) (w : ℕ). let x : Listed = record { list = l; kind = k; word = w } in x) e.0 e.1.0 e.1.1)
    (λ e. (ap (λ (x : Listed). x.list) e, (ap (λ (x : Listed). x.kind) e, ap (λ (x : Listed). x.word) e)))
    (Decides-and _ _ (Decides-eqb a.list b.list) (Decides-and _ _ (kind_decided a.kind b.kind) (Decides-eqb a.word b.word)))

-- ---- what was noted first

-- the name was noted
abbrev pub seen : List Note → Listed → Bool
seen notes x = is_some (first_in notes x)

pub seen_more : (note : Note) (before : List Note) (x : Listed) → seen (note ∷ before) x ≡ (same note.name x || seen before x)
seen_more note before x = by (first_in before note.name) refl (same note.name x) refl
  where
    by : (o : Option ℕ) → first_in before note.name ≡ o → (b : Bool) → same note.name x ≡ b → is_some (put_first o b note.node (first_in before x)) ≡ (b || seen before x)
    by (Some first) at true is = ap (λ (y : Listed). is_some (first_in before y)) (sym ((listed_decided note.name x).0 is)) ∙ ap (λ (o : Option ℕ). is_some o) at
    by (Some first) at false is = refl
    by None at true is = refl
    by None at false is = refl

-- ---- bits

abbrev pub is_second : Option ℕ → Note → Bool
is_second (Some first) note = is_refused note.name.kind (first == note.node)
is_second None note = false

-- a name of the node is refused
abbrev pub repeats : List Note → ℕ → Bool
repeats [] n = false
repeats (note ∷ before) n = (note.node == n && is_second (first_in before note.name) note) || repeats before n

size_if : (b : Bool) (bits : List Bool) (n : ℕ) → length (if b then set bits n true else bits) ≡ length bits
size_if true bits n = length-set bits n true
size_if false bits n = refl

marked_size : (o : Option ℕ) (note : Note) (bits : List Bool) → length (marked o note bits) ≡ length bits
marked_size None note bits = refl
marked_size (Some first) note bits = size_if (is_refused note.name.kind (first == note.node)) bits note.node

size_is : (nodes : ℕ) (notes : List Note) → length (repeated_in nodes notes) ≡ nodes
size_is nodes [] = length-replicate nodes false
size_is nodes (note ∷ before) = marked_size (first_in before note.name) note (repeated_in nodes before) ∙ size_is nodes before

bit_is : (bits : List Bool) (n : ℕ) → is_set (slice_get bits n) ≡ get_or bits n false
bit_is [] n = refl
bit_is (x ∷ xs) zero = refl
bit_is (x ∷ xs) (suc n) = bit_is xs n

set_at : (bits : List Bool) (m n : ℕ) → is_set (slice_get (set bits m true) n) ≡ ((m == n && nat_lt n (length bits)) || is_set (slice_get bits n))
set_at bits m n = by (m == n) refl (cases_lt n (length bits))
  where
    by : (b : Bool) → (m == n) ≡ b → (n < length bits) ⊎ (length bits ≤ n) → is_set (slice_get (set bits m true) n) ≡ ((b && nat_lt n (length bits)) || is_set (slice_get bits n))
    by true is (inl less) =
        let same : m ≡ n = eqb-true m n is in
        bit_is (set bits m true) n
        ∙ ap (λ (k : ℕ). get_or (set bits k true) n false) same
        ∙ get_or-set_same bits n true false less
        ∙ ap (λ (b : Bool). b || is_set (slice_get bits n)) (sym (lt-ltb n (length bits) less))
    by true is (inr more) =
        let same : m ≡ n = eqb-true m n is in
        ap (λ (bs : List Bool). is_set (slice_get bs n)) (set_past bits m true (omega (arith, same, more)))
        ∙ ap (λ (b : Bool). b || is_set (slice_get bits n)) (sym (le-ltb n (length bits) more))
    by false is size =
        bit_is (set bits m true) n ∙ get_or-set_other bits m n true false (λ e. eqb-false m n is (sym e)) ∙ sym (bit_is bits n)

none_set : (nodes n : ℕ) → is_set (slice_get (replicate nodes false) n) ≡ false
none_set zero n = refl
none_set (suc nodes) zero = refl
none_set (suc nodes) (suc n) = none_set nodes n

set_if : (b : Bool) (bits : List Bool) (m n : ℕ) → is_set (slice_get (if b then set bits m true else bits) n) ≡ ((m == n && (b && nat_lt n (length bits))) || is_set (slice_get bits n))
set_if true bits m n = set_at bits m n
set_if false bits m n = ap (λ (b : Bool). b || is_set (slice_get bits n)) (sym (and-false (m == n)))

marked_at : (o : Option ℕ) (note : Note) (bits : List Bool) (n : ℕ) → is_set (slice_get (marked o note bits) n) ≡ ((note.node == n && (is_second o note && nat_lt n (length bits))) || is_set (slice_get bits n))
marked_at None note bits n = ap (λ (b : Bool). b || is_set (slice_get bits n)) (sym (and-false (note.node == n)))
marked_at (Some first) note bits n = set_if (is_refused note.name.kind (first == note.node)) bits note.node n

inside_both : (m b l r : Bool) → ((m && (b && l)) || (l && r)) ≡ (l && ((m && b) || r))
inside_both true true true r = refl
inside_both true true false r = refl
inside_both true false l r = refl
inside_both false b l r = refl

-- the bits are those of what repeats
pub bits_are : (nodes : ℕ) (notes : List Note) (n : ℕ) → is_set (slice_get (repeated_in nodes notes) n) ≡ (nat_lt n nodes && repeats notes n)
bits_are nodes [] n = none_set nodes n ∙ sym (and-false (nat_lt n nodes))
bits_are nodes (note ∷ before) n =
    marked_at (first_in before note.name) note (repeated_in nodes before) n
    ∙ ap (λ (k : ℕ). (note.node == n && (is_second (first_in before note.name) note && nat_lt n k)) || is_set (slice_get (repeated_in nodes before) n)) (size_is nodes before)
    ∙ ap (λ (b : Bool). (note.node == n && (is_second (first_in before note.name) note && nat_lt n nodes)) || b) (bits_are nodes before n)
    ∙ inside_both (note.node == n) (is_second (first_in before note.name) note) (nat_lt n nodes) (repeats before n)

-- ---- the names of one node

-- each second one of the kind is refused
abbrev pub IsStrict : ListKind → Type 0
IsStrict k = (b : Bool) → is_refused k b ≡ true

-- two names are one word
abbrev pub same_word : List (List ℕ) → List ℕ → List ℕ → Bool
same_word all a b = number_of all a == number_of all b

abbrev pub stand_twice : List (List ℕ) → List (List ℕ) → Bool
stand_twice all [] = false
stand_twice all (name ∷ names) = list_any (same_word all name) names || stand_twice all names

-- the first is another node
abbrev pub is_other : Option ℕ → ℕ → Bool
is_other None m = false
is_other (Some first) m = not (first == m)

module _ (all : List (List ℕ)) (top : ℕ) (k : ListKind) where
  abbrev listed : List ℕ → Listed
  listed name = listed_name all top k name

  pub same_listed : (a b : List ℕ) → same (listed a) (listed b) ≡ same_word all a b
  same_listed a b =
      ap (λ (t : Bool). t && (same_kind k k && same_word all a b)) (self top)
      ∙ ap (λ (t : Bool). t && same_word all a b) ((kind_decided k k).1 refl)

  abbrev pub are_seen : List Note → List (List ℕ) → Bool
  are_seen before names = list_any (λ name. seen before (listed name)) names

  pub seen_names : (m : ℕ) (names : List (List ℕ)) (before : List Note) (x : Listed) → seen (with_names all top k m names before) x ≡ (list_any (λ name. same (listed name) x) names || seen before x)
  seen_names m [] before x = refl
  seen_names m (name ∷ names) before x =
      seen_names m names (with_name all top k m before name) x
      ∙ ap (λ (b : Bool). list_any (λ y. same (listed y) x) names || b) (seen_more (record { name = listed name; node = m }) before x)
      ∙ turn (list_any (λ y. same (listed y) x) names) (same (listed name) x) (seen before x)
    where
      turn : (a b c : Bool) → (a || (b || c)) ≡ ((b || a) || c)
      turn true true c = refl
      turn true false c = refl
      turn false true c = refl
      turn false false c = refl

  -- names of another node
  pub names_apart : (m n : ℕ) → (m == n) ≡ false → (names : List (List ℕ)) (before : List Note) → repeats (with_names all top k m names before) n ≡ repeats before n
  names_apart m n apart [] before = refl
  names_apart m n apart (name ∷ names) before =
      names_apart m n apart names (with_name all top k m before name)
      ∙ ap (λ (b : Bool). (b && is_second (first_in before (listed name)) (record { name = listed name; node = m })) || repeats before n) apart

  -- one of them is seen before, or among those before it
  abbrev again : ℕ → List (List ℕ) → List Note → Bool
  again m [] before = false
  again m (name ∷ names) before = seen before (listed name) || again m names (with_name all top k m before name)

  again_is : (m : ℕ) (names : List (List ℕ)) (before : List Note) → again m names before ≡ (are_seen before names || stand_twice all names)
  again_is m [] before = refl
  again_is m (name ∷ names) before =
      ap (λ (b : Bool). seen before (listed name) || b)
      (again_is m names (with_name all top k m before name)
      ∙ ap (λ (b : Bool). b || stand_twice all names)
      (any_same (λ y. seen (with_name all top k m before name) (listed y)) (λ y. same_word all name y || seen before (listed y)) (λ y. seen_more (record { name = listed name; node = m }) before (listed y) ∙ ap (λ (b : Bool). b || seen before (listed y)) (same_listed name y)) names
      ∙ any_either (same_word all name) (λ y. seen before (listed y)) names))
      ∙ regroup (seen before (listed name)) (list_any (same_word all name) names) (are_seen before names) (stand_twice all names)

  module _ (strict : IsStrict k) where
    second_is : (o : Option ℕ) (name : List ℕ) (m : ℕ) → is_second o (record { name = listed name; node = m }) ≡ is_some o
    second_is None name m = refl
    second_is (Some first) name m = strict (first == m)

    repeats_again : (m n : ℕ) (names : List (List ℕ)) (before : List Note) → repeats (with_names all top k m names before) n ≡ ((m == n && again m names before) || repeats before n)
    repeats_again m n [] before = ap (λ (b : Bool). b || repeats before n) (sym (and-false (m == n)))
    repeats_again m n (name ∷ names) before =
        repeats_again m n names (with_name all top k m before name)
        ∙ ap (λ (b : Bool). (m == n && again m names (with_name all top k m before name)) || ((m == n && b) || repeats before n)) (second_is (first_in before (listed name)) name m)
        ∙ both_add (m == n) (seen before (listed name)) (again m names (with_name all top k m before name)) (repeats before n)

    -- those of the node itself
    pub names_strict : (n : ℕ) (names : List (List ℕ)) (before : List Note) → repeats (with_names all top k n names before) n ≡ ((are_seen before names || stand_twice all names) || repeats before n)
    names_strict n names before =
        repeats_again n n names before
        ∙ ap (λ (b : Bool). (b && again n names before) || repeats before n) (self n)
        ∙ ap (λ (b : Bool). b || repeats before n) (again_is n names before)

  -- ---- one that another item has is refused

  kept : (m : ℕ) (name x : List ℕ) (before : List Note) → is_other (first_in (with_name all top k m before name) (listed x)) m ≡ is_other (first_in before (listed x)) m
  kept m name x before = by (first_in before (listed name)) refl (same (listed name) (listed x)) refl
    where
      by : (o : Option ℕ) → first_in before (listed name) ≡ o → (b : Bool) → same (listed name) (listed x) ≡ b → is_other (put_first o b m (first_in before (listed x))) m ≡ is_other (first_in before (listed x)) m
      by (Some first) at b is = refl
      by None at true is =
          ap not (self m)
          ∙ ap (λ (o : Option ℕ). is_other o m) (sym at)
          ∙ ap (λ (y : Listed). is_other (first_in before y) m) ((listed_decided (listed name) (listed x)).0 is)
      by None at false is = refl

  module _ (loose : (b : Bool) → is_refused k b ≡ not b) where
    other_is : (o : Option ℕ) (name : List ℕ) (m : ℕ) → is_second o (record { name = listed name; node = m }) ≡ is_other o m
    other_is None name m = refl
    other_is (Some first) name m = loose (first == m)

    repeats_other : (m n : ℕ) (names : List (List ℕ)) (before : List Note) → repeats (with_names all top k m names before) n ≡ ((m == n && list_any (λ y. is_other (first_in before (listed y)) m) names) || repeats before n)
    repeats_other m n [] before = ap (λ (b : Bool). b || repeats before n) (sym (and-false (m == n)))
    repeats_other m n (name ∷ names) before =
        repeats_other m n names (with_name all top k m before name)
        ∙ ap (λ (b : Bool). (m == n && b) || ((m == n && is_second (first_in before (listed name)) (record { name = listed name; node = m })) || repeats before n))
        (any_same (λ y. is_other (first_in (with_name all top k m before name) (listed y)) m) (λ y. is_other (first_in before (listed y)) m) (λ y. kept m name y before) names)
        ∙ ap (λ (b : Bool). (m == n && list_any (λ y. is_other (first_in before (listed y)) m) names) || ((m == n && b) || repeats before n)) (other_is (first_in before (listed name)) name m)
        ∙ both_add (m == n) (is_other (first_in before (listed name)) m) (list_any (λ y. is_other (first_in before (listed y)) m) names) (repeats before n)

    pub names_loose : (n : ℕ) (names : List (List ℕ)) (before : List Note) → repeats (with_names all top k n names before) n ≡ (list_any (λ y. is_other (first_in before (listed y)) n) names || repeats before n)
    names_loose n names before =
        repeats_other n n names before
        ∙ ap (λ (b : Bool). (b && list_any (λ y. is_other (first_in before (listed y)) n) names) || repeats before n) (self n)
