-- Which names stand twice in a list or at a node, by what is noted of all nodes.
use Rattle.std.proofs.Common.{◌≡◌, ◌∙◌, ◌⊎◌, ℕ, Bool, true, false, not, ◌&&◌, ◌||◌, ◌==◌, if◌then◌else◌, List, [], ◌∷◌, ◌++◌, fold, slice_get, is_some, Option, Some, None, inl, inr, refl, sym, ap, rules}
use Rattle.std.specs.List.{list_any}
use Rattle.std.proofs.Math.Bool.{or-false}
use Rattle.std.proofs.lemmas.Bool.{true≢false, eq-eqb, eqb-true, ne_eqb, and_parts, not-true, or_left, or_right, or_parts}
use Rattle.std.proofs.lemmas.List.Folds.{list_any-append}
use Rattle.std.proofs.lemmas.Option.{same_Some}
use Rattle.clu_tree.specs.declared.node.Node.{Node}
use Rattle.clu_tree.specs.declared.node.NodeKind.{NodeKind}
use Rattle.clu_tree.specs.declared.node.NodeKind.TheVariants as kind
use Rattle.clu_tree.specs.contracts.node.NodeKind.{the_type}
use Rattle.clu_syntax.specs.Kinds.{kind_at}
use Rattle.clu_syntax.specs.Splits.{is_of, children_of}
use Rattle.clu_checking.specs.NameRules.{before_in}
use Rattle.clu_settle.specs.Names.{names_of}
use Rattle.clu_name_rules.specs.declared.repeated.ListKind.{ListKind}
use Rattle.clu_name_rules.specs.declared.repeated.ListKind.TheVariants as list
use Rattle.clu_name_rules.specs.declared.repeated.Listed.{Listed}
use Rattle.clu_name_rules.specs.Repeated.{same, Note, first_in, put_first, list_of, is_refused, tags_at, item_names, listed_name, with_name, with_names, with_item_of, with_item}
use Rattle.clu_passes.specs.Notes.{has, each_once}
use Rattle.clu_passes.proofs.Noted.{any_same, seen, repeats, IsStrict, same_word, stand_twice, are_seen, same_listed, same_kind, seen_names, names_apart, names_strict, is_other, names_loose}
use denote.Enum.Bare.{same_true}

pub any_none : {X : Type 0} (p : X → Bool) → ((x : X) → p x ≡ false) → (xs : List X) → list_any p xs ≡ false
any_none p none [] = refl
any_none p none (x ∷ xs) = ap (λ (b : Bool). b || list_any p xs) (none x) ∙ any_none p none xs

-- ---- lists of children

before_none : (n : ℕ) (cs : List ℕ) → has n (before_in cs n) ≡ false
before_none n [] = refl
before_none n (c ∷ cs) = by (before_none n cs) (c == n) refl
  where
    by : has n (before_in cs n) ≡ false → (b : Bool) → (c == n) ≡ b → has n (if b then [] else c ∷ before_in cs n) ≡ false
    by rest true is = refl
    by rest false is = ap (λ (b : Bool). b || has n (before_in cs n)) is ∙ rest

-- the kind of a list in which items of one kind stand, each by names of its own
abbrev pub is_list : ListKind → Option ListKind → Bool
is_list k (Some other) = same_kind other k
is_list k None = false

pub record IsItemOf (own : List Node → ℕ → List (List ℕ)) (item : NodeKind) (k : ListKind) : Type 0 where
  pub its : list_of item ≡ Some k
  pub only : (other : NodeKind) → is_of item other ≡ false → is_list k (list_of other) ≡ false
  pub names : (nodes : List Node) (n : ℕ) → item_names nodes k n ≡ own nodes n

-- most items have all names of their nodes
abbrev pub all_names : List Node → ℕ → List (List ℕ)
all_names nodes n = names_of (slice_get nodes n)

only_exception : (other : NodeKind) → is_of kind.Exc other ≡ false → is_list list.Exceptions (list_of other) ≡ false
only_exception kind.Exc h = h
only_exception _ h = refl

only_declared : (other : NodeKind) → is_of kind.Decl other ≡ false → is_list list.Declared (list_of other) ≡ false
only_declared kind.Decl h = h
only_declared _ h = refl

only_selector : (other : NodeKind) → is_of kind.FieldT other ≡ false → is_list list.Selectors (list_of other) ≡ false
only_selector kind.FieldT h = h
only_selector _ h = refl

only_component : (other : NodeKind) → is_of kind.FieldE other ≡ false → is_list list.Components (list_of other) ≡ false
only_component kind.FieldE h = h
only_component _ h = refl

only_tags : (other : NodeKind) → is_of kind.TagArm other ≡ false → is_list list.Tags (list_of other) ≡ false
only_tags kind.TagArm h = h
only_tags _ h = refl

only_arm : (other : NodeKind) → is_of kind.When other ≡ false → is_list list.WhenArms (list_of other) ≡ false
only_arm kind.When h = h
only_arm _ h = refl

pub tags_are : IsItemOf tags_at kind.TagArm list.Tags
tags_are = record { its = refl; only = only_tags; names = λ nodes n. refl }

pub arms_are : IsItemOf all_names kind.When list.WhenArms
arms_are = record { its = refl; only = only_arm; names = λ nodes n. refl }

pub exceptions_are : IsItemOf all_names kind.Exc list.Exceptions
exceptions_are = record { its = refl; only = only_exception; names = λ nodes n. refl }

pub declared_are : IsItemOf all_names kind.Decl list.Declared
declared_are = record { its = refl; only = only_declared; names = λ nodes n. refl }

pub selectors_are : IsItemOf all_names kind.FieldT list.Selectors
selectors_are = record { its = refl; only = only_selector; names = λ nodes n. refl }

pub components_are : IsItemOf all_names kind.FieldE list.Components
components_are = record { its = refl; only = only_component; names = λ nodes n. refl }

pub never_names : (other : NodeKind) → is_list list.Names (list_of other) ≡ false
never_names kind.Exc = refl
never_names _ = refl

module _ (all : List (List ℕ)) (nodes : List Node) where
  abbrev names_at : ℕ → List (List ℕ)
  names_at n = names_of (slice_get nodes n)

  abbrev step : ℕ → List Note → ℕ → List Note
  step top = with_item all nodes top

  abbrev children : ℕ → List ℕ
  children n = children_of (slice_get nodes n)

  -- ---- items that are other nodes

  pub item_apart : (top c n : ℕ) → (c == n) ≡ false → (before : List Note) → repeats (step top before c) n ≡ repeats before n
  item_apart top c n apart before = by (list_of (kind_at nodes c))
    where
      by : (o : Option ListKind) → repeats (with_item_of all nodes o top c before) n ≡ repeats before n
      by None = refl
      by (Some k) = names_apart all top k c n apart (item_names nodes k c) before

  pub items_apart : (top n : ℕ) (cs : List ℕ) → has n cs ≡ false → (before : List Note) → repeats (fold (step top) before cs) n ≡ repeats before n
  items_apart top n [] none before = refl
  items_apart top n (c ∷ cs) none before =
      items_apart top n cs (or_parts (c == n) (has n cs) none).1 (step top before c) ∙ item_apart top c n (or_parts (c == n) (has n cs) none).0 before

  -- of a list that has the node once, what comes before it counts
  at_item : (top n : ℕ) (cs : List ℕ) → has n cs ≡ true → each_once cs ≡ true → (before : List Note) → repeats (fold (step top) before cs) n ≡ repeats (step top (fold (step top) before (before_in cs n)) n) n
  at_item top n [] there once before = absurd (true≢false (sym there))
  at_item top n (c ∷ cs) there once before = by (λ more. at_item top n cs more (and_parts (not (has c cs)) (each_once cs) once).1 (step top before c)) (c == n) refl
    where
      by : (has n cs ≡ true → repeats (fold (step top) (step top before c) cs) n ≡ repeats (step top (fold (step top) (step top before c) (before_in cs n)) n) n) →
          (b : Bool) → (c == n) ≡ b → repeats (fold (step top) (step top before c) cs) n ≡ repeats (step top (fold (step top) before (if b then [] else c ∷ before_in cs n)) n) n
      by rest true is =
          let same : c ≡ n = eqb-true c n is in
          let none : has c cs ≡ false = not-true (has c cs) (and_parts (not (has c cs)) (each_once cs) once).0 in
          items_apart top n cs (ap (λ (m : ℕ). has m cs) (sym same) ∙ none) (step top before c) ∙ ap (λ (m : ℕ). repeats (step top before m) n) same
      by rest false is = rest (ap (λ (b : Bool). b || has n cs) (sym is) ∙ there)

  -- ---- what is seen of a list

  pub names_elsewhere : (m top : ℕ) (j k : ListKind) (x y : List ℕ) → (m == top) ≡ false → same (listed_name all m j y) (listed_name all top k x) ≡ false
  names_elsewhere m top j k x y apart = ap (λ (b : Bool). b && (same_kind j k && same_word all y x)) apart

  and_none : (a b : Bool) → (a && (false && b)) ≡ false
  and_none true b = refl
  and_none false b = refl

  pub names_of_others : (m top : ℕ) (j k : ListKind) (x y : List ℕ) → same_kind j k ≡ false → same (listed_name all m j y) (listed_name all top k x) ≡ false
  names_of_others m top j k x y apart = ap (λ (b : Bool). (m == top) && (b && same_word all y x)) apart ∙ and_none (m == top) (same_word all y x)

  -- items of another kind
  pub seen_other : (k : ListKind) (top : ℕ) (o : Option ListKind) → is_list k o ≡ false → (c : ℕ) (before : List Note) (x : List ℕ) → seen (with_item_of all nodes o top c before) (listed_name all top k x) ≡ seen before (listed_name all top k x)
  seen_other k top None none c before x = refl
  seen_other k top (Some j) none c before x =
      seen_names all top j c (item_names nodes j c) before (listed_name all top k x)
      ∙ ap (λ (b : Bool). b || seen before (listed_name all top k x)) (any_none (λ y. same (listed_name all top j y) (listed_name all top k x)) (λ y. names_of_others top top j k x y none) (item_names nodes j c))

  -- the names of the items of one kind
  abbrev pub own_before : (ℕ → List (List ℕ)) → NodeKind → List ℕ → List (List ℕ)
  own_before own item [] = []
  own_before own item (c ∷ cs) = if is_of item (kind_at nodes c) then own c ++ own_before own item cs else own_before own item cs

  abbrev pub names_before : NodeKind → List ℕ → List (List ℕ)
  names_before item cs = own_before names_at item cs

  turn : (a b s : Bool) → (a || (b || s)) ≡ ((b || a) || s)
  turn true true s = refl
  turn true false s = refl
  turn false true s = refl
  turn false false s = refl

  -- the first node of a name is one of the items
  first_more : (note : Note) (before : List Note) (x : Listed) (g : ℕ) → first_in (note ∷ before) x ≡ Some g → (note.node ≡ g) ⊎ (first_in before x ≡ Some g)
  first_more note before x g e = by (first_in before note.name) (same note.name x) e
    where
      by : (o : Option ℕ) (b : Bool) → put_first o b note.node (first_in before x) ≡ Some g → (note.node ≡ g) ⊎ (first_in before x ≡ Some g)
      by (Some first) b h = inr h
      by None true h = inl (same_Some note.node g h)
      by None false h = inr h

  first_names : (top : ℕ) (j : ListKind) (m : ℕ) (names : List (List ℕ)) (before : List Note) (x : Listed) (g : ℕ) → first_in (with_names all top j m names before) x ≡ Some g → (m ≡ g) ⊎ (first_in before x ≡ Some g)
  first_names top j m [] before x g e = inr e
  first_names top j m (name ∷ names) before x g e = elim (first_names top j m names (with_name all top j m before name) x g e) [
    | inl is ↦ inl is
    | inr h ↦ first_more (record { name = listed_name all top j name; node = m }) before x g h
  ]

  first_items : (top : ℕ) (cs : List ℕ) (before : List Note) (x : Listed) (g : ℕ) → first_in (fold (step top) before cs) x ≡ Some g → (has g cs ≡ true) ⊎ (first_in before x ≡ Some g)
  first_items top [] before x g e = inr e
  first_items top (c ∷ cs) before x g e = elim (first_items top cs (step top before c) x g e) [
    | inl h ↦ inl (or_right (c == g) (has g cs) h)
    | inr h ↦ by (list_of (kind_at nodes c)) h
  ]
    where
      by : (o : Option ListKind) → first_in (with_item_of all nodes o top c before) x ≡ Some g → (has g (c ∷ cs) ≡ true) ⊎ (first_in before x ≡ Some g)
      by None h = inr h
      by (Some j) h = elim (first_names top j c (item_names nodes j c) before x g h) [
        | inl is ↦ inl (or_left (c == g) (has g cs) (eq-eqb c g is))
        | inr k ↦ inr k
      ]

  module _ (own : List Node → ℕ → List (List ℕ)) (item : NodeKind) (k : ListKind) (is : IsItemOf own item k) (top : ℕ) where
    abbrev at : List ℕ → Listed
    at x = listed_name all top k x

    abbrev are_there : List ℕ → List (List ℕ) → Bool
    are_there x names = list_any (λ y. same_word all y x) names

    seen_item : (c : ℕ) → is_of item (kind_at nodes c) ≡ true → (before : List Note) (x : List ℕ) → seen (step top before c) (at x) ≡ (are_there x (own nodes c) || seen before (at x))
    seen_item c here before x =
        let kind_is : kind_at nodes c ≡ item = same_true the_type (search rules) (kind_at nodes c) item here in
        ap (λ (j : NodeKind). seen (with_item_of all nodes (list_of j) top c before) (at x)) kind_is
        ∙ ap (λ (o : Option ListKind). seen (with_item_of all nodes o top c before) (at x)) is.its
        ∙ ap (λ (names : List (List ℕ)). seen (with_names all top k c names before) (at x)) (is.names nodes c)
        ∙ seen_names all top k c (own nodes c) before (at x)
        ∙ ap (λ (b : Bool). b || seen before (at x)) (any_same (λ y. same (at y) (at x)) (λ y. same_word all y x) (λ y. same_listed all top k y x) (own nodes c))

    pub seen_items : (cs : List ℕ) (before : List Note) (x : List ℕ) → seen (fold (step top) before cs) (at x) ≡ (are_there x (own_before (own nodes) item cs) || seen before (at x))
    seen_items [] before x = refl
    seen_items (c ∷ cs) before x = seen_items cs (step top before c) x ∙ by (is_of item (kind_at nodes c)) refl
      where
        by : (b : Bool) → is_of item (kind_at nodes c) ≡ b →
            (are_there x (own_before (own nodes) item cs) || seen (step top before c) (at x)) ≡ (are_there x (if b then own nodes c ++ own_before (own nodes) item cs else own_before (own nodes) item cs) || seen before (at x))
        by true here =
            ap (λ (b : Bool). are_there x (own_before (own nodes) item cs) || b) (seen_item c here before x)
            ∙ turn (are_there x (own_before (own nodes) item cs)) (are_there x (own nodes c)) (seen before (at x))
            ∙ ap (λ (b : Bool). b || seen before (at x)) (sym (list_any-append (λ y. same_word all y x) (own nodes c) (own_before (own nodes) item cs)))
        by false other = ap (λ (b : Bool). are_there x (own_before (own nodes) item cs) || b) (seen_other k top (list_of (kind_at nodes c)) (is.only (kind_at nodes c) other) c before x)

    -- a name of the node stands before it in the list
    abbrev pub stand_before : List ℕ → ℕ → Bool
    stand_before cs n = list_any (λ x. are_there x (own_before (own nodes) item (before_in cs n))) (own nodes n)

    module _ (n : ℕ) (kind_is : kind_at nodes n ≡ item) (cs : List ℕ) (there : has n cs ≡ true) (once : each_once cs ≡ true) (before : List Note) (fresh : (x : List ℕ) → seen before (at x) ≡ false) (none : repeats before n ≡ false) where
      abbrev others : List Note
      others = fold (step top) before (before_in cs n)

      seen_is : (x : List ℕ) → seen others (at x) ≡ are_there x (own_before (own nodes) item (before_in cs n))
      seen_is x =
          seen_items (before_in cs n) before x
          ∙ ap (λ (b : Bool). are_there x (own_before (own nodes) item (before_in cs n)) || b) (fresh x)
          ∙ or-false (are_there x (own_before (own nodes) item (before_in cs n)))

      as_names : repeats (step top others n) n ≡ repeats (with_names all top k n (own nodes n) others) n
      as_names =
          ap (λ (j : NodeKind). repeats (with_item_of all nodes (list_of j) top n others) n) kind_is
          ∙ ap (λ (o : Option ListKind). repeats (with_item_of all nodes o top n others) n) is.its
          ∙ ap (λ (names : List (List ℕ)). repeats (with_names all top k n names others) n) (is.names nodes n)

      none_so_far : repeats others n ≡ false
      none_so_far = items_apart top n (before_in cs n) (before_none n cs) before ∙ none

      pub list_strict : IsStrict k → repeats (fold (step top) before cs) n ≡ (stand_before cs n || stand_twice all (own nodes n))
      list_strict strict =
          at_item top n cs there once before
          ∙ as_names
          ∙ names_strict all top k strict n (own nodes n) others
          ∙ ap (λ (b : Bool). (are_seen all top k others (own nodes n) || stand_twice all (own nodes n)) || b) none_so_far
          ∙ or-false (are_seen all top k others (own nodes n) || stand_twice all (own nodes n))
          ∙ ap (λ (b : Bool). b || stand_twice all (own nodes n)) (any_same (λ x. seen others (at x)) (λ x. are_there x (own_before (own nodes) item (before_in cs n))) seen_is (own nodes n))

      others_are : (x : List ℕ) → is_other (first_in others (at x)) n ≡ seen others (at x)
      others_are x = by (first_in others (at x)) refl
        where
          by : (o : Option ℕ) → first_in others (at x) ≡ o → is_other o n ≡ is_some o
          by None e = refl
          by (Some g) e = ap not (ne_eqb g n (λ is. elim (first_items top (before_in cs n) before (at x) g e) [
            | inl h ↦ true≢false (sym h ∙ ap (λ (m : ℕ). has m (before_in cs n)) is ∙ before_none n cs)
            | inr h ↦ true≢false (sym (ap (λ (o : Option ℕ). is_some o) h) ∙ fresh x)
          ]))

      pub list_loose : ((b : Bool) → is_refused k b ≡ not b) → repeats (fold (step top) before cs) n ≡ stand_before cs n
      list_loose loose =
          at_item top n cs there once before
          ∙ as_names
          ∙ names_loose all top k loose n (own nodes n) others
          ∙ ap (λ (b : Bool). list_any (λ x. is_other (first_in others (at x)) n) (own nodes n) || b) none_so_far
          ∙ or-false (list_any (λ x. is_other (first_in others (at x)) n) (own nodes n))
          ∙ any_same (λ x. is_other (first_in others (at x)) n) (λ x. are_there x (own_before (own nodes) item (before_in cs n))) (λ x. others_are x ∙ seen_is x) (own nodes n)
