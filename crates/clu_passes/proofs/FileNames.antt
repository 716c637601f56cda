-- Which names of a file stand twice, by what is noted of all its nodes.
use Rattle.std.proofs.Common.{◌≡◌, ◌∙◌, ◌⊎◌, ℕ, zero, suc, ◌<◌, ◌≤◌, Bool, true, false, ◌||◌, ◌==◌, List, [], ◌∷◌, fold, slice_get, Option, Some, None, inl, inr, refl, ap, arith}
use Rattle.std.proofs.Math.Bool.{or-false}
use Rattle.std.proofs.lemmas.Bool.{eqb-true, ne_eqb, cases_lt}
use Rattle.clu_tree.specs.declared.node.Node.{Node}
use Rattle.clu_syntax.specs.Kinds.{kind_at}
use Rattle.clu_syntax.specs.Splits.{children_of}
use Rattle.clu_settle.specs.Names.{names_of}
use Rattle.clu_name_rules.specs.declared.repeated.ListKind.{ListKind}
use Rattle.clu_name_rules.specs.declared.repeated.ListKind.TheVariants as list
use Rattle.clu_name_rules.specs.declared.repeated.Listed.{Listed}
use Rattle.clu_name_rules.specs.Repeated.{same, Note, list_of, item_names, own_names, listed_name, with_names, with_item_of, with_item, with_node, with_nodes}
use Rattle.clu_passes.specs.Notes.{has}
use Rattle.clu_passes.proofs.Noted.{seen, repeats, IsStrict, stand_twice, seen_names, names_apart, names_strict}
use Rattle.clu_passes.proofs.StandTwice.{any_none, never_names, names_elsewhere, seen_other, item_apart, items_apart}

module _ (all : List (List ℕ)) (nodes : List Node) where
  abbrev names_at : ℕ → List (List ℕ)
  names_at n = names_of (slice_get nodes n)

  abbrev children : ℕ → List ℕ
  children n = children_of (slice_get nodes n)

  abbrev own_at : ℕ → List (List ℕ)
  own_at n = own_names nodes (kind_at nodes n) n

  abbrev inside : ℕ → List Note → List Note
  inside m before = fold (with_item all nodes m) before (children m)

  abbrev upto : ℕ → List Note
  upto n = with_nodes all nodes n []

  -- ---- nothing is seen of a list before its node

  module _ (m top : ℕ) (k : ListKind) (x : List ℕ) (apart : (m == top) ≡ false) where
    abbrev it : Listed
    it = listed_name all top k x

    unseen_names : (j : ListKind) (c : ℕ) (names : List (List ℕ)) (before : List Note) → seen (with_names all m j c names before) it ≡ seen before it
    unseen_names j c names before =
        seen_names all m j c names before it
        ∙ ap (λ (b : Bool). b || seen before it) (any_none (λ y. same (listed_name all m j y) it) (λ y. names_elsewhere all nodes m top j k x y apart) names)

    unseen_item : (o : Option ListKind) (c : ℕ) (before : List Note) → seen (with_item_of all nodes o m c before) it ≡ seen before it
    unseen_item None c before = refl
    unseen_item (Some j) c before = unseen_names j c (item_names nodes j c) before

    unseen_items : (cs : List ℕ) (before : List Note) → seen (fold (with_item all nodes m) before cs) it ≡ seen before it
    unseen_items [] before = refl
    unseen_items (c ∷ cs) before = unseen_items cs (with_item all nodes m before c) ∙ unseen_item (list_of (kind_at nodes c)) c before

    pub unseen_node : (before : List Note) → seen (with_node all nodes m before) it ≡ seen before it
    unseen_node before = unseen_names list.Names m (own_at m) (inside m before) ∙ unseen_items (children m) before

  pub unseen : (n top : ℕ) (k : ListKind) (x : List ℕ) → n ≤ top → seen (upto n) (listed_name all top k x) ≡ false
  unseen zero top k x most = refl
  unseen (suc n) top k x most = unseen_node n top k x (ne_eqb n top (λ e. absurd (omega (arith, e, most)))) (upto n) ∙ unseen n top k x (omega (arith, most))

  -- ---- an item of a list

  module _ (n : ℕ) (none : own_at n ≡ []) where
    own_apart : (m : ℕ) (before : List Note) → repeats (with_node all nodes m before) n ≡ repeats (inside m before) n
    own_apart m before = by (m == n) refl
      where
        by : (b : Bool) → (m == n) ≡ b → repeats (with_names all m list.Names m (own_at m) (inside m before)) n ≡ repeats (inside m before) n
        by true is =
            ap (λ (j : ℕ). repeats (with_names all m list.Names m (own_at j) (inside m before)) n) (eqb-true m n is)
            ∙ ap (λ (names : List (List ℕ)). repeats (with_names all m list.Names m names (inside m before)) n) none
        by false is = names_apart all m list.Names m n is (own_at m) (inside m before)

    node_apart : (m : ℕ) → has n (children m) ≡ false → (before : List Note) → repeats (with_node all nodes m before) n ≡ repeats before n
    node_apart m apart before = own_apart m before ∙ items_apart all nodes m n (children m) apart before

    nodes_apart : (k : ℕ) → ((m : ℕ) → m < k → has n (children m) ≡ false) → repeats (upto k) n ≡ false
    nodes_apart zero apart = refl
    nodes_apart (suc k) apart = node_apart k (apart k (omega arith)) (upto k) ∙ nodes_apart k (λ m less. apart m (omega (arith, less)))

    -- where `stands` is what its list says
    module _ (k : ListKind) (p : ℕ) (only : (m : ℕ) → (m ≡ p → ⊥) → has n (children m) ≡ false) (stands : Bool) (law : (before : List Note) → ((x : List ℕ) → seen before (listed_name all p k x) ≡ false) → repeats before n ≡ false → repeats (inside p before) n ≡ stands) where
      at_parent : repeats (upto (suc p)) n ≡ stands
      at_parent = own_apart p (upto p) ∙ law (upto p) (λ x. unseen p p k x (omega arith)) (nodes_apart p (λ m less. only m (λ e. absurd (omega (arith, e, less)))))

      pub item_repeats : (l : ℕ) → p < l → repeats (upto l) n ≡ stands
      item_repeats zero less = absurd (omega (arith, less))
      item_repeats (suc l) less = by (λ more. item_repeats l more) (cases_lt p l)
        where
          by : (p < l → repeats (upto l) n ≡ stands) → (p < l) ⊎ (l ≤ p) → repeats (upto (suc l)) n ≡ stands
          by rest (inl more) = node_apart l (only l (λ e. absurd (omega (arith, e, more)))) (upto l) ∙ rest more
          by rest (inr last) = let same : l ≡ p = omega (arith, less, last) in ap (λ (j : ℕ). repeats (upto (suc j)) n) same ∙ at_parent

  -- ---- the names of a node that are a list by themselves

  module _ (n : ℕ) (none : list_of (kind_at nodes n) ≡ None) where
    item_never : (top c : ℕ) (before : List Note) → repeats (with_item all nodes top before c) n ≡ repeats before n
    item_never top c before = by (c == n) refl
      where
        by : (b : Bool) → (c == n) ≡ b → repeats (with_item all nodes top before c) n ≡ repeats before n
        by true is =
            ap (λ (j : ℕ). repeats (with_item_of all nodes (list_of (kind_at nodes j)) top c before) n) (eqb-true c n is)
            ∙ ap (λ (o : Option ListKind). repeats (with_item_of all nodes o top c before) n) none
        by false is = item_apart all nodes top c n is before

    items_never : (top : ℕ) (cs : List ℕ) (before : List Note) → repeats (fold (with_item all nodes top) before cs) n ≡ repeats before n
    items_never top [] before = refl
    items_never top (c ∷ cs) before = items_never top cs (with_item all nodes top before c) ∙ item_never top c before

    before_own : (k : ℕ) → k ≤ n → repeats (upto k) n ≡ false
    before_own zero most = refl
    before_own (suc k) most =
        names_apart all k list.Names k n (ne_eqb k n (λ e. absurd (omega (arith, e, most)))) (own_at k) (inside k (upto k))
        ∙ items_never k (children k) (upto k)
        ∙ before_own k (omega (arith, most))

    seen_never : (cs : List ℕ) (before : List Note) (x : List ℕ) → seen (fold (with_item all nodes n) before cs) (listed_name all n list.Names x) ≡ seen before (listed_name all n list.Names x)
    seen_never [] before x = refl
    seen_never (c ∷ cs) before x =
        seen_never cs (with_item all nodes n before c) x ∙ seen_other all nodes list.Names n (list_of (kind_at nodes c)) (never_names (kind_at nodes c)) c before x

    strict_names : IsStrict list.Names
    strict_names b = refl

    at_node : repeats (upto (suc n)) n ≡ stand_twice all (own_at n)
    at_node =
        names_strict all n list.Names strict_names n (own_at n) (inside n (upto n))
        ∙ ap (λ (b : Bool). (b || stand_twice all (own_at n)) || repeats (inside n (upto n)) n)
        (any_none (λ x. seen (inside n (upto n)) (listed_name all n list.Names x)) (λ x. seen_never (children n) (upto n) x ∙ unseen n n list.Names x (omega arith)) (own_at n))
        ∙ ap (λ (b : Bool). stand_twice all (own_at n) || b) (items_never n (children n) (upto n) ∙ before_own n (omega arith))
        ∙ or-false (stand_twice all (own_at n))

    -- one of them stands twice among them
    pub own_repeats : (l : ℕ) → n < l → repeats (upto l) n ≡ stand_twice all (own_at n)
    own_repeats zero less = absurd (omega (arith, less))
    own_repeats (suc l) less = by (λ more. own_repeats l more) (cases_lt n l)
      where
        by : (n < l → repeats (upto l) n ≡ stand_twice all (own_at n)) → (n < l) ⊎ (l ≤ n) → repeats (upto (suc l)) n ≡ stand_twice all (own_at n)
        by rest (inl more) =
            names_apart all l list.Names l n (ne_eqb l n (λ e. absurd (omega (arith, e, more)))) (own_at l) (inside l (upto l))
            ∙ items_never l (children l) (upto l)
            ∙ rest more
        by rest (inr last) = let same : l ≡ n = omega (arith, less, last) in ap (λ (j : ℕ). repeats (upto (suc j)) n) same ∙ at_node
