-- Depths, set from the last node to the first.
use Rattle.std.proofs.Common.{◌≡◌, ◌≢◌, ℕ, zero, suc, ◌+◌, ◌<◌, ◌≤◌, List, [], ◌∷◌, length, get_or, Option, Some, None, MatchOption, slice_get, Contains, refl, sym, ap, ◌∙◌, subst, arith, inl, inr, ◌⊎◌}
use Rattle.std.proofs.Math.ListN.{set, length-set}
use Rattle.std.proofs.lemmas.List.{get_or-set_same, get_or-set_other}
use Rattle.std.proofs.lemmas.List.Elements.{All-contains}
use Rattle.std.proofs.lemmas.Option.{slice_get_within}
use Rattle.clu_base.specs.declared.tokens.Place.{Place}
use Rattle.clu_tree.specs.declared.node.Node.{Node}
use Rattle.clu_tree.specs.Nodes.{IsTree}
use Rattle.clu_parser.specs.Depths.{IsDepth, top, below, AreDepths, set_all, IsBefore, IsNotBefore, IsPlaceOf, AreShallow, IsFirstDeep, IsEarlier}

-- from n on no node has k as a child
abbrev pub NoParent : List Node → ℕ → ℕ → Type 0
NoParent nodes n k = (p : ℕ) (m : Node) → n ≤ p → slice_get nodes p ≡ Some m → Contains m.children k → ⊥

-- the nodes from n on have given their children their depths
pub record IsDeepFrom (nodes : List Node) (n : ℕ) (depths : List ℕ) : Type 0 where
  pub size : length depths ≡ length nodes
  pub within : n ≤ length nodes
  pub each : (k : ℕ) → k < length nodes → IsDepth nodes k (get_or depths k 0) ⊎ ((get_or depths k 0 ≡ 0) × NoParent nodes n k)
  pub room : (k : ℕ) → k < length nodes → get_or depths k 0 + k < length nodes

pub deep_none : (nodes : List Node) (depths : List ℕ) → length depths ≡ length nodes → ((k : ℕ) → get_or depths k 0 ≡ 0) → IsDeepFrom nodes (length nodes) depths
deep_none nodes depths size zeros =
    record {
      size = size;
      within = omega arith;
      each = λ k inside. inr (zeros k, λ p m past at has. let inside' : p < length nodes = slice_get_within nodes p m at in absurd (omega arith));
      room = λ k inside. omega (arith, zeros k);
    }

length-set_all : (xs ns : List ℕ) (v : ℕ) → length (set_all xs ns v) ≡ length xs
length-set_all xs [] v = refl
length-set_all xs (n ∷ ns) v = length-set_all (set xs n v) ns v ∙ length-set xs n v

has_tail : (n : ℕ) (ns : List ℕ) (k : ℕ) → Contains ns k → Contains (n ∷ ns) k
has_tail n ns k has = (suc has.0, omega (arith, has.1), has.2)

same_or_not : (k n : ℕ) → (k ≡ n) ⊎ (k ≢ n)
same_or_not zero zero = inl refl
same_or_not zero (suc n) = inr (λ is. omega arith)
same_or_not (suc k) zero = inr (λ is. omega arith)
same_or_not (suc k) (suc n) = elim (same_or_not k n) [ inl same ↦ inl (ap suc same) | inr differ ↦ inr (λ is. differ (omega arith)) ]

not_has : (n : ℕ) (ns : List ℕ) (k : ℕ) → k ≢ n → (Contains ns k → ⊥) → Contains (n ∷ ns) k → ⊥
not_has n ns k differ none (zero, inside, is) = differ (sym is)
not_has n ns k differ none (suc i, inside, is) = none (i, omega arith, is)

-- a place is among those that are set, or keeps its number
set_cases : (ns xs : List ℕ) (v k : ℕ) → k < length xs → (Contains ns k × (get_or (set_all xs ns v) k 0 ≡ v)) ⊎ ((Contains ns k → ⊥) × (get_or (set_all xs ns v) k 0 ≡ get_or xs k 0))
set_cases [] xs v k inside = inr (λ has. let no : has.0 < 0 = has.1 in omega arith, refl)
set_cases (n ∷ ns) xs v k inside = elim (set_cases ns (set xs n v) v k (omega (arith, length-set xs n v))) [
  | inl found ↦ inl (has_tail n ns k found.0, found.1)
  | inr kept ↦ elim (same_or_not k n) [
    | inl same ↦ inl ((0, omega arith, sym same), kept.1 ∙ rw same (get_or-set_same xs n v 0 (omega arith)))
    | inr differ ↦ inr (not_has n ns k differ kept.0, kept.1 ∙ get_or-set_other xs n k v 0 differ)
  ]
]

own_depth : (nodes : List Node) (depths : List ℕ) (i : ℕ) → IsTree nodes → i < length nodes → IsDeepFrom nodes (i + 1) depths → IsDepth nodes i (get_or depths i 0)
own_depth nodes depths i tree inside known = elim (known.each i inside) [
  | inl is ↦ is
  | inr none ↦ subst (IsDepth nodes i) (sym none.0) (top i (λ p m at has.
      let above : i < p = All-contains (λ c. c < p) m.children i (tree.below p m at) has in none.1 p m (omega arith) at has))
]

same_node : (nodes : List Node) (i : ℕ) (m k : Node) → slice_get nodes i ≡ Some m → slice_get nodes i ≡ Some k → m ≡ k
same_node nodes i m k at at' = let h = sym at ∙ at' in cc

pub deep_more : (nodes : List Node) (depths : List ℕ) (i : ℕ) (m : Node) → IsTree nodes → slice_get nodes i ≡ Some m → IsDeepFrom nodes (i + 1) depths → IsDeepFrom nodes i (set_all depths m.children (get_or depths i 0 + 1))
deep_more nodes depths i m tree at known =
    let inside : i < length nodes = slice_get_within nodes i m at in
    let own = own_depth nodes depths i tree inside known in
    record {
      size = length-set_all depths m.children (get_or depths i 0 + 1) ∙ known.size;
      within = omega (arith, known.within);
      each = λ k below'. elim (set_cases m.children depths (get_or depths i 0 + 1) k (omega (arith, known.size))) [
        | inl found ↦ inl (subst (IsDepth nodes k) (sym found.1) (below i k (get_or depths i 0) m at found.0 own))
        | inr kept ↦ elim (known.each k below') [
          | inl is ↦ inl (subst (IsDepth nodes k) (sym kept.1) is)
          | inr none ↦ inr (
            kept.1 ∙ none.0,
            λ p q past at' has. elim (same_or_not p i) [
              | inl same ↦ kept.0 (subst (λ (x : Node). Contains x.children k) (same_node nodes i q m (subst (λ (x : ℕ). slice_get nodes x ≡ Some q) same at') at) has)
              | inr differ ↦ none.1 p q (omega (arith, differ)) at' has
            ],
          )
        ]
      ];
      room = λ k below'. elim (set_cases m.children depths (get_or depths i 0 + 1) k (omega (arith, known.size))) [
        | inl found ↦ (let above : k < i = All-contains (λ c. c < i) m.children k (tree.below i m at) found.0 in omega (arith, found.1, known.room i inside))
        | inr kept ↦ omega (arith, kept.1, known.room k below')
      ];
    }

pub deep_all : (nodes : List Node) (depths : List ℕ) → IsDeepFrom nodes 0 depths → AreDepths nodes depths
deep_all nodes depths known =
    record {
      size = known.size;
      each = λ n inside. elim (known.each n inside) [
        | inl is ↦ is
        | inr none ↦ subst (IsDepth nodes n) (sym none.0) (top n (λ p m at has. none.1 p m (omega arith) at has))
      ];
    }

-- the first place of a deep node among the first n nodes, if there is one
abbrev pub IsFirstOf : List Node → List ℕ → ℕ → Option Place → Type 0
IsFirstOf nodes depths n first = MatchOption first (AreShallow depths n) (IsFirstDeep nodes depths n)

shallow_more : (depths : List ℕ) (n k : ℕ) → AreShallow depths n → get_or depths n 0 ≤ 200 → k < n + 1 → get_or depths k 0 ≤ 200
shallow_more depths n k known here less = elim (same_or_not k n) [ inl same ↦ rw same here | inr differ ↦ known k (omega (arith, differ)) ]

pub first_kept : (nodes : List Node) (depths : List ℕ) (n : ℕ) (first : Option Place) → IsFirstOf nodes depths n first → get_or depths n 0 ≤ 200 → IsFirstOf nodes depths (n + 1) first
first_kept nodes depths n None known here = λ k less. shallow_more depths n k known here less
first_kept nodes depths n (Some place) known here =
    record {
      node = known.node;
      within = omega (arith, known.within);
      deep = known.deep;
      here = known.here;
      first = λ k m less deep at. elim (same_or_not k n) [
        | inl same ↦ (let deep' : 200 < get_or depths n 0 = subst (λ (x : ℕ). 200 < get_or depths x 0) same deep in absurd (omega arith))
        | inr differ ↦ known.first k m (omega (arith, differ)) deep at
      ];
    }

not_before_itself : (p : Place) → IsNotBefore p p
not_before_itself p = inr (refl, omega arith)

not_before_earlier : (j n e : Place) → IsNotBefore j e → IsBefore n e → IsNotBefore j n
not_before_earlier j n e (inl a) (inl b) = inl (omega arith)
not_before_earlier j n e (inl a) (inr b) = inl (omega (arith, b.0))
not_before_earlier j n e (inr a) (inl b) = inl (omega (arith, a.0))
not_before_earlier j n e (inr a) (inr b) = inr (b.0 ∙ a.0, omega (arith, a.1, b.1))

found_at : (nodes : List Node) (n : ℕ) (m : Node) → slice_get nodes n ≡ Some m → IsPlaceOf (slice_get nodes n) m.place
found_at nodes n m at = rw at refl

-- the n-th node stands first
first_here : (nodes : List Node) (depths : List ℕ) (n : ℕ) (m : Node) → slice_get nodes n ≡ Some m → 200 < get_or depths n 0 → ((k : ℕ) (q : Node) → k < n → 200 < get_or depths k 0 → slice_get nodes k ≡ Some q → IsNotBefore q.place m.place) → IsFirstDeep nodes depths (n + 1) m.place
first_here nodes depths n m at deep others =
    record {
      node = n;
      within = omega arith;
      deep = deep;
      here = found_at nodes n m at;
      first = λ k q less deep' at'. elim (same_or_not k n) [
        | inl same ↦ subst (λ (x : Node). IsNotBefore x.place m.place) (same_node nodes n m q at (subst (λ (x : ℕ). slice_get nodes x ≡ Some q) same at')) (not_before_itself m.place)
        | inr differ ↦ others k q (omega (arith, differ)) deep' at'
      ];
    }

pub first_found : (nodes : List Node) (depths : List ℕ) (n : ℕ) (first : Option Place) (m : Node) (place : Place) → IsFirstOf nodes depths n first → slice_get nodes n ≡ Some m → 200 < get_or depths n 0 → IsEarlier first m.place place → IsFirstDeep nodes depths (n + 1) place
first_found nodes depths n None m place known at deep is =
    subst (IsFirstDeep nodes depths (n + 1)) (sym is) (first_here nodes depths n m at deep (λ k q less deep' at'. let low : get_or depths k 0 ≤ 200 = known k less in absurd (omega arith)))
first_found nodes depths n (Some found) m place known at deep (inl new) =
    subst (IsFirstDeep nodes depths (n + 1)) (sym new.0) (first_here nodes depths n m at deep (λ k q less deep' at'. not_before_earlier q.place m.place found (known.first k q less deep' at') new.1))
first_found nodes depths n (Some found) m place known at deep (inr old) =
    subst (IsFirstDeep nodes depths (n + 1)) (sym old.0)
    (record {
      node = known.node;
      within = omega (arith, known.within);
      deep = known.deep;
      here = known.here;
      first = λ k q less deep' at'. elim (same_or_not k n) [
        | inl same ↦ subst (λ (x : Node). IsNotBefore x.place found) (same_node nodes n m q at (subst (λ (x : ℕ). slice_get nodes x ≡ Some q) same at')) old.1
        | inr differ ↦ known.first k q (omega (arith, differ)) deep' at'
      ];
    })
