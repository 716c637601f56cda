-- Of which kinds the children of a node are.
use Rattle.std.proofs.Common.{◌≡◌, ◌∙◌, ℕ, zero, suc, ◌+◌, ◌<◌, Bool, true, false, if◌then◌else◌, List, [], ◌∷◌, map, take, drop, get_or, Option, Some, None, refl, ap, sym, subst, inl, inr, rules, arith, add-one}
use Rattle.std.specs.Prelude.{slice_get}
use Rattle.std.specs.List.{All, AllByRecursion}
use Rattle.std.proofs.lemmas.Bool.{cases_Bool, true≢false}
use Rattle.std.proofs.lemmas.List.Elements.{All-head, All-tail}
use Rattle.clu_tree.specs.declared.node.Node.{Node}
use Rattle.clu_tree.specs.declared.node.NodeKind.{NodeKind}
use Rattle.clu_tree.specs.contracts.node.NodeKind.{the_type}
use Rattle.clu_tree.specs.Nodes.{IsTree}
use Rattle.clu_parser.specs.Shape.{HaveForms}
use Rattle.clu_syntax.specs.Kinds.{is_type, kind_at, kind_of}
use Rattle.clu_syntax.specs.Slots.{Slot, one, any, slots, after, may_end, fit}
use Rattle.clu_syntax.specs.Splits.{child, is_of, leading, leading_types, run, children_of, parts, after_one}
use Rattle.clu_syntax.proofs.Slots.{children_fit}
use denote.Enum.Bare.{same_true}

-- ---- slots

fit_some : (ss rest : List Slot) (k : NodeKind) (ks : List NodeKind) → after ss k ≡ Some rest → fit ss (k ∷ ks) ≡ fit rest ks
unfolding fit
fit_some ss rest k ks e = ap (λ (o : Option (List Slot)). elim o [ None ↦ false | Some more ↦ fit more ks ]) e

fit_none : (ss : List Slot) (k : NodeKind) (ks : List NodeKind) → after ss k ≡ None → fit ss (k ∷ ks) ≡ false
unfolding fit
fit_none ss k ks e = ap (λ (o : Option (List Slot)). elim o [ None ↦ false | Some more ↦ fit more ks ]) e

after_one_is : (p : NodeKind → Bool) (ss : List Slot) (k : NodeKind) (b : Bool) → p k ≡ b → after (one p ∷ ss) k ≡ (if b then Some ss else None)
unfolding after
after_one_is p ss k b e = ap (λ (b : Bool). if b then Some ss else None) e

after_any_is : (p : NodeKind → Bool) (k : NodeKind) (b : Bool) → p k ≡ b → after (any p ∷ []) k ≡ (if b then Some (any p ∷ []) else None)
unfolding after
after_any_is p k b e = ap (λ (b : Bool). if b then Some (any p ∷ []) else None) e

pub one_fits : (p : NodeKind → Bool) (ss : List Slot) (k : NodeKind) (ks : List NodeKind) → fit (one p ∷ ss) (k ∷ ks) ≡ true → (p k ≡ true) × (fit ss ks ≡ true)
one_fits p ss k ks h = by (p k) refl
  where
    by : (b : Bool) → p k ≡ b → (p k ≡ true) × (fit ss ks ≡ true)
    by true e = (e, sym (fit_some (one p ∷ ss) ss k ks (after_one_is p ss k true e)) ∙ h)
    by false e = absurd (true≢false (sym h ∙ fit_none (one p ∷ ss) k ks (after_one_is p ss k false e)))

pub one_missing : (p : NodeKind → Bool) (ss : List Slot) → fit (one p ∷ ss) [] ≡ true → ⊥
unfolding fit may_end
one_missing p ss h = true≢false (sym h)

-- ---- parts before a node, of a kind

abbrev pub IsPart : List Node → (NodeKind → Bool) → ℕ → ℕ → Type 0
IsPart nodes p n c = (c < n) × (p (kind_at nodes c) ≡ true)

abbrev pub AreParts : List Node → (NodeKind → Bool) → ℕ → List ℕ → Type 0
AreParts nodes p n cs = AllByRecursion (IsPart nodes p n) cs

abbrev pub AreBefore : ℕ → List ℕ → Type 0
AreBefore n cs = AllByRecursion (λ c. c < n) cs

pub are_before : (n m : ℕ) (cs : List ℕ) → m < suc n → All (λ c. c < m) cs → AreBefore n cs
are_before n m [] l all = tt
are_before n m (c ∷ cs) l all = let first : c < m = All-head (λ c. c < m) c cs all in (omega (arith, first, l), are_before n m cs l (All-tail (λ c. c < m) c cs all))

module _ (nodes : List Node) where
  pub any_fits : (p : NodeKind → Bool) (n : ℕ) (cs : List ℕ) → AreBefore n cs → fit (any p ∷ []) (map (kind_at nodes) cs) ≡ true → AreParts nodes p n cs
  any_fits p n [] l h = tt
  any_fits p n (c ∷ cs) l h = by (p (kind_at nodes c)) refl (λ more. any_fits p n cs l.1 more)
    where
      by : (b : Bool) → p (kind_at nodes c) ≡ b → (fit (any p ∷ []) (map (kind_at nodes) cs) ≡ true → AreParts nodes p n cs) → AreParts nodes p n (c ∷ cs)
      by true e rest = ((l.0, e), rest (sym (fit_some (any p ∷ []) (any p ∷ []) (kind_at nodes c) (map (kind_at nodes) cs) (after_any_is p (kind_at nodes c) true e)) ∙ h))
      by false e rest = absurd (true≢false (sym h ∙ fit_none (any p ∷ []) (kind_at nodes c) (map (kind_at nodes) cs) (after_any_is p (kind_at nodes c) false e)))

  -- the front of a list
  before_taken : (n k : ℕ) (cs : List ℕ) → AreBefore n cs → AreBefore n (take k cs)
  before_taken n zero cs l = tt
  before_taken n (suc k) [] l = tt
  before_taken n (suc k) (c ∷ cs) l = (l.0, before_taken n k cs l.1)

  pub before_dropped : (n k : ℕ) (cs : List ℕ) → AreBefore n cs → AreBefore n (drop k cs)
  before_dropped n zero cs l = l
  before_dropped n (suc k) [] l = tt
  before_dropped n (suc k) (c ∷ cs) l = before_dropped n k cs l.1

  pub all_before : (p : NodeKind → Bool) (n : ℕ) (cs : List ℕ) → AreParts nodes p n cs → AreBefore n cs
  all_before p n [] all = tt
  all_before p n (c ∷ cs) all = (all.0.0, all_before p n cs all.1)

  pub same_kind : (k other : NodeKind) → is_of k other ≡ true → other ≡ k
  same_kind k other e = same_true the_type (search rules) other k e

  -- those with which a list begins
  pub types_leading : (n : ℕ) (cs : List ℕ) → AreBefore n cs → AreParts nodes is_type n (take (leading_types nodes cs) cs)
  unfolding leading_types
  types_leading n [] l = tt
  types_leading n (c ∷ cs) l = elim (cases_Bool (is_type (kind_at nodes c))) [
    | inl e ↦
        let counted : leading_types nodes (c ∷ cs) ≡ suc (leading_types nodes cs) = ap (λ (b : Bool). if b then leading_types nodes cs + 1 else 0) e ∙ add-one (leading_types nodes cs) in
        subst (λ (k : ℕ). AreParts nodes is_type n (take k (c ∷ cs))) (sym counted) ((l.0, e), types_leading n cs l.1)
    | inr e ↦
        let none : leading_types nodes (c ∷ cs) ≡ 0 = ap (λ (b : Bool). if b then leading_types nodes cs + 1 else 0) e in
        subst (λ (k : ℕ). AreParts nodes is_type n (take k (c ∷ cs))) (sym none) tt
  ]

  pub run_parts : (k : NodeKind) (n : ℕ) (cs : List ℕ) → AreBefore n cs → AreParts nodes (is_of k) n (run nodes k cs)
  unfolding leading
  run_parts k n [] l = tt
  run_parts k n (c ∷ cs) l = elim (cases_Bool (is_of k (kind_at nodes c))) [
    | inl e ↦
        let counted : leading nodes k (c ∷ cs) ≡ suc (leading nodes k cs) = ap (λ (b : Bool). if b then leading nodes k cs + 1 else 0) e ∙ add-one (leading nodes k cs) in
        subst (λ (x : ℕ). AreParts nodes (is_of k) n (take x (c ∷ cs))) (sym counted) ((l.0, e), run_parts k n cs l.1)
    | inr e ↦
        let none : leading nodes k (c ∷ cs) ≡ 0 = ap (λ (b : Bool). if b then leading nodes k cs + 1 else 0) e in
        subst (λ (x : ℕ). AreParts nodes (is_of k) n (take x (c ∷ cs))) (sym none) tt
  ]

  pub before_after_one : (k : NodeKind) (n : ℕ) (cs : List ℕ) → AreBefore n cs → AreBefore n (after_one nodes k cs)
  before_after_one k n [] l = tt
  before_after_one k n (c ∷ cs) l = by (is_of k (kind_at nodes c))
    where
      by : (b : Bool) → AreBefore n (if b then cs else c ∷ cs)
      by true = l.1
      by false = l

  further : (n c : ℕ) (p : NodeKind → Bool) (cs : List ℕ) → c < n → AreParts nodes p c cs → AreParts nodes p n cs
  further n c p [] l all = tt
  further n c p (x ∷ cs) l all = let less : x < c = all.0.0 in ((omega (arith, less, l), all.0.1), further n c p cs l all.1)

  -- ---- of a tree

  module _ (tree : IsTree nodes) (shaped : HaveForms nodes) where
    pub children_before : (n : ℕ) (node : Node) → slice_get nodes n ≡ Some node → AreBefore n node.children
    children_before n node at = are_before n n node.children (omega arith) (tree.below n node at)

    -- the children of a node with one slot for any number of children
    pub all_parts : (p : NodeKind → Bool) (n : ℕ) (node : Node) → slice_get nodes n ≡ Some node → slots node.kind ≡ any p ∷ [] → AreParts nodes p n node.children
    all_parts p n node at is = any_fits p n node.children (children_before n node at)
        (subst (λ (ss : List Slot). fit ss (map (kind_at nodes) node.children) ≡ true) is (children_fit nodes shaped n node at))

    -- the first child, where one must stand there, and those after it
    pub record FirstPart (p : NodeKind → Bool) (ss : List Slot) (n : ℕ) (node : Node) : Type 0 where
      pub first : IsPart nodes p n (child 0 node)
      pub rest : fit ss (map (kind_at nodes) (drop 1 node.children)) ≡ true
      pub is : node.children ≡ child 0 node ∷ drop 1 node.children
      pub before : AreBefore n (drop 1 node.children)

    pub first_part : (p : NodeKind → Bool) (ss : List Slot) (n : ℕ) (node : Node) → slice_get nodes n ≡ Some node → slots node.kind ≡ one p ∷ ss → FirstPart p ss n node
    first_part p ss n node at is = by node.children refl (children_before n node at) (subst (λ (ss : List Slot). fit ss (map (kind_at nodes) node.children) ≡ true) is (children_fit nodes shaped n node at))
      where
        by : (cs : List ℕ) → node.children ≡ cs → AreBefore n cs → fit (one p ∷ ss) (map (kind_at nodes) cs) ≡ true → FirstPart p ss n node
        by [] e l h = absurd (one_missing p ss h)
        by (c ∷ cs) e l h =
            let f = one_fits p ss (kind_at nodes c) (map (kind_at nodes) cs) h in
            let first : child 0 node ≡ c = ap (λ (cs : List ℕ). get_or cs 0 0) e in
            let rest : drop 1 node.children ≡ cs = ap (drop 1) e in
            record {
              first = subst (IsPart nodes p n) (sym first) (l.0, f.0);
              rest = subst (λ (cs : List ℕ). fit ss (map (kind_at nodes) cs) ≡ true) (sym rest) f.1;
              is = e ∙ ap (λ (x : ℕ). x ∷ cs) (sym first) ∙ ap (λ (cs : List ℕ). child 0 node ∷ cs) (sym rest);
              before = subst (AreBefore n) (sym rest) l.1;
            }

    -- the second child, where one must stand there
    pub second_part : (p : NodeKind → Bool) (ss : List Slot) (n : ℕ) (node : Node) (first : ℕ) → node.children ≡ first ∷ drop 1 node.children → fit (one p ∷ ss) (map (kind_at nodes) (drop 1 node.children)) ≡ true → AreBefore n (drop 1 node.children) → IsPart nodes p n (child 1 node)
    second_part p ss n node first is h l = by (drop 1 node.children) refl h l
      where
        by : (cs : List ℕ) → drop 1 node.children ≡ cs → fit (one p ∷ ss) (map (kind_at nodes) cs) ≡ true → AreBefore n cs → IsPart nodes p n (child 1 node)
        by [] e h l = absurd (one_missing p ss h)
        by (c ∷ cs) e h l =
            let second : child 1 node ≡ c = ap (λ (cs : List ℕ). get_or cs 1 0) (is ∙ ap (λ (cs : List ℕ). first ∷ cs) e) in
            subst (IsPart nodes p n) (sym second) (l.0, (one_fits p ss (kind_at nodes c) (map (kind_at nodes) cs) h).0)

    -- the parts of the first node of a list, where that is of this kind
    pub parts_of_first : (k : NodeKind) (p : NodeKind → Bool) → slots k ≡ any p ∷ [] → (n : ℕ) (cs : List ℕ) → AreBefore n cs → AreParts nodes p n (parts nodes k cs)
    parts_of_first k p are n [] l = tt
    parts_of_first k p are n (c ∷ cs) l = by (is_of k (kind_at nodes c)) refl (slice_get nodes c) refl
      where
        by : (b : Bool) → is_of k (kind_at nodes c) ≡ b → (its : Option Node) → slice_get nodes c ≡ its → AreParts nodes p n (if b then children_of its else [])
        by true e None at = tt
        by true e (Some node) at =
            let same : node.kind ≡ k = sym (ap kind_of at) ∙ same_kind k (kind_at nodes c) e in
            further n c p node.children l.0 (all_parts p c node at (ap slots same ∙ are))
        by false e its at = tt
