-- What guards a node: the Excepts in whose statement it stands, of which each node has those of its parent, and the parent if
-- that is one and the node its statement.
use Rattle.std.proofs.Common.{◌≡◌, ◌∙◌, ◌⊎◌, ℕ, zero, suc, ◌+◌, ◌-◌, ◌<◌, ◌≤◌, nat_le, Bool, true, false, ◌&&◌, ◌||◌, ◌==◌, List, [], ◌∷◌, length, map, Option, Some, None, inl, inr, refl, sym, ap, subst, arith}
use Rattle.std.specs.Prelude.{slice_get}
use Rattle.std.specs.List.{AllByRecursion, list_any, range_with_len}
use Rattle.std.proofs.Math.Bool.{and-false, or-false}
use Rattle.std.proofs.lemmas.Bool.{true≢false, cases_lt, and_parts, and_from, or_cases, or_left, or_right, eq-eqb, eqb-true, ne_eqb, leb-true, le-leb, lt-leb}
use Rattle.std.proofs.lemmas.Option.{same_Some, slice_get_within}
use Rattle.clu_base.proofs.Bools.{same_truth}
use Rattle.clu_tree.specs.declared.node.Node.{Node}
use Rattle.clu_tree.specs.declared.node.NodeKind.TheVariants as kind
use Rattle.clu_tree.specs.Nodes.{IsTree}
use Rattle.clu_parser.specs.Order.{IsForest, none, tree}
use Rattle.clu_parser.specs.Trees.{Text}
use Rattle.clu_syntax.specs.declared.bodies.Part.{Part}
use Rattle.clu_syntax.specs.declared.round.Round.{Round}
use Rattle.clu_syntax.specs.Bodies.{first_part}
use Rattle.clu_syntax.specs.Kinds.{kind_at, kind_of}
use Rattle.clu_syntax.specs.Rounds.{AreRounds, round_at, rounds_in, guard_in, child_round, child_part}
use Rattle.clu_parts.proofs.Fitting.{AreBefore, children_before}
use Rattle.clu_checking.specs.Files.{File, is_kind, parent, numbers, node_children, children, stands_below}
use Rattle.clu_checking.specs.ExceptionRules.{guards, is_guarded_by}
use Rattle.clu_declares.specs.Declares.{IsParsed}
use Rattle.clu_declares.proofs.Around.{there}
use Rattle.clu_declares.proofs.Facts.{further}
use Rattle.clu_declares.proofs.Parents.{IsIn, of_all}
use Rattle.clu_passes.specs.Notes.{has, HaveParents}
use Rattle.clu_passes.proofs.Noted.{any_either, any_same}
use Rattle.clu_passes.proofs.OfParents.{is_in, has_it, have_parents}
use Rattle.clu_passes.proofs.StandTwice.{any_none}
use Rattle.clu_passes.proofs.Subtrees.{AreFirst, firsts_of, is_subtree}

-- ---- nodes below a node

record ParentBelow (nodes : List Node) (to c : ℕ) : Type 0 where
  above : ℕ
  node : Node
  at : slice_get nodes above ≡ Some node
  child : IsIn c node.children
  less : above < to

module _ (nodes : List Node) where
  upward : (from to : ℕ) (roots : List ℕ) → IsForest nodes from roots to → from ≤ to
  upward from to _ (none _) = omega arith
  upward from to _ (tree _ root _ its roots here inside behind) =
      let first : from ≤ root = upward from root its.children inside in
      let rest : root + 1 ≤ to = upward (root + 1) to roots behind in
      omega (arith, first, rest)

  covers : (from to : ℕ) (roots : List ℕ) → IsForest nodes from roots to → (c : ℕ) → from ≤ c → c < to → IsIn c roots ⊎ ParentBelow nodes to c
  covers from to _ (none _) c l m = absurd (omega (arith, l, m))
  covers from to _ (tree _ root _ its roots here inside behind) c l m =
      let rest : root + 1 ≤ to = upward (root + 1) to roots behind in
      elim (cases_lt c root) [
        | inl less ↦ elim (covers from root its.children inside c l less) [
          | inl i ↦ inr (record { above = root; node = its; at = here; child = i; less = omega (arith, rest) })
          | inr p ↦ inr (record { above = p.above; node = p.node; at = p.at; child = p.child; less = (let less : p.above < root = p.less in omega (arith, rest, less)) })
        ]
        | inr more ↦ elim (cases_lt root c) [
          | inl after ↦ elim (covers (root + 1) to roots behind c (omega (arith, after)) m) [ inl i ↦ inl (inr i) | inr p ↦ inr p ]
          | inr upto ↦ inl (inl (omega (arith, more, upto)))
        ]
      ]

  roots_from : (from to : ℕ) (roots : List ℕ) → IsForest nodes from roots to → (c : ℕ) → IsIn c roots → from ≤ c
  roots_from from to _ (none _) c i = absurd i
  roots_from from to _ (tree _ root _ its roots here inside behind) c (inl e) = let first : from ≤ root = upward from root its.children inside in omega (arith, first, e)
  roots_from from to _ (tree _ root _ its roots here inside behind) c (inr i) =
      let first : from ≤ root = upward from root its.children inside in
      let rest : root + 1 ≤ c = roots_from (root + 1) to roots behind c i in
      omega (arith, first, rest)

  module _ (rounds : List Round) (is_tree : IsTree nodes) (are : AreRounds nodes rounds) where
    -- each begins within
    begins : (from to : ℕ) (roots : List ℕ) → IsForest nodes from roots to → AreFirst rounds from roots → (c : ℕ) → from ≤ c → c < to → from ≤ (round_at rounds c).first
    begins from to _ (none _) firsts c l m = absurd (omega (arith, l, m))
    begins from to _ (tree _ root _ its roots here inside behind) firsts c l m = elim (cases_lt c root) [
      | inl less ↦ begins from root its.children inside (subst (λ (first : ℕ). AreFirst rounds first its.children) firsts.0 (firsts_of nodes rounds is_tree are root its here)) c l less
      | inr upto ↦ elim (cases_lt root c) [
        | inl after ↦ (let first : from ≤ root = upward from root its.children inside in
            let rest : root + 1 ≤ (round_at rounds c).first = begins (root + 1) to roots behind firsts.1 c (omega (arith, after)) m in
            omega (arith, first, rest))
        | inr back ↦ (let same : root ≡ c = omega (arith, upto, back) in
            let its_first : (round_at rounds c).first ≡ from = ap (λ (k : ℕ). (round_at rounds k).first) (sym same) ∙ firsts.0 in
            omega (arith, its_first))
      ]
    ]

-- ---- the guard of a child

module _ (nodes : List Node) (rounds : List Round) (n : ℕ) (node : Node) where
  abbrev pub IsGuarded : ℕ → Type 0
  IsGuarded c = (round_at rounds c).guard ≡ guard_in node.kind (kind_at nodes c) n (round_at rounds n)

  all_guarded : (before : Part) (first : ℕ) (cs : List ℕ) → AreBefore (length nodes) cs → map (round_at rounds) cs ≡ rounds_in nodes n node (round_at rounds n) before first cs → AllByRecursion IsGuarded cs
  unfolding rounds_in
  all_guarded before first [] l e = tt
  all_guarded before first (c ∷ cs) l e =
      let part : Part = child_part nodes node (slice_get nodes c) before first (c ∷ cs) in
      let head : round_at rounds c ≡ child_round nodes n node (slice_get nodes c) (round_at rounds n) first part = cc in
      let tail : map (round_at rounds) cs ≡ rounds_in nodes n node (round_at rounds n) part (c + 1) cs = cc in
      let m = there nodes c l.0 in
      let its : round_at rounds c ≡ child_round nodes n node (Some m.0) (round_at rounds n) first part = head ∙ ap (λ (o : Option Node). child_round nodes n node o (round_at rounds n) first part) m.1 in
      (ap (λ (r : Round). r.guard) its ∙ ap (λ (o : Option Node). guard_in node.kind (kind_of o) n (round_at rounds n)) (sym m.1), all_guarded part (c + 1) cs l.1 tail)

  pub guarded : AreRounds nodes rounds → IsTree nodes → slice_get nodes n ≡ Some node → AllByRecursion IsGuarded node.children
  guarded are is_tree at =
      let inside : n < length nodes = slice_get_within nodes n node at in
      all_guarded (first_part nodes node (round_at rounds n).first) (round_at rounds n).first node.children
      (further n (length nodes) node.children (omega (arith, inside)) (children_before nodes is_tree n node at)) (are.children_are n node at)

-- ---- what guards a node, by its parent

-- of one Except, and of all of them
shuffled : (k a b c : Bool) → (k && (a || (b && c))) ≡ ((k && a) || (c && (k && b)))
shuffled true true b c = refl
shuffled true false true true = refl
shuffled true false true false = refl
shuffled true false false true = refl
shuffled true false false false = refl
shuffled false a b true = refl
shuffled false a b false = refl

spread : (a b c m : Bool) → ((a || (b && c)) && m) ≡ ((a && m) || (b && (c && m)))
spread true true true true = refl
spread true true true false = refl
spread true true false true = refl
spread true true false false = refl
spread true false c true = refl
spread true false c false = refl
spread false true c m = refl
spread false false c m = refl

any_past : (q : ℕ → Bool) (p a k : ℕ) → p < a → list_any (λ e. p == e && q e) (range_with_len a k) ≡ false
any_past q p a zero l = refl
any_past q p a (suc k) l = ap (λ (b : Bool). (b && q a) || list_any (λ e. p == e && q e) (range_with_len (a + 1) k)) (ne_eqb p a (λ e. omega (arith, e, l))) ∙ any_past q p (a + 1) k (omega (arith, l))

-- of one number of a range
any_at : (q : ℕ → Bool) (p a k : ℕ) → a ≤ p → p < a + k → list_any (λ e. p == e && q e) (range_with_len a k) ≡ q p
any_at q p a zero l m = absurd (omega (arith, l, m))
any_at q p a (suc k) l m = by (cases_lt a p) (λ n o. any_at q p (a + 1) k n o)
  where
    by : (a < p) ⊎ (p ≤ a) → (a + 1 ≤ p → p < (a + 1) + k → list_any (λ e. p == e && q e) (range_with_len (a + 1) k) ≡ q p) → list_any (λ e. p == e && q e) (range_with_len a (suc k)) ≡ q p
    by (inl less) more = ap (λ (b : Bool). (b && q a) || list_any (λ e. p == e && q e) (range_with_len (a + 1) k)) (ne_eqb p a (λ e. omega (arith, e, less))) ∙ more (omega (arith, less)) (omega (arith, m))
    by (inr upto) more =
        let same : p ≡ a = omega (arith, l, upto) in
        ap (λ (b : Bool). (b && q a) || list_any (λ e. p == e && q e) (range_with_len (a + 1) k)) (eq-eqb p a same)
        ∙ ap (λ (b : Bool). q a || b) (any_past q p (a + 1) k (omega (arith, upto)))
        ∙ or-false (q a) ∙ ap q (sym same)

-- the node is the first of these
abbrev pub starts : ℕ → List ℕ → Bool
starts n [] = false
starts n (s ∷ arms) = n == s

module _ (t : Text) (f : File) (parsed : IsParsed t f.nodes) (are : AreRounds f.nodes f.rounds) where
  abbrev nodes : List Node
  nodes = f.nodes

  abbrev first : ℕ → ℕ
  first n = (round_at f.rounds n).first

  parents : HaveParents f
  parents = have_parents t f parsed are

  forest : (n : ℕ) (node : Node) → slice_get nodes n ≡ Some node → IsForest nodes (first n) node.children n
  forest n node at = is_subtree nodes f.rounds parsed.tree are parsed.order n node at

  above_of : (m : ℕ) (node : Node) → slice_get nodes m ≡ Some node → (c : ℕ) → IsIn c node.children → parent f c ≡ Some m
  above_of m node at c i = parents.above m c (ap (λ (o : Option Node). has c (node_children f o)) at ∙ has_it c node.children i)

  -- a node n whose parent is p, and a node s whose parent is e
  module _ (n p s e : ℕ) (outer its : Node) (at : slice_get nodes p ≡ Some outer) (child : IsIn n outer.children) (there_is : slice_get nodes s ≡ Some its) (above : parent f s ≡ Some e) where
    before_p : n < p
    before_p = of_all (λ c. c < p) n outer.children (children_before nodes parsed.tree p outer at) child

    parent_n : parent f n ≡ Some p
    parent_n = above_of p outer at n child

    first_p : first p ≤ n
    first_p = roots_from nodes (first p) p outer.children (forest p outer at) n child

    first_s : first s ≤ s
    first_s = upward nodes (first s) s its.children (forest s its there_is)

    is_below : (m : ℕ) → first s ≤ m → m ≤ s → stands_below f m s ≡ true
    is_below m l u = and_from (nat_le (first s) m) (nat_le m s) (le-leb (first s) m l) (le-leb m s u)

    low : (m : ℕ) → stands_below f m s ≡ true → first s ≤ m
    low m h = leb-true (first s) m (and_parts (nat_le (first s) m) (nat_le m s) h).0

    high : (m : ℕ) → stands_below f m s ≡ true → m ≤ s
    high m h = leb-true m s (and_parts (nat_le (first s) m) (nat_le m s) h).1

    inside_of : stands_below f n s ≡ true → IsIn n its.children ⊎ ParentBelow nodes s n → stands_below f p s ≡ true
    inside_of h (inl i) =
        let same : p ≡ s = same_Some p s (sym parent_n ∙ above_of s its there_is n i) in
        is_below p (let l : first s ≤ s = first_s in omega (arith, l, same)) (omega (arith, same))
    inside_of h (inr q) =
        let same : p ≡ q.above = same_Some p q.above (sym parent_n ∙ above_of q.above q.node q.at n q.child) in
        let below : q.above < s = q.less in
        is_below p (let l : first s ≤ n = low n h in let m : n < p = before_p in omega (arith, l, m)) (omega (arith, same, below))

    up : stands_below f n s ≡ true → (stands_below f p s || (n == s && p == e)) ≡ true
    up h = by (cases_lt n s)
      where
        by : (n < s) ⊎ (s ≤ n) → (stands_below f p s || (n == s && p == e)) ≡ true
        by (inl less) = or_left (stands_below f p s) (n == s && p == e) (inside_of h (covers nodes (first s) s its.children (forest s its there_is) n (low n h) less))
        by (inr upto) =
            let most : n ≤ s = high n h in
            let same : n ≡ s = omega (arith, upto, most) in
            let outside : p ≡ e = same_Some p e (sym parent_n ∙ ap (parent f) same ∙ above) in
            or_right (stands_below f p s) (n == s && p == e) (and_from (n == s) (p == e) (eq-eqb n s same) (eq-eqb p e outside))

    begins_later : stands_below f p s ≡ true → first s ≤ first p
    begins_later h = by (cases_lt p s)
      where
        by : (p < s) ⊎ (s ≤ p) → first s ≤ first p
        by (inl less) = begins nodes f.rounds parsed.tree are (first s) s its.children (forest s its there_is) (firsts_of nodes f.rounds parsed.tree are s its there_is) p (low p h) less
        by (inr upto) = let most : p ≤ s = high p h in let same : p ≡ s = omega (arith, upto, most) in let equal : first p ≡ first s = ap first same in omega (arith, equal)

    down : (stands_below f p s || (n == s && p == e)) ≡ true → stands_below f n s ≡ true
    down h = elim (or_cases (stands_below f p s) (n == s && p == e) h) [
      | inl below ↦ (let l : first s ≤ first p = begins_later below in let m : first p ≤ n = first_p in let u : p ≤ s = high p below in let v : n < p = before_p in
          is_below n (omega (arith, l, m)) (omega (arith, u, v)))
      | inr at_s ↦ (let same : n ≡ s = eqb-true n s (and_parts (n == s) (p == e) at_s).0 in let l : first s ≤ s = first_s in
          is_below n (omega (arith, l, same)) (omega (arith, same)))
    ]

    pub below_same : stands_below f n s ≡ (stands_below f p s || (n == s && p == e))
    below_same = same_truth (stands_below f n s) (stands_below f p s || (n == s && p == e)) up down

  -- a child is a node, and none of the last
  its_node : (e s : ℕ) (cs : List ℕ) → children f e ≡ cs → has s cs ≡ true → (its : Node) × ((slice_get nodes s ≡ Some its) × (s < length nodes - 1))
  its_node e s cs is h = by (slice_get nodes e) refl
    where
      by : (o : Option Node) → slice_get nodes e ≡ o → (its : Node) × ((slice_get nodes s ≡ Some its) × (s < length nodes - 1))
      by None at = absurd (true≢false (sym h ∙ ap (has s) (sym is ∙ ap (node_children f) at)))
      by (Some node) at =
          let i : IsIn s node.children = is_in s node.children (ap (has s) (sym (ap (node_children f) at) ∙ is) ∙ h) in
          let less : s < e = of_all (λ c. c < e) s node.children (children_before nodes parsed.tree e node at) i in
          let within : e < length nodes = slice_get_within nodes e node at in
          let m = there nodes s (omega (arith, less, within)) in
          (m.0, (m.1, omega (arith, less, within)))

  abbrev pub some_guard : (ℕ → Bool) → ℕ → Bool
  some_guard asked n = list_any (λ e. is_guarded_by f n e && asked e) (numbers nodes)

  -- the node n is the statement of the Except p
  abbrev pub is_statement_of : ℕ → ℕ → Bool
  is_statement_of n p = is_kind f kind.Except p && starts n (children f p)

  module _ (n p : ℕ) (outer : Node) (at : slice_get nodes p ≡ Some outer) (child : IsIn n outer.children) where
    pub one_same : (e : ℕ) → is_guarded_by f n e ≡ (is_guarded_by f p e || (p == e && is_statement_of n e))
    one_same e = by (children f e) refl
      where
        by : (cs : List ℕ) → children f e ≡ cs → (is_kind f kind.Except e && guards f n cs) ≡ ((is_kind f kind.Except e && guards f p cs) || (p == e && (is_kind f kind.Except e && starts n cs)))
        by [] is = shuffled (is_kind f kind.Except e) false false (p == e)
        by (s ∷ arms) is =
            let above : parent f s ≡ Some e = parents.above e s (ap (has s) is ∙ or_left (s == s) (has s arms) (eq-eqb s s refl)) in
            let its = its_node e s (children f e) refl (ap (has s) is ∙ or_left (s == s) (has s arms) (eq-eqb s s refl)) in
            ap (λ (b : Bool). is_kind f kind.Except e && b) (below_same n p s e outer its.0 at child its.1.0 above)
            ∙ shuffled (is_kind f kind.Except e) (stands_below f p s) (n == s) (p == e)

    -- some Except that guards it has what is asked
    module _ (asked : ℕ → Bool) where
      inside : p < length nodes
      inside = slice_get_within nodes p outer at

      pub by_parent : some_guard asked n ≡ (some_guard asked p || (is_statement_of n p && asked p))
      by_parent =
          any_same (λ e. is_guarded_by f n e && asked e) (λ e. (is_guarded_by f p e && asked e) || (p == e && (is_statement_of n e && asked e)))
          (λ e. ap (λ (b : Bool). b && asked e) (one_same e) ∙ spread (is_guarded_by f p e) (p == e) (is_statement_of n e) (asked e)) (numbers nodes)
          ∙ any_either (λ e. is_guarded_by f p e && asked e) (λ e. p == e && (is_statement_of n e && asked e)) (numbers nodes)
          ∙ ap (λ (b : Bool). some_guard asked p || b) (any_at (λ e. is_statement_of n e && asked e) p 0 (length nodes) (omega arith) (omega (arith, inside)))

  -- nothing guards the root
  module _ (n : ℕ) (last : length nodes - 1 ≤ n) where
    pub not_guarded : (e : ℕ) → is_guarded_by f n e ≡ false
    not_guarded e = by (children f e) refl
      where
        by : (cs : List ℕ) → children f e ≡ cs → (is_kind f kind.Except e && guards f n cs) ≡ false
        by [] is = and-false (is_kind f kind.Except e)
        by (s ∷ arms) is =
            let its = its_node e s (children f e) refl (ap (has s) is ∙ or_left (s == s) (has s arms) (eq-eqb s s refl)) in
            let less : s < length nodes - 1 = its.1.1 in
            ap (λ (b : Bool). is_kind f kind.Except e && (nat_le (first s) n && b)) (lt-leb n s (omega (arith, less, last)))
            ∙ ap (λ (b : Bool). is_kind f kind.Except e && b) (and-false (nat_le (first s) n))
            ∙ and-false (is_kind f kind.Except e)

    pub none_guards : (asked : ℕ → Bool) → some_guard asked n ≡ false
    none_guards asked = any_none (λ e. is_guarded_by f n e && asked e) (λ e. ap (λ (b : Bool). b && asked e) (not_guarded e)) (numbers nodes)
