-- The routine that surrounds a node is one.
use Rattle.std.proofs.Common.{◌≡◌, ◌∙◌, ℕ, zero, suc, ◌+◌, ◌<◌, ◌≤◌, Bool, true, false, List, [], ◌∷◌, length, get_or, map, Option, Some, None, refl, sym, ap, subst, arith}
use Rattle.std.specs.Prelude.{Contains, slice_get}
use Rattle.std.proofs.lemmas.Bool.{true≢false}
use Rattle.std.proofs.lemmas.List.{get_or_past}
use Rattle.std.proofs.lemmas.Option.{none-some, same_Some}
use Rattle.clu_tree.specs.declared.node.Node.{Node}
use Rattle.clu_tree.specs.declared.node.NodeKind.{NodeKind}
use Rattle.clu_tree.specs.declared.node.NodeKind.TheVariants as kind
use Rattle.clu_tree.specs.Nodes.{IsTree}
use Rattle.clu_syntax.specs.declared.bodies.Part.{Part}
use Rattle.clu_syntax.specs.declared.round.Round.{Round}
use Rattle.clu_syntax.specs.Bodies.{first_part}
use Rattle.clu_syntax.specs.Rounds.{AreRounds, outside, round_at, routine_in, rounds_in, child_round, child_part}
use Rattle.clu_syntax.specs.Splits.{is_of}
use Rattle.clu_head.specs.There.{is_there}

module _ (nodes : List Node) (rounds : List Round) where
  abbrev is_routine : ℕ → Bool
  is_routine r = is_there kind.Routine (slice_get nodes r)

  abbrev pub Stands : ℕ → Type 0
  Stands c = (r : ℕ) → (round_at rounds c).routine ≡ Some r → is_routine r ≡ true

  outside_stands : (c : ℕ) → round_at rounds c ≡ outside → Stands c
  outside_stands c is = λ r has. absurd (none-some r (sym (ap (λ (round : Round). round.routine) is) ∙ has))

  -- ---- the children of a node

  module _ (n : ℕ) (node : Node) (at : slice_get nodes n ≡ Some node) (stands : Stands n) where
    of_kind : (k : NodeKind) → node.kind ≡ k → (r : ℕ) → routine_in k n (round_at rounds n) ≡ Some r → is_routine r ≡ true
    of_kind kind.Routine is = λ r has. subst (λ (m : ℕ). is_routine m ≡ true) (same_Some n r has) (ap (is_there kind.Routine) at ∙ ap (is_of kind.Routine) is)
    of_kind _ is = stands

    child_stands : (c : ℕ) (its : Option Node) (first : ℕ) (part : Part) → round_at rounds c ≡ child_round nodes n node its (round_at rounds n) first part → Stands c
    child_stands c None first part is = outside_stands c is
    child_stands c (Some child) first part is = λ r has. of_kind node.kind refl r (sym (ap (λ (round : Round). round.routine) is) ∙ has)

    all_stand : (before : Part) (first : ℕ) (cs : List ℕ) → map (round_at rounds) cs ≡ rounds_in nodes n node (round_at rounds n) before first cs → (k : ℕ) → k < length cs → (d : ℕ) → Stands (get_or cs k d)
    unfolding rounds_in
    all_stand before first [] e k l d = absurd (omega (arith, l))
    all_stand before first (c ∷ cs) e zero l d =
        let part : Part = child_part nodes node (slice_get nodes c) before first (c ∷ cs) in
        let head : round_at rounds c ≡ child_round nodes n node (slice_get nodes c) (round_at rounds n) first part = cc in
        child_stands c (slice_get nodes c) first part head
    all_stand before first (c ∷ cs) e (suc k) l d =
        let part : Part = child_part nodes node (slice_get nodes c) before first (c ∷ cs) in
        let tail : map (round_at rounds) cs ≡ rounds_in nodes n node (round_at rounds n) part (c + 1) cs = cc in
        all_stand part (c + 1) cs tail k (omega (arith, l)) d

  -- ---- all nodes, from the last one down

  module _ (tree : IsTree nodes) (are : AreRounds nodes rounds) where
    by_parent : (c : ℕ) → ((n : ℕ) → c < n → Stands n) → (n : ℕ) (node : Node) → slice_get nodes n ≡ Some node → Contains node.children c → Stands c
    by_parent c after n node at has =
        let below : get_or node.children has.0 c < n = tree.below n node at has.0 c has.1 in
        let stands : Stands n = after n (omega (arith, below, has.2)) in
        subst Stands has.2 (all_stand n node at stands (first_part nodes node (round_at rounds n).first) (round_at rounds n).first node.children (are.children_are n node at) has.0 has.1 c)

    one_stands : (c : ℕ) → ((n : ℕ) → c < n → Stands n) → Stands c
    one_stands c after = λ r has. by r has (is_routine r) refl
      where
        by : (r : ℕ) → (round_at rounds c).routine ≡ Some r → (is : Bool) → is_routine r ≡ is → is_routine r ≡ true
        by r has true is = is
        by r has false is = outside_stands c (are.roots_are c (λ n node at child. true≢false (sym (by_parent c after n node at child r has) ∙ is))) r has

    -- where at most k nodes come from it on
    from_end : (k c : ℕ) → length nodes ≤ c + k → Stands c
    from_end zero c l = outside_stands c (get_or_past rounds c outside (omega (arith, are.size, l)))
    from_end (suc k) c l = one_stands c (λ n less. from_end k n (omega (arith, l, less)))

    pub stand : (c : ℕ) → Stands c
    stand c = from_end (length nodes) c (omega arith)
