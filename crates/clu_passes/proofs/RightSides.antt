-- What stands in an equate is a constant or a type set.
use Rattle.std.proofs.Common.{◌≡◌, ◌∙◌, ◌⊎◌, ℕ, ◌-◌, ◌<◌, ◌≤◌, Bool, true, false, List, [], ◌∷◌, length, map, get_or, if◌then◌else◌, Option, Some, None, inl, inr, refl, sym, ap, subst, arith, rules}
use Rattle.std.proofs.lemmas.Bool.{true≢false, cases_lt}
use Rattle.std.proofs.lemmas.Option.{slice_get_within}
use Rattle.clu_tree.specs.declared.node.Node.{Node}
use Rattle.clu_tree.specs.declared.node.NodeKind.{NodeKind}
use Rattle.clu_tree.specs.declared.node.NodeKind.TheVariants as kind
use Rattle.clu_tree.specs.contracts.node.NodeKind.{the_type}
use Rattle.clu_tree.specs.Nodes.{IsTree, IsRoot}
use Rattle.clu_parser.specs.Order.{IsPostOrder}
use Rattle.clu_parser.specs.Shape.{HaveForms}
use Rattle.clu_syntax.specs.declared.round.Round.{Round}
use Rattle.clu_syntax.specs.Kinds.{kind_at, kind_of}
use Rattle.clu_syntax.specs.Rounds.{AreRounds, round_at}
use Rattle.clu_syntax.specs.Slots.{Slot, one, slots, is_right_side, fit, after, may_end}
use Rattle.clu_syntax.specs.Splits.{is_of}
use Rattle.clu_syntax.proofs.Slots.{children_fit}
use Rattle.clu_parts.proofs.Fitting.{AreBefore, children_before}
use Rattle.clu_declares.proofs.Parents.{IsIn, of_all, HasParent, has_parent}
use Rattle.clu_declares.proofs.Around.{IsAround, around}
use Rattle.clu_declares.proofs.Facts.{further}
use denote.Enum.Bare.{same_true}

-- ---- one child

pub no_more_fit : (ks : List NodeKind) → fit [] ks ≡ true → ks ≡ []
unfolding fit after may_end
no_more_fit [] e = refl
no_more_fit (k ∷ ks) e = absurd (true≢false (sym e))

one_fits : (k : NodeKind) (ks : List NodeKind) → fit (one is_right_side ∷ []) (k ∷ ks) ≡ true → (is_right_side k ≡ true) × (ks ≡ [])
unfolding fit after may_end
one_fits k ks = by (is_right_side k) refl
  where
    by : (b : Bool) → is_right_side k ≡ b → elim (if◌then◌else◌ {A = Option (List Slot)} b (Some []) None) as (λ (o : Option (List Slot)). Bool) [ None ↦ false | Some rest ↦ fit rest ks ] ≡ true → (is_right_side k ≡ true) × (ks ≡ [])
    by true is e = (is, no_more_fit ks e)
    by false is e = absurd (true≢false (sym e))

only_child : (nodes : List Node) (n : ℕ) (cs : List ℕ) → fit (one is_right_side ∷ []) (map (kind_at nodes) cs) ≡ true → IsIn n cs → is_right_side (kind_at nodes n) ≡ true
only_child nodes n [] e there = absurd there
only_child nodes n (c ∷ cs) e there = by (one_fits (kind_at nodes c) (map (kind_at nodes) cs) e) there
  where
    none_in : (ds : List ℕ) → map (kind_at nodes) ds ≡ [] → IsIn n ds → ⊥
    none_in [] e i = i
    none_in (d ∷ ds) e i = absurd (let size : length (map (kind_at nodes) (d ∷ ds)) ≡ 0 = ap length e in omega (arith, size))

    by : (is_right_side (kind_at nodes c) ≡ true) × (map (kind_at nodes) cs ≡ []) → IsIn n (c ∷ cs) → is_right_side (kind_at nodes n) ≡ true
    by its (inl same) = subst (λ (m : ℕ). is_right_side (kind_at nodes m) ≡ true) same its.0
    by its (inr more) = absurd (none_in cs its.1 more)

abbrev pub is_equate_at : List Node → Option ℕ → Bool
is_equate_at nodes None = false
is_equate_at nodes (Some p) = is_of kind.Equate (kind_at nodes p)

-- the last node is the root
pub no_parent : (nodes : List Node) → IsTree nodes → (n : ℕ) → length nodes - 1 ≤ n → IsRoot nodes n
no_parent nodes tree n more i node at h =
    let less : get_or node.children h.0 n < i = tree.below i node at h.0 n h.1 in
    let l : i < length nodes = slice_get_within nodes i node at in
    omega (arith, less, l, h.2, more)

module _ (nodes : List Node) (rounds : List Round) (shaped : HaveForms nodes) (order : IsPostOrder nodes) (tree : IsTree nodes) (are : AreRounds nodes rounds) where
  right_side : (n : ℕ) (p : HasParent nodes n) → is_equate_at nodes (round_at rounds n).parent ≡ true → is_right_side (kind_at nodes n) ≡ true
  right_side n p e =
      let inside : p.parent < length nodes = slice_get_within nodes p.parent p.node p.at in
      let before : AreBefore (length nodes) p.node.children = further p.parent (length nodes) p.node.children (omega (arith, inside)) (children_before nodes tree p.parent p.node p.at) in
      let its : IsAround rounds p.parent p.node n = of_all (IsAround rounds p.parent p.node) n p.node.children (around nodes rounds p.parent p.node are p.at before) p.child in
      let equate : is_of kind.Equate p.node.kind ≡ true = sym (ap (λ (o : Option Node). is_of kind.Equate (kind_of o)) p.at) ∙ sym (ap (is_equate_at nodes) its.parent) ∙ e in
      let kind_is : p.node.kind ≡ kind.Equate = same_true the_type (search rules) p.node.kind kind.Equate equate in
      only_child nodes n p.node.children (subst (λ (k : NodeKind). fit (slots k) (map (kind_at nodes) p.node.children) ≡ true) kind_is (children_fit nodes shaped p.parent p.node p.at)) p.child

  pub right_sides : (n : ℕ) → is_equate_at nodes (round_at rounds n).parent ≡ true → is_right_side (kind_at nodes n) ≡ true
  right_sides n e = by (cases_lt n (length nodes - 1))
    where
      by : (n < length nodes - 1) ⊎ (length nodes - 1 ≤ n) → is_right_side (kind_at nodes n) ≡ true
      by (inl less) = right_side n (has_parent nodes order n less) e
      by (inr more) = absurd (true≢false (sym e ∙ ap (λ (r : Round). is_equate_at nodes r.parent) (are.roots_are n (no_parent nodes tree n more))))
