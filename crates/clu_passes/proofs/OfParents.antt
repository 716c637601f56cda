-- Each node of a tree stands once among the children of its parent, and among those of no other node.
use Rattle.std.proofs.Common.{◌≡◌, ◌≢◌, ◌∙◌, ℕ, suc, ◌-◌, ◌<◌, ◌≤◌, true, not, ◌==◌, List, [], ◌∷◌, length, get_or, slice_get, Option, Some, None, inl, inr, refl, sym, ap, subst, arith, eq-eqb, eqb-true}
use Rattle.std.specs.Prelude.{AllPairs}
use Rattle.std.proofs.lemmas.Bool.{true≢false, cases_lt, or_cases, or_left, or_right, and_from, not_from_false, false_from_ne_true}
use Rattle.std.proofs.lemmas.Option.{none-some, same_Some, slice_get_within, slice_get_past}
use Rattle.clu_tree.specs.declared.node.Node.{Node}
use Rattle.clu_tree.specs.declared.node.NodeKind.TheVariants as kind
use Rattle.clu_tree.specs.Nodes.{IsRoot}
use Rattle.clu_parser.specs.Trees.{Text}
use Rattle.clu_syntax.specs.declared.round.Round.{Round}
use Rattle.clu_syntax.specs.Kinds.{kind_of, kind_at}
use Rattle.clu_syntax.specs.Rounds.{AreRounds, round_at}
use Rattle.clu_checking.specs.Files.{File, kind_in, parent, children, node_children}
use Rattle.clu_declares.specs.Declares.{IsParsed}
use Rattle.clu_declares.proofs.Around.{IsAround}
use Rattle.clu_declares.proofs.Facts.{around_at}
use Rattle.clu_declares.proofs.Parents.{IsIn, of_all, HasParent, has_parent}
use Rattle.clu_name_rules.specs.Repeated.{list_of}
use Rattle.clu_passes.specs.Notes.{has, each_once, HaveParents}

-- ---- members

pub is_in : (n : ℕ) (cs : List ℕ) → has n cs ≡ true → IsIn n cs
is_in n [] h = true≢false (sym h)
is_in n (c ∷ cs) h = elim (or_cases (c == n) (has n cs) h) [ inl e ↦ inl (eqb-true c n e) | inr more ↦ inr (is_in n cs more) ]

pub has_it : (n : ℕ) (cs : List ℕ) → IsIn n cs → has n cs ≡ true
has_it n [] i = absurd i
has_it n (c ∷ cs) (inl e) = or_left (c == n) (has n cs) (eq-eqb c n e)
has_it n (c ∷ cs) (inr i) = or_right (c == n) (has n cs) (has_it n cs i)

place_in : (n : ℕ) (cs : List ℕ) → IsIn n cs → (k : ℕ) × (k < length cs) × (get_or cs k 0 ≡ n)
place_in n [] i = absurd i
place_in n (c ∷ cs) (inl e) = (0, omega arith, e)
place_in n (c ∷ cs) (inr i) = let p = place_in n cs i in (suc p.0, omega (arith, p.1), p.2)

-- a list without pairs of the same number has each once
pub once_each : (cs : List ℕ) → AllPairs ◌≢◌ cs → each_once cs ≡ true
once_each [] h = refl
once_each (c ∷ cs) h =
    and_from (not (has c cs)) (each_once cs)
    (not_from_false (has c cs) (false_from_ne_true (has c cs) (λ there. let p = place_in c cs (is_in c cs there) in h 0 (suc p.0) 0 (omega arith) (omega (arith, p.1)) (sym p.2))))
    (once_each cs (λ i j d less inside. h (suc i) (suc j) d (omega (arith, less)) (omega (arith, inside))))

module _ (t : Text) (nodes : List Node) (rounds : List Round) (parsed : IsParsed t nodes) (are : AreRounds nodes rounds) where
  -- the last node, and what is no node, has no parent
  last_is_root : (n : ℕ) → length nodes - 1 ≤ n → IsRoot nodes n
  last_is_root n l m node at child =
      let below : get_or node.children child.0 n < m = parsed.tree.below m node at child.0 n child.1 in
      let inside : m < length nodes = slice_get_within nodes m node at in
      absurd (omega (arith, below, child.2, inside, l))

  pub root_outside : (n : ℕ) → length nodes - 1 ≤ n → (round_at rounds n).parent ≡ None
  root_outside n l = ap (λ (r : Round). r.parent) (are.roots_are n (last_is_root n l))

module _ (t : Text) (f : File) (parsed : IsParsed t f.nodes) (are : AreRounds f.nodes f.rounds) where
  abbrev last : ℕ
  last = length f.nodes - 1

  around_is : (m n : ℕ) (o : Option Node) → slice_get f.nodes m ≡ o → has n (node_children f o) ≡ true → parent f n ≡ Some m
  around_is m n None at h = absurd (true≢false (sym h))
  around_is m n (Some node) at h = (of_all (IsAround f.rounds m node) n node.children (around_at t f.nodes f.rounds parsed are m node at) (is_in n node.children h)).parent

  above_is : (m n : ℕ) → has n (children f m) ≡ true → parent f n ≡ Some m
  above_is m n h = around_is m n (slice_get f.nodes m) refl h

  of_parent : (m n : ℕ) → HasParent f.nodes n → parent f n ≡ Some m → has n (children f m) ≡ true
  of_parent m n p is =
      let its : parent f n ≡ Some p.parent = (of_all (IsAround f.rounds p.parent p.node) n p.node.children (around_at t f.nodes f.rounds parsed are p.parent p.node p.at) p.child).parent in
      let same : p.parent ≡ m = same_Some p.parent m (sym its ∙ is) in
      subst (λ (k : ℕ). has n (children f k) ≡ true) same (ap (λ (o : Option Node). has n (node_children f o)) p.at ∙ has_it n p.node.children p.child)

  below_is : (m n : ℕ) → parent f n ≡ Some m → has n (children f m) ≡ true
  below_is m n is = elim (cases_lt n last) [
    | inl less ↦ of_parent m n (has_parent f.nodes parsed.order n less) is
    | inr more ↦ absurd (none-some m (sym (root_outside t f.nodes f.rounds parsed are n more) ∙ is))
  ]

  once_at : (o : Option Node) (m : ℕ) → slice_get f.nodes m ≡ o → each_once (node_children f o) ≡ true
  once_at None m at = refl
  once_at (Some node) m at = once_each node.children (parsed.tree.once m node at)

  -- what has no parent is a File, or no node
  items_are : (n : ℕ) → parent f n ≡ None → list_of (kind_in f n) ≡ None
  items_are n none = elim (cases_lt n last) [
    | inl less ↦ (let p : HasParent f.nodes n = has_parent f.nodes parsed.order n less in
        absurd (none-some p.parent (sym none ∙ (of_all (IsAround f.rounds p.parent p.node) n p.node.children (around_at t f.nodes f.rounds parsed are p.parent p.node p.at) p.child).parent)))
    | inr more ↦ ap list_of (file_at more)
  ]
    where
      file_at : last ≤ n → kind_in f n ≡ kind.File
      file_at more = elim (cases_lt last n) [
        | inl beyond ↦ ap kind_of (slice_get_past f.nodes n (omega (arith, beyond)))
        | inr upto ↦ (let same : n ≡ last = omega (arith, more, upto) in
            ap (kind_at f.nodes) same ∙ ap kind_of parsed.file.1 ∙ parsed.file.2)
      ]

  pub have_parents : HaveParents f
  have_parents = record { above = above_is; below = below_is; once = λ m. once_at (slice_get f.nodes m) m refl; items = items_are }
