-- The place of each node among its parent's children is what the table says.
use Rattle.std.proofs.Common.{◌≡◌, ◌∙◌, ℕ, zero, suc, ◌+◌, ◌-◌, ◌<◌, ◌≤◌, ◌==◌, Bool, true, false, if◌then◌else◌, List, [], ◌∷◌, length, get_or, set, replicate, Option, Some, None, slice_get, refl, ap, sym, subst, inl, inr, arith, eqb-true, eq-eqb}
use Rattle.std.proofs.lemmas.Bool.{cases_Bool, cases_lt}
use Rattle.std.proofs.lemmas.List.{get_or_past, get_or-set_same, get_or-set_other, length-set, length-replicate}
use Rattle.std.proofs.lemmas.Option.{same_Some, slice_get_within}
use Rattle.clu_tree.specs.declared.node.Node.{Node}
use Rattle.clu_parser.specs.Trees.{Text}
use Rattle.clu_syntax.specs.declared.round.Round.{Round}
use Rattle.clu_syntax.specs.Rounds.{AreRounds, outside, round_at}
use Rattle.clu_syntax.specs.Splits.{children_of}
use Rattle.clu_meaning.specs.Scoping.{Scope}
use Rattle.clu_checking.specs.Specifications.{Specification}
use Rattle.clu_checking.specs.Files.{File, parent, children, node_children}
use Rattle.clu_checking.specs.Wanted as wants
use Rattle.clu_declares.specs.Declares.{IsParsed}
use Rattle.clu_declares.proofs.Parents.{IsIn, HasParent, has_parent}
use Rattle.clu_declares.proofs.Facts.{top_alone}
use Rattle.clu_declares.proofs.Modules.{Ascends, children_ascend, above, around_parent}
use Rattle.clu_bindings.specs.declared.file.File.{File as Read}
use Rattle.clu_bindings.specs.Bindings.{placed, places_to, AreBindings}
use Rattle.clu_bindings.specs.Readers as read
use Rattle.clu_passes.specs.ConstantTables.{file_with}

none_some : (p : ℕ) (o : Option ℕ) → o ≡ None → o ≡ Some p → ⊥
none_some p o e f = absurd (let bad : None ≡ Some p = sym e ∙ f in cc)

-- ---- the children of one node

placed_nil : (ps : List ℕ) (at : ℕ) → placed ps at [] ≡ ps
unfolding placed
placed_nil ps at = refl

placed_more : (ps : List ℕ) (at c : ℕ) (cs : List ℕ) → placed ps at (c ∷ cs) ≡ placed (set ps c at) (suc at) cs
unfolding placed
placed_more ps at c cs = refl

placed_size : (ps : List ℕ) (at : ℕ) (cs : List ℕ) → length (placed ps at cs) ≡ length ps
placed_size ps at [] = ap length (placed_nil ps at)
placed_size ps at (c ∷ cs) = ap length (placed_more ps at c cs) ∙ placed_size (set ps c at) (suc at) cs ∙ length-set ps c at

placed_other : (ps : List ℕ) (at n : ℕ) (cs : List ℕ) → (IsIn n cs → ⊥) → get_or (placed ps at cs) n 0 ≡ get_or ps n 0
placed_other ps at n [] f = ap (λ (xs : List ℕ). get_or xs n 0) (placed_nil ps at)
placed_other ps at n (c ∷ cs) f =
    ap (λ (xs : List ℕ). get_or xs n 0) (placed_more ps at c cs)
    ∙ placed_other (set ps c at) (suc at) n cs (λ i. f (inr i))
    ∙ get_or-set_other ps c n at 0 (λ e. f (inl (sym e)))

placed_here : (file : File) (ps : List ℕ) (a at n : ℕ) (cs : List ℕ) → Ascends a cs → IsIn n cs → n < length ps → get_or (placed ps at cs) n 0 ≡ at + wants.place_in file cs n
placed_here file ps a at n [] s i l = absurd i
placed_here file ps a at n (c ∷ cs) s i l =
    ap (λ (xs : List ℕ). get_or xs n 0) (placed_more ps at c cs) ∙ elim (cases_Bool (c == n)) [
      | inl hit ↦
          (let same : c ≡ n = eqb-true c n hit in
          let apart : IsIn n cs → ⊥ = λ i. let m : c + 1 ≤ n = above (c + 1) n cs s.1 i in omega (arith, same, m) in
          let at_zero : at ≡ at + 0 = omega arith in
          placed_other (set ps c at) (suc at) n cs apart
          ∙ ap (λ (k : ℕ). get_or (set ps k at) n 0) same
          ∙ get_or-set_same ps n at 0 l
          ∙ at_zero
          ∙ ap (λ (b : Bool). at + (if b then 0 else suc (wants.place_in file cs n))) (sym hit))
      | inr miss ↦
          (let later : IsIn n cs = elim i [ inl e ↦ absurd (let bad : (c == n) ≡ true = eq-eqb c n e in let never : true ≡ false = sym bad ∙ miss in cc) | inr j ↦ j ] in
          let size : length (set ps c at) ≡ length ps = length-set ps c at in
          let next : suc at + wants.place_in file cs n ≡ at + suc (wants.place_in file cs n) = omega arith in
          placed_here file (set ps c at) (c + 1) (suc at) n cs s.1 later (omega (arith, l, size))
          ∙ next
          ∙ ap (λ (b : Bool). at + (if b then 0 else suc (wants.place_in file cs n))) (sym miss))
    ]

-- ---- those of all nodes

module _ (t : Text) (nodes : List Node) (rounds : List Round) (parsed : IsParsed t nodes) (are : AreRounds nodes rounds) where
  places_suc : (m : ℕ) → places_to nodes (suc m) ≡ placed (places_to nodes m) 0 (children_of (slice_get nodes m))
  unfolding places_to
  places_suc m = refl

  places_none : places_to nodes 0 ≡ replicate (length nodes) 0
  unfolding places_to
  places_none = refl

  places_size : (m : ℕ) → length (places_to nodes m) ≡ length nodes
  places_size zero = ap length places_none ∙ length-replicate (length nodes) 0
  places_size (suc m) = ap length (places_suc m) ∙ placed_size (places_to nodes m) 0 (children_of (slice_get nodes m)) ∙ places_size m

  module _ (n : ℕ) (q : HasParent nodes n) (inside : n < length nodes) where
    only_there : (m : ℕ) → IsIn n (children_of (slice_get nodes m)) → m ≡ q.parent
    only_there m i = by (slice_get nodes m) refl i
      where
        by : (its : Option Node) → slice_get nodes m ≡ its → IsIn n (children_of its) → m ≡ q.parent
        by None at i = absurd i
        by (Some node) at i =
            same_Some m q.parent (sym (around_parent t nodes rounds parsed are n (record { parent = m; node = node; at = at; child = i })).parent ∙ (around_parent t nodes rounds parsed are n q).parent)

    place_there : (file : File) (m : ℕ) → q.parent < m → get_or (places_to nodes m) n 0 ≡ wants.place_in file q.node.children n
    place_there file zero l = absurd (omega (arith, l))
    place_there file (suc m) l =
        ap (λ (xs : List ℕ). get_or xs n 0) (places_suc m) ∙ elim (cases_lt q.parent m) [
          | inl less ↦
              (placed_other (places_to nodes m) 0 n (children_of (slice_get nodes m)) (λ i. let same : m ≡ q.parent = only_there m i in omega (arith, same, less))
              ∙ place_there file m less)
          | inr more ↦
              (let same : m ≡ q.parent = omega (arith, l, more) in
              let size : length (places_to nodes m) ≡ length nodes = places_size m in
              let none_before : 0 + wants.place_in file q.node.children n ≡ wants.place_in file q.node.children n = omega arith in
              ap (λ (its : Option Node). get_or (placed (places_to nodes m) 0 (children_of its)) n 0) (ap (slice_get nodes) same ∙ q.at)
              ∙ placed_here file (places_to nodes m) 0 0 n q.node.children (children_ascend nodes parsed.order q.parent q.node q.at) q.child (omega (arith, inside, size))
              ∙ none_before)
        ]

  -- what has a parent is one of its children
  parent_there : (n p : ℕ) → (round_at rounds n).parent ≡ Some p → (q : HasParent nodes n) × (q.parent ≡ p) × (n < length nodes)
  parent_there n p e = elim (cases_lt n (length nodes - 1)) [
    | inl less ↦
        (let q : HasParent nodes n = has_parent nodes parsed.order n less in
        (q, same_Some q.parent p (sym (around_parent t nodes rounds parsed are n q).parent ∙ e), omega (arith, less)))
    | inr more ↦ elim (cases_lt n (length nodes)) [
      | inl last ↦
          (let same : n ≡ length nodes - 1 = omega (arith, more, last) in
          absurd (none_some p (round_at rounds n).parent (ap (λ (n : ℕ). (round_at rounds n).parent) same ∙ ap (λ (r : Round). r.parent) (are.roots_are (length nodes - 1) (top_alone t nodes rounds parsed are))) e))
      | inr past ↦
          (let size : length rounds ≡ length nodes = are.size in
          absurd (none_some p (round_at rounds n).parent (ap (λ (r : Round). r.parent) (get_or_past rounds n outside (omega (arith, past, size)))) e))
    ]
  ]

-- ---- the table of a file

module _ (t : Text) (r : Read) (parsed : IsParsed t r.syntax.now) (are : AreRounds r.syntax.now r.rounds.now) (tables : AreBindings r.syntax.now r.rounds.now r.names.now r.values.now r.bindings.now) where
  pub places_said : (scope : Scope) (library : List Specification) (refused : List ℕ) (n p : ℕ) → parent (file_with r scope library refused) n ≡ Some p → read.place_in r n ≡ wants.place_in (file_with r scope library refused) (children (file_with r scope library refused) p) n
  places_said scope library refused n p e = by (parent_there t r.syntax.now r.rounds.now parsed are n p e)
    where
      by : (q : HasParent r.syntax.now n) × (q.parent ≡ p) × (n < length r.syntax.now) → read.place_in r n ≡ wants.place_in (file_with r scope library refused) (children (file_with r scope library refused) p) n
      by (q, same, inside) =
          ap (λ (xs : List ℕ). get_or xs n 0) tables.places
          ∙ place_there t r.syntax.now r.rounds.now parsed are n q inside (file_with r scope library refused) (length r.syntax.now) (slice_get_within r.syntax.now q.parent q.node q.at)
          ∙ sym (ap (λ (its : Option Node). wants.place_in (file_with r scope library refused) (node_children (file_with r scope library refused) its) n) (sym (ap (slice_get r.syntax.now) same) ∙ q.at))
