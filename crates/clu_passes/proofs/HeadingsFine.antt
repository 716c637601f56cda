-- Where the walk over the headings finds no fault, no type is refused in what stands there: the parameters, arguments, results, signals
-- and where clauses of routines and clusters.
use Rattle.std.proofs.Common.{◌≡◌, ◌∙◌, ℕ, zero, suc, ◌+◌, ◌-◌, ◌<◌, ◌≤◌, ◌||◌, Bool, true, false, length, is_some, Option, Some, None, inl, inr, refl, sym, ap, subst, arith}
use Rattle.std.specs.Prelude.{slice_get}
use Rattle.std.specs.List.{AllByRecursion, range_with_len}
use Rattle.std.proofs.lemmas.Bool.{true≢false, cases_lt}
use Rattle.std.proofs.lemmas.Option.{none-some, slice_get_within}
use Rattle.clu_base.specs.declared.rules.Rule.{Rule}
use Rattle.clu_tree.specs.declared.node.Node.{Node}
use Rattle.clu_tree.specs.declared.node.NodeKind.{NodeKind}
use Rattle.clu_tree.specs.declared.node.NodeKind.TheVariants as kind
use Rattle.clu_syntax.specs.declared.round.Round.{Round}
use Rattle.clu_syntax.specs.Kinds.{is_of_heading, kind_at, kind_of}
use Rattle.clu_syntax.specs.Rounds.{heading_in, is_of_cluster}
use Rattle.clu_syntax.specs.Splits.{is_of}
use Rattle.clu_declares.proofs.Around.{there}
use Rattle.clu_declares.proofs.Parents.{IsIn, of_all}
use Rattle.clu_checking.specs.Files.{File, kind_in, round}
use Rattle.clu_checking.specs.Refusals.{Walk, fault_at, first_among, heading_refusal, headings, is_no_type_at, refused_at, refused_by}
use Rattle.clu_passes.specs.Losing.{IsPlain, is_definition, is_plain, walk_by, walk_of}
use Rattle.clu_passes.specs.Trees.{IsFileOfTree}
use Rattle.clu_passes.proofs.RefusedBelow.{IsHeaded, each_headed, not_definition, walk_same}
use Rattle.clu_passes.proofs.RefusedFaults.{refused_faulty}
use Rattle.clu_passes.proofs.ValuesKnown.{IsBelow, all_by, child_below}

-- ---- no fault at any node

module _ (f : File) where
  pub none_among : (fault : ℕ → Option Rule) (a len : ℕ) → a + len ≤ length f.nodes → refused_at f (first_among fault (range_with_len a len)) ≡ None → (n : ℕ) → a ≤ n → n < a + len → fault n ≡ None
  none_among fault a zero all e n from to = absurd (omega (arith, from, to))
  none_among fault a (suc len) all e n from to = by (fault a) refl e (λ more e. none_among fault (a + 1) len (omega (arith, all)) e n (omega (arith, more)) (omega (arith, to)))
    where
      by : (o : Option Rule) → fault a ≡ o → refused_at f (elim o [ Some r ↦ Some (a, r) | None ↦ first_among fault (range_with_len (a + 1) len) ]) ≡ None
          → (a < n → refused_at f (first_among fault (range_with_len (a + 1) len)) ≡ None → fault n ≡ None) → fault n ≡ None
      by (Some r) is e later = let m = there f.nodes a (omega (arith, all)) in absurd (none-some (record { rule = r; place = m.0.place }) (sym e ∙ ap (refused_by f r) m.1))
      by None is e later = elim (cases_lt a n) [
        | inl more ↦ later more e
        | inr upto ↦ let same : n ≡ a = omega (arith, from, upto) in ap fault same ∙ is
      ]

  heading_faults : heading_refusal f ≡ None → (n : ℕ) → n < length f.nodes → fault_at f headings n ≡ None
  heading_faults e n inside = none_among (fault_at f headings) 0 (length f.nodes) (omega arith) e n (omega arith) (omega (arith, inside))

  clear_on : heading_refusal f ≡ None → (n : ℕ) → n < length f.nodes → walk_of f n ≡ headings → is_no_type_at f n ≡ false
  clear_on e n inside walk = by (is_no_type_at f n) refl
    where
      by : (b : Bool) → is_no_type_at f n ≡ b → is_no_type_at f n ≡ false
      by false is = is
      by true is = absurd (true≢false (sym (refused_faulty f n is) ∙ ap (λ (w : Walk). is_some (fault_at f w n)) walk ∙ ap is_some (heading_faults e n inside)))

-- ---- which children are of headings

plain_heading : (k : NodeKind) → is_of_heading k ≡ true → is_plain k ≡ true
plain_heading kind.Parm e = refl
plain_heading kind.Decl e = refl
plain_heading kind.Results e = refl
plain_heading kind.Signals e = refl
plain_heading kind.Where e = refl
plain_heading kind.File e = absurd (true≢false (sym e))
plain_heading _ e = absurd (true≢false (sym e))

-- those of a cluster that are so by their kind alone
abbrev pub is_clustered : NodeKind → Bool
is_clustered kind.Parm = true
is_clustered kind.Where = true
is_clustered _ = false

clustered_heading : (k : NodeKind) → is_clustered k ≡ true → is_of_heading k ≡ true
clustered_heading kind.Parm e = refl
clustered_heading kind.Where e = refl
clustered_heading kind.File e = absurd (true≢false (sym e))
clustered_heading _ e = absurd (true≢false (sym e))

clustered_headed : (its : Node) (k : NodeKind) (r : Round) → its.kind ≡ k → is_clustered k ≡ true → heading_in kind.Cluster its r ≡ true
clustered_headed its kind.Parm r is e = ap (λ (k : NodeKind). is_of_cluster k its.names) is
clustered_headed its kind.Where r is e = ap (λ (k : NodeKind). is_of_cluster k its.names) is
clustered_headed its kind.File r is e = absurd (true≢false (sym e))
clustered_headed its _ r is e = absurd (true≢false (sym e))

module _ (f : File) (of : IsFileOfTree f) where
  -- no type is refused at the node or below it
  abbrev pub IsFine : ℕ → Type 0
  IsFine n = (m : ℕ) → (round f n).first ≤ m → m ≤ n → is_no_type_at f m ≡ false

  -- if its kind is one of these
  abbrev pub FineOf : (NodeKind → Bool) → ℕ → Type 0
  FineOf test c = test (kind_at f.nodes c) ≡ true → IsFine c

  module _ (n : ℕ) (node : Node) (at : slice_get f.nodes n ≡ Some node) where
    pub fine_child : IsFine n → (c : ℕ) → IsIn c node.children → IsFine c
    fine_child fine c i m low high =
        let x : IsBelow f of n c = child_below f of n node at c i in
        let first : (round f n).first ≤ (round f c).first = x.first in
        let less : c < n = x.less in
        fine m (omega (arith, first, low)) (omega (arith, less, high))

    pub fine_children : IsFine n → AllByRecursion IsFine node.children
    fine_children fine = all_by IsFine node.children (fine_child fine)

  module _ (clear : heading_refusal f ≡ None) where
    fine_in_heading : (c : ℕ) (its : Node) → slice_get f.nodes c ≡ Some its → is_of_heading its.kind ≡ true → (round f c).heading ≡ true → IsFine c
    fine_in_heading c its at of_heading headed m low high =
        let inside : c < length f.nodes = slice_get_within f.nodes c its at in
        clear_on f clear m (omega (arith, inside, high)) (elim (cases_lt m c) [
          | inl less ↦ walk_same f of c its at plain m low less ∙ walk_here
          | inr more ↦ let same : m ≡ c = omega (arith, high, more) in ap (walk_of f) same ∙ walk_here
        ])
      where
        plain : IsPlain its.kind
        plain = plain_heading its.kind of_heading

        walk_here : walk_of f c ≡ headings
        walk_here =
            ap (λ (b : Bool). walk_by b (round f c).heading) (ap (λ (o : Option Node). is_definition (kind_of o)) at ∙ not_definition its.kind plain)
            ∙ ap (walk_by false) headed

    module _ (n : ℕ) (node : Node) (at : slice_get f.nodes n ≡ Some node) where
      pub fine_of_routine : node.kind ≡ kind.Routine → (c : ℕ) → IsIn c node.children → FineOf is_of_heading c
      fine_of_routine is c i test =
          let x : IsHeaded f.nodes f.rounds n node c = of_all (IsHeaded f.nodes f.rounds n node) c node.children (each_headed f of n node at) i in
          let its : is_of_heading x.its.kind ≡ true = sym (ap (λ (o : Option Node). is_of_heading (kind_of o)) x.at) ∙ test in
          fine_in_heading c x.its x.at its (x.heading ∙ ap (λ (k : NodeKind). heading_in k x.its (round f n)) is ∙ its)

      pub fine_of_cluster : node.kind ≡ kind.Cluster → (c : ℕ) → IsIn c node.children → FineOf is_clustered c
      fine_of_cluster is c i test =
          let x : IsHeaded f.nodes f.rounds n node c = of_all (IsHeaded f.nodes f.rounds n node) c node.children (each_headed f of n node at) i in
          let its : is_clustered x.its.kind ≡ true = sym (ap (λ (o : Option Node). is_clustered (kind_of o)) x.at) ∙ test in
          fine_in_heading c x.its x.at (clustered_heading x.its.kind its) (x.heading ∙ ap (λ (k : NodeKind). heading_in k x.its (round f n)) is ∙ clustered_headed x.its x.its.kind (round f n) refl its)
