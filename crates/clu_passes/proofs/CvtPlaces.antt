-- `cvt` as a whole type of a heading stands below no expression, type or equate.
use Rattle.std.proofs.Common.{◌≡◌, ◌∙◌, ◌⊎◌, ℕ, ◌+◌, ◌<◌, ◌≤◌, ◌&&◌, ◌||◌, not, Bool, true, false, List, length, Option, Some, inl, inr, refl, sym, ap, subst, arith}
use Rattle.std.specs.Prelude.{slice_get}
use Rattle.std.proofs.lemmas.Bool.{true≢false, cases_lt, not-true}
use Rattle.std.proofs.lemmas.Option.{same_Some, slice_get_within}
use Rattle.clu_base.proofs.Bools.{implied}
use Rattle.clu_tree.specs.declared.node.Node.{Node}
use Rattle.clu_tree.specs.declared.node.NodeKind.{NodeKind}
use Rattle.clu_tree.specs.declared.node.NodeKind.TheVariants as kind
use Rattle.clu_parser.specs.Order.{IsForest, none, tree}
use Rattle.clu_parser.specs.Shape.{forms}
use Rattle.clu_syntax.specs.declared.words.SimpleType.TheVariants as simple
use Rattle.clu_syntax.specs.Kinds.{kind_at, kind_of, is_expression, is_type}
use Rattle.clu_syntax.specs.Splits.{is_of}
use Rattle.clu_checking.specs.Files.{File, item, kind_in, is_kind, is_kind_at, round, parent, parent_of, stands_in}
use Rattle.clu_checking.specs.ConstantRules.{is_word, is_cluster_round, is_of_heading, v31_at}
use Rattle.clu_parts.proofs.Fitting.{children_before}
use Rattle.clu_declares.proofs.Around.{IsAround, around}
use Rattle.clu_declares.proofs.Facts.{further}
use Rattle.clu_declares.proofs.Parents.{IsIn, of_all, HasParent, no_form, kind_of_child}
use Rattle.clu_passes.specs.Trees.{IsFileOfTree, is_of_constant}
use Rattle.clu_passes.specs.Losing.{IsWholeCvt}
use Rattle.clu_passes.proofs.InEquates.{in_constants}
use Rattle.clu_passes.proofs.Subtrees.{is_subtree}
use Rattle.clu_passes.proofs.Within.{forest_goes_on}

-- ---- below which nodes

pub record IsTop (k : NodeKind) : Type 0 where
  pub of_constant : is_of_constant k ≡ true
  pub no_results : is_of kind.Results k ≡ false
  pub no_exception : is_of kind.Exc k ≡ false
  pub none_below : no_form (forms k) kind.Exc ≡ true

pub equate_top : IsTop kind.Equate
unfolding no_form
equate_top = record { of_constant = refl; no_results = refl; no_exception = refl; none_below = refl }

abbrev is_constant_kind : NodeKind → Bool
is_constant_kind k = is_expression k || is_type k

of_constants_too : (k : NodeKind) → (not (is_constant_kind k) || is_of_constant k) ≡ true
of_constants_too kind.File = refl
of_constants_too _ = refl

no_results_too : (k : NodeKind) → (not (is_constant_kind k) || not (is_of kind.Results k)) ≡ true
no_results_too kind.File = refl
no_results_too _ = refl

no_exceptions_too : (k : NodeKind) → (not (is_constant_kind k) || not (is_of kind.Exc k)) ≡ true
no_exceptions_too kind.File = refl
no_exceptions_too _ = refl

none_below_too : (k : NodeKind) → (not (is_constant_kind k) || no_form (forms k) kind.Exc) ≡ true
unfolding no_form
none_below_too kind.File = refl
none_below_too _ = refl

pub constant_top : (k : NodeKind) → is_constant_kind k ≡ true → IsTop k
constant_top k e = record {
  of_constant = implied (is_constant_kind k) (is_of_constant k) (of_constants_too k) e;
  no_results = not-true (is_of kind.Results k) (implied (is_constant_kind k) (not (is_of kind.Results k)) (no_results_too k) e);
  no_exception = not-true (is_of kind.Exc k) (implied (is_constant_kind k) (not (is_of kind.Exc k)) (no_exceptions_too k) e);
  none_below = implied (is_constant_kind k) (no_form (forms k) kind.Exc) (none_below_too k) e;
}

no_such_child : (top : NodeKind) → no_form (forms top) kind.Exc ≡ true → (k : NodeKind) → (not (is_of kind.Exc k) || no_form (forms top) k) ≡ true
no_such_child top e kind.Exc = e
no_such_child top e kind.File = refl
no_such_child top e _ = refl

-- ---- `cvt` that stands in no heading is misplaced

misplaced : (cvt cluster heading rep : Bool) → cvt ≡ true → heading ≡ false → ((cvt && not (cluster && heading)) || rep) ≡ true
misplaced true true false rep a b = refl
misplaced true false false rep a b = refl
misplaced true true true rep a b = absurd (true≢false b)
misplaced true false true rep a b = absurd (true≢false b)
misplaced false cluster heading rep a b = absurd (true≢false (sym a))

-- a part of a heading
neither : (decl routine results exc outer : Bool) → decl ≡ false → (results ≡ true → routine ≡ false) → (exc ≡ true → outer ≡ false) → ((decl && routine) || (results && routine) || (exc && outer)) ≡ false
neither true routine results exc outer a b c = absurd (true≢false a)
neither false routine true true outer a b c = ap (λ (x : Bool). x || outer) (b refl) ∙ c refl
neither false routine true false outer a b c = ap (λ (x : Bool). x || false) (b refl)
neither false routine false true outer a b c = c refl
neither false routine false false outer a b c = refl

of_constants : (k : NodeKind) → is_of_constant k ≡ true → (is_of kind.Decl k ≡ false) × (is_of kind.Routine k ≡ false)
of_constants kind.Decl e = absurd (true≢false (sym e))
of_constants kind.Routine e = absurd (true≢false (sym e))
of_constants kind.File e = absurd (true≢false (sym e))
of_constants _ e = (refl, refl)

module _ (f : File) where
  pub misplaced_at : (m : ℕ) → is_of_heading f (parent f m) ≡ false → IsWholeCvt f m → ⊥
  misplaced_at m heading x =
      true≢false (sym (misplaced (is_word simple.Cvt (item f m).type) (is_cluster_round f m) (is_of_heading f (parent f m)) (is_word simple.Rep (item f m).type && not (is_cluster_round f m)) x.word heading)
      ∙ ap (λ (k : NodeKind). v31_at f k m) (sym x.of_word) ∙ x.placed)

  -- a node of another kind is no part of a heading
  pub no_part : (p : ℕ) → is_kind f kind.Decl p ≡ false → is_kind f kind.Results p ≡ false → is_kind f kind.Exc p ≡ false → is_of_heading f (Some p) ≡ false
  no_part p decl results exc =
      neither (is_kind f kind.Decl p) (stands_in f kind.Routine p) (is_kind f kind.Results p) (is_kind f kind.Exc p) (is_kind_at f kind.Routine (parent_of f (parent f p)))
      decl (λ hit. absurd (true≢false (sym hit ∙ results))) (λ hit. absurd (true≢false (sym hit ∙ exc)))

module _ (f : File) (of : IsFileOfTree f) where
  pub record HasParentIn (low high c : ℕ) : Type 0 where
    pub parent_is : HasParent f.nodes c
    pub above : low ≤ parent_is.parent
    pub below_it : parent_is.parent ≤ high

  wider : (low high top bottom : ℕ) {c : ℕ} → HasParentIn low high c → bottom ≤ low → high ≤ top → HasParentIn bottom top c
  wider low high top bottom p l m =
      let above : low ≤ p.parent_is.parent = p.above in
      let under : p.parent_is.parent ≤ high = p.below_it in
      record { parent_is = p.parent_is; above = omega (arith, above, l); below_it = omega (arith, under, m) }

  covered : (from to : ℕ) (roots : List ℕ) → IsForest f.nodes from roots to → (c : ℕ) → from ≤ c → c < to → IsIn c roots ⊎ HasParentIn from to c
  covered from to _ (none _) c l m = absurd (omega (arith, l, m))
  covered from to _ (tree _ root _ n roots at inside behind) c l m =
      let under : from ≤ root = forest_goes_on f.nodes from root n.children inside in
      let beyond : root + 1 ≤ to = forest_goes_on f.nodes (root + 1) to roots behind in
      elim (cases_lt c root) [
        | inl less ↦ elim (covered from root n.children inside c l less) [
          | inl i ↦ inr (record { parent_is = record { parent = root; node = n; at = at; child = i }; above = under; below_it = omega (arith, beyond) })
          | inr p ↦ inr (wider from root to from p (omega arith) (omega (arith, beyond)))
        ]
        | inr more ↦ elim (cases_lt root c) [
          | inl after ↦ elim (covered (root + 1) to roots behind c (omega (arith, after)) m) [ inl i ↦ inl (inr i) | inr p ↦ inr (wider (root + 1) to to from p (omega (arith, under)) (omega arith)) ]
          | inr upto ↦ inl (inl (omega (arith, more, upto)))
        ]
      ]

  -- the parent of what stands below a node stands there too, or is the node
  pub parent_in : (e : ℕ) (its : Node) → slice_get f.nodes e ≡ Some its → (c : ℕ) → (round f e).first ≤ c → c < e → HasParentIn (round f e).first e c
  parent_in e its at c low high = elim (covered (round f e).first e its.children (is_subtree f.nodes f.rounds of.tree of.surrounded of.ordered e its at) c low high) [
    | inl i ↦ record { parent_is = record { parent = e; node = its; at = at; child = i }; above = omega (arith, low, high); below_it = omega arith }
    | inr p ↦ p
  ]

  pub parent_told : (c : ℕ) (q : HasParent f.nodes c) → parent f c ≡ Some q.parent
  parent_told c q =
      let inside : q.parent < length f.nodes = slice_get_within f.nodes q.parent q.node q.at in
      (of_all (IsAround f.rounds q.parent q.node) c q.node.children
      (around f.nodes f.rounds q.parent q.node of.surrounded q.at (further q.parent (length f.nodes) q.node.children (omega (arith, inside)) (children_before f.nodes of.tree q.parent q.node q.at))) q.child).parent

  pub kind_is : (k : NodeKind) (c : ℕ) (q : HasParent f.nodes c) → stands_in f k c ≡ is_of k q.node.kind
  kind_is k c q = ap (is_kind_at f k) (parent_told c q) ∙ ap (λ (o : Option Node). is_of k (kind_of o)) q.at

  module _ (e : ℕ) (its : Node) (at : slice_get f.nodes e ≡ Some its) (top : IsTop its.kind) where
    here_or_in : (c : ℕ) → (round f e).first ≤ c → c ≤ e → is_of_constant (kind_in f c) ≡ true
    here_or_in c low high = elim (cases_lt c e) [
      | inl less ↦ in_constants f.nodes f.rounds of.shaped of.ordered of.tree of.surrounded e its at top.of_constant c low less
      | inr more ↦ let same : e ≡ c = omega (arith, high, more) in subst (λ (n : ℕ). is_of_constant (kind_in f n) ≡ true) same (ap (λ (o : Option Node). is_of_constant (kind_of o)) at ∙ top.of_constant)
    ]

    no_routine : (c : ℕ) → (round f e).first ≤ c → c < e → stands_in f kind.Routine c ≡ false
    no_routine c low high =
        let p = parent_in e its at c low high in
        kind_is kind.Routine c p.parent_is
        ∙ sym (ap (λ (o : Option Node). is_of kind.Routine (kind_of o)) p.parent_is.at)
        ∙ (of_constants (kind_in f p.parent_is.parent) (here_or_in p.parent_is.parent p.above p.below_it)).1

    -- what is of another kind than the node itself stands below it
    strictly : (k : NodeKind) → is_of k its.kind ≡ false → (p : ℕ) → p ≤ e → is_kind f k p ≡ true → p < e
    strictly k apart p high hit = elim (cases_lt p e) [
      | inl less ↦ less
      | inr more ↦
          let same : p ≡ e = omega (arith, high, more) in
          absurd (true≢false (sym hit ∙ ap (is_kind f k) same ∙ ap (λ (o : Option Node). is_of k (kind_of o)) at ∙ apart))
    ]

    no_exception : (p : ℕ) (q : HasParent f.nodes p) → is_kind f kind.Exc p ≡ true → q.parent ≡ e → ⊥
    no_exception p q hit same =
        let alike : q.node ≡ its = same_Some q.node its (sym q.at ∙ ap (slice_get f.nodes) same ∙ at) in
        true≢false (sym hit ∙ not-true (is_of kind.Exc (kind_at f.nodes p)) (kind_of_child f.nodes of.tree q.parent q.node q.at (of.shaped q.parent q.node q.at) p q.child (λ k. not (is_of kind.Exc k))
        (λ k. ap (λ (m : Node). not (is_of kind.Exc k) || no_form (forms m.kind) k) alike ∙ no_such_child its.kind top.none_below k)))

    no_heading : (p : ℕ) → (round f e).first ≤ p → p ≤ e → is_of_heading f (Some p) ≡ false
    no_heading p low high =
        neither (is_kind f kind.Decl p) (stands_in f kind.Routine p) (is_kind f kind.Results p) (is_kind f kind.Exc p) (is_kind_at f kind.Routine (parent_of f (parent f p)))
        (of_constants (kind_in f p) (here_or_in p low high)).0
        (λ hit. no_routine p low (strictly kind.Results top.no_results p high hit))
        (λ hit. let less = strictly kind.Exc top.no_exception p high hit in
        let q = parent_in e its at p low less in
        let inner : q.parent_is.parent < e = elim (cases_lt q.parent_is.parent e) [
          | inl less ↦ less
          | inr more ↦ let most : q.parent_is.parent ≤ e = q.below_it in absurd (no_exception p q.parent_is hit (omega (arith, more, most)))
        ] in
        ap (λ (o : Option ℕ). is_kind_at f kind.Routine (parent_of f o)) (parent_told p q.parent_is) ∙ no_routine q.parent_is.parent q.above inner)

    pub cvt_refused : (m : ℕ) → (round f e).first ≤ m → m < e → IsWholeCvt f m → ⊥
    cvt_refused m low high x =
        let p = parent_in e its at m low high in
        misplaced_at f m (ap (is_of_heading f) (parent_told m p.parent_is) ∙ no_heading p.parent_is.parent p.above p.below_it) x
