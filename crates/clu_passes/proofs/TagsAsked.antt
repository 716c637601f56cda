-- Where a rule that looks for tags is asked of a node, this stands in no heading and in no equate.
use Rattle.std.proofs.Common.{◌≡◌, ◌∙◌, ◌⊎◌, ℕ, zero, suc, ◌+◌, ◌-◌, ◌<◌, ◌≤◌, ◌||◌, not, Bool, true, false, List, [], length, Some, None, inl, inr, refl, sym, ap, subst, arith}
use Rattle.std.specs.Prelude.{slice_get}
use Rattle.std.proofs.lemmas.Bool.{true≢false, cases_Bool, not-true}
use Rattle.std.proofs.lemmas.Option.{slice_get_within}
use Rattle.clu_base.proofs.Bools.{implied}
use Rattle.clu_tree.specs.declared.node.Node.{Node}
use Rattle.clu_tree.specs.declared.node.NodeKind.{NodeKind}
use Rattle.clu_tree.specs.declared.node.NodeKind.TheVariants as kind
use Rattle.clu_parser.specs.Shape.{HasForm, forms}
use Rattle.clu_parser.specs.Trees.{Text}
use Rattle.clu_tree.specs.Nodes.{IsTree}
use Rattle.clu_syntax.specs.declared.round.Round.{Round}
use Rattle.clu_syntax.specs.Bodies.{first_part}
use Rattle.clu_syntax.specs.Kinds.{is_equate, is_of_heading, kind_at, kind_of}
use Rattle.clu_syntax.specs.Rounds.{AreRounds, heading_in, is_of_cluster, round_at}
use Rattle.clu_syntax.specs.Splits.{is_of}
use Rattle.clu_syntax.specs.Syntax.{Identifier}
use Rattle.clu_parts.proofs.Fitting.{children_before}
use Rattle.clu_declares.specs.Declares.{IsParsed}
use Rattle.clu_declares.proofs.Around.{there}
use Rattle.clu_declares.proofs.Below.{same_kind}
use Rattle.clu_declares.proofs.Facts as facts
use Rattle.clu_declares.proofs.Facts.{further}
use Rattle.clu_declares.proofs.Haves.{parent_of}
use Rattle.clu_declares.proofs.Parents.{HasParent, IsIn, child_before, kind_of_child, no_form, of_all}
use Rattle.clu_type_rules.specs.Asked.{rules_at}
use Rattle.clu_passes.specs.Tags.{asks_tags}
use Rattle.clu_passes.specs.Trees.{is_of_constant}
use Rattle.clu_passes.proofs.InEquates.{in_constants, in_declarations}
use Rattle.clu_passes.proofs.RefusedBelow.{IsHeaded, headed_in}

-- ---- kinds

-- statements that hold others or look for tags, arms and Owns
abbrev is_body : NodeKind → Bool
is_body kind.Own = true
is_body kind.Init = true
is_body kind.Assign = true
is_body kind.For = true
is_body kind.TagArm = true
is_body kind.Tagcase = true
is_body kind.While = true
is_body kind.If = true
is_body kind.Begin = true
is_body kind.Resignal = true
is_body kind.Except = true
is_body kind.When = true
is_body kind.Others = true
is_body _ = false

-- of what only statements, arms, routines and clusters are made
abbrev may_hold : NodeKind → Bool
may_hold j = is_body j || is_of kind.Routine j || is_of kind.Cluster j

above_own : (j : NodeKind) → (may_hold j || no_form (forms j) kind.Own) ≡ true
unfolding no_form
above_own kind.File = refl
above_own _ = refl

above_init : (j : NodeKind) → (may_hold j || no_form (forms j) kind.Init) ≡ true
unfolding no_form
above_init kind.File = refl
above_init _ = refl

above_assign : (j : NodeKind) → (may_hold j || no_form (forms j) kind.Assign) ≡ true
unfolding no_form
above_assign kind.File = refl
above_assign _ = refl

above_for : (j : NodeKind) → (may_hold j || no_form (forms j) kind.For) ≡ true
unfolding no_form
above_for kind.File = refl
above_for _ = refl

above_tagarm : (j : NodeKind) → (may_hold j || no_form (forms j) kind.TagArm) ≡ true
unfolding no_form
above_tagarm kind.File = refl
above_tagarm _ = refl

above_tagcase : (j : NodeKind) → (may_hold j || no_form (forms j) kind.Tagcase) ≡ true
unfolding no_form
above_tagcase kind.File = refl
above_tagcase _ = refl

above_while : (j : NodeKind) → (may_hold j || no_form (forms j) kind.While) ≡ true
unfolding no_form
above_while kind.File = refl
above_while _ = refl

above_if : (j : NodeKind) → (may_hold j || no_form (forms j) kind.If) ≡ true
unfolding no_form
above_if kind.File = refl
above_if _ = refl

above_begin : (j : NodeKind) → (may_hold j || no_form (forms j) kind.Begin) ≡ true
unfolding no_form
above_begin kind.File = refl
above_begin _ = refl

above_resignal : (j : NodeKind) → (may_hold j || no_form (forms j) kind.Resignal) ≡ true
unfolding no_form
above_resignal kind.File = refl
above_resignal _ = refl

above_except : (j : NodeKind) → (may_hold j || no_form (forms j) kind.Except) ≡ true
unfolding no_form
above_except kind.File = refl
above_except _ = refl

above_when : (j : NodeKind) → (may_hold j || no_form (forms j) kind.When) ≡ true
unfolding no_form
above_when kind.File = refl
above_when _ = refl

above_others : (j : NodeKind) → (may_hold j || no_form (forms j) kind.Others) ≡ true
unfolding no_form
above_others kind.File = refl
above_others _ = refl

above : (k : NodeKind) → is_body k ≡ true → (j : NodeKind) → (may_hold j || no_form (forms j) k) ≡ true
above kind.Own is j = above_own j
above kind.Init is j = above_init j
above kind.Assign is j = above_assign j
above kind.For is j = above_for j
above kind.TagArm is j = above_tagarm j
above kind.Tagcase is j = above_tagcase j
above kind.While is j = above_while j
above kind.If is j = above_if j
above kind.Begin is j = above_begin j
above kind.Resignal is j = above_resignal j
above kind.Except is j = above_except j
above kind.When is j = above_when j
above kind.Others is j = above_others j
above kind.File is j = absurd (true≢false (sym is))
above _ is j = absurd (true≢false (sym is))

asked_in_bodies : (k : NodeKind) → (not (asks_tags (rules_at k)) || is_body k) ≡ true
asked_in_bodies kind.File = refl
asked_in_bodies _ = refl

not_of_constants : (k : NodeKind) → (not (is_of_constant k) || not (asks_tags (rules_at k))) ≡ true
not_of_constants kind.File = refl
not_of_constants _ = refl

no_file : (k : NodeKind) → is_body k ≡ true → is_of k kind.File ≡ false
no_file kind.File is = absurd (true≢false (sym is))
no_file _ is = refl

of_no_heading : (k : NodeKind) → is_body k ≡ true → is_of_heading k ≡ false
of_no_heading kind.Parm is = absurd (true≢false (sym is))
of_no_heading kind.Decl is = absurd (true≢false (sym is))
of_no_heading kind.Results is = absurd (true≢false (sym is))
of_no_heading kind.Signals is = absurd (true≢false (sym is))
of_no_heading kind.Where is = absurd (true≢false (sym is))
of_no_heading _ is = refl

of_no_cluster : (k : NodeKind) (names : List Identifier) → is_body k ≡ true → is_of_cluster k names ≡ false
of_no_cluster kind.Parm names is = absurd (true≢false (sym is))
of_no_cluster kind.Where names is = absurd (true≢false (sym is))
of_no_cluster kind.Equate names is = absurd (true≢false (sym is))
of_no_cluster _ names is = refl

body_heading : (k : NodeKind) (child : Node) (r : Round) → is_body k ≡ true → heading_in k child r ≡ r.heading
body_heading kind.Module child r is = absurd (true≢false (sym is))
body_heading kind.Routine child r is = absurd (true≢false (sym is))
body_heading kind.Cluster child r is = absurd (true≢false (sym is))
body_heading _ child r is = refl

either_of_three : (a b c : Bool) → (a || b || c) ≡ true → (a ≡ true) ⊎ ((b ≡ true) ⊎ (c ≡ true))
either_of_three true b c e = inl refl
either_of_three false true c e = inr (inl refl)
either_of_three false false c e = inr (inr e)

-- what stands round a node of a body
round_body : (nodes : List Node) → IsTree nodes → (p : ℕ) (node : Node) → slice_get nodes p ≡ Some node → HasForm nodes node → (c : ℕ) → IsIn c node.children → is_body (kind_at nodes c) ≡ true → may_hold node.kind ≡ true
round_body nodes tree p node at form c child is =
    implied (is_body (kind_at nodes c)) (may_hold node.kind) (kind_of_child nodes tree p node at form c child (λ k. not (is_body k) || may_hold node.kind) each) is
  where
    by : (k : NodeKind) (b : Bool) → is_body k ≡ b → ((not b || may_hold node.kind) || no_form (forms node.kind) k) ≡ true
    by k true body = above k body node.kind
    by k false body = refl

    each : (k : NodeKind) → ((not (is_body k) || may_hold node.kind) || no_form (forms node.kind) k) ≡ true
    each k = by k (is_body k) refl

-- ---- the headings of children

module _ (t : Text) (nodes : List Node) (rounds : List Round) (parsed : IsParsed t nodes) (are : AreRounds nodes rounds) where
  headed : (n : ℕ) (q : HasParent nodes n) → IsHeaded nodes rounds q.parent q.node n
  headed n q =
      let inside : q.parent < length nodes = slice_get_within nodes q.parent q.node q.at in
      of_all (IsHeaded nodes rounds q.parent q.node) n q.node.children
      (headed_in nodes rounds q.parent q.node (first_part nodes q.node (round_at rounds q.parent).first) (round_at rounds q.parent).first q.node.children
      (further q.parent (length nodes) q.node.children (omega (arith, inside)) (children_before nodes parsed.tree q.parent q.node q.at)) (are.children_are q.parent q.node q.at)) q.child

  -- a node of a body stands in no heading
  body_headed : (d n : ℕ) → length nodes ≤ n + d → is_body (kind_at nodes n) ≡ true → (round_at rounds n).heading ≡ false
  body_headed zero n l is =
      let q : HasParent nodes n = parent_of t nodes rounds parsed are 0 [] n (kind_at nodes n) refl (no_file (kind_at nodes n) is) in
      let up : n < q.parent = child_before nodes parsed.tree q.parent q.node q.at (parsed.forms q.parent q.node q.at) n q.child in
      let inside : q.parent < length nodes = slice_get_within nodes q.parent q.node q.at in
      absurd (omega (arith, l, up, inside))
  body_headed (suc d) n l is =
      let q : HasParent nodes n = parent_of t nodes rounds parsed are 0 [] n (kind_at nodes n) refl (no_file (kind_at nodes n) is) in
      let up : n < q.parent = child_before nodes parsed.tree q.parent q.node q.at (parsed.forms q.parent q.node q.at) n q.child in
      let its : IsHeaded nodes rounds q.parent q.node n = headed n q in
      let its_kind : is_body its.its.kind ≡ true = subst (λ (k : NodeKind). is_body k ≡ true) (ap kind_of its.at) is in
      its.heading ∙ elim (either_of_three (is_body q.node.kind) (is_of kind.Routine q.node.kind) (is_of kind.Cluster q.node.kind) (round_body nodes parsed.tree q.parent q.node q.at (parsed.forms q.parent q.node q.at) n q.child is)) [
        | inl body ↦
            body_heading q.node.kind its.its (round_at rounds q.parent) body
            ∙ body_headed d q.parent (omega (arith, l, up)) (subst (λ (k : NodeKind). is_body k ≡ true) (sym (ap kind_of q.at)) body)
        | inr (inl routine) ↦ ap (λ (k : NodeKind). heading_in k its.its (round_at rounds q.parent)) (same_kind kind.Routine q.node.kind routine) ∙ of_no_heading its.its.kind its_kind
        | inr (inr cluster) ↦ ap (λ (k : NodeKind). heading_in k its.its (round_at rounds q.parent)) (same_kind kind.Cluster q.node.kind cluster) ∙ of_no_cluster its.its.kind its.its.names its_kind
      ]

  pub none_in_headings : (n : ℕ) → (round_at rounds n).heading ≡ true → asks_tags (rules_at (kind_at nodes n)) ≡ false
  none_in_headings n is = elim (cases_Bool (asks_tags (rules_at (kind_at nodes n)))) [
    | inl asked ↦ absurd (true≢false (sym is ∙ body_headed (length nodes) n (omega arith) (implied (asks_tags (rules_at (kind_at nodes n))) (is_body (kind_at nodes n)) (asked_in_bodies (kind_at nodes n)) asked)))
    | inr none ↦ none
  ]

  pub none_in_equates : (e : ℕ) → (is_of kind.Equate (kind_at nodes e) || is_of kind.Decl (kind_at nodes e)) ≡ true → (n : ℕ) → (round_at rounds e).first ≤ n → n < e → asks_tags (rules_at (kind_at nodes n)) ≡ false
  none_in_equates e is n from to =
      not-true (asks_tags (rules_at (kind_at nodes n)))
      (implied (is_of_constant (kind_at nodes n)) (not (asks_tags (rules_at (kind_at nodes n)))) (not_of_constants (kind_at nodes n))
      (elim (cases_Bool (is_of kind.Equate (kind_at nodes e))) [
        | inl equate ↦ of_equate (facts.there nodes e kind.Equate refl (same_kind kind.Equate (kind_at nodes e) equate))
        | inr other ↦ of_declaration (facts.there nodes e kind.Decl refl (same_kind kind.Decl (kind_at nodes e) (second (is_of kind.Equate (kind_at nodes e)) (is_of kind.Decl (kind_at nodes e)) is other)))
      ]))
    where
      of_equate : facts.There nodes e kind.Equate → is_of_constant (kind_at nodes n) ≡ true
      of_equate x = in_constants nodes rounds parsed.forms parsed.order parsed.tree are e x.node x.at (ap is_of_constant x.is) n from to

      of_declaration : facts.There nodes e kind.Decl → is_of_constant (kind_at nodes n) ≡ true
      of_declaration x = in_declarations nodes rounds parsed.forms parsed.order parsed.tree are e x.node x.at x.is n from to

      second : (a b : Bool) → (a || b) ≡ true → a ≡ false → b ≡ true
      second true b is other = absurd (true≢false other)
      second false b is other = is
