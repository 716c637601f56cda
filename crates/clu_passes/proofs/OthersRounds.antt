-- What stands in a heading: of what is no constant, parameters, where clauses and arguments alone.
use Rattle.std.proofs.Common.{◌≡◌, ◌∙◌, ℕ, zero, suc, ◌+◌, ◌-◌, ◌<◌, ◌≤◌, ◌⊎◌, ◌||◌, ◌&&◌, not, Bool, true, false, List, [], ◌∷◌, get_or, length, map, Option, Some, None, inl, inr, refl, sym, ap, subst, arith}
use Rattle.std.specs.Prelude.{slice_get}
use Rattle.std.specs.List.{AllByRecursion}
use Rattle.std.proofs.lemmas.Bool.{true≢false, cases_lt, or_from, and_parts}
use Rattle.std.proofs.lemmas.Option.{same_Some, slice_get_within}
use Rattle.clu_tree.specs.declared.node.Node.{Node}
use Rattle.clu_tree.specs.declared.node.NodeKind.{NodeKind}
use Rattle.clu_tree.specs.declared.node.NodeKind.TheVariants as kind
use Rattle.clu_tree.specs.Nodes.{IsRoot}
use Rattle.clu_parser.specs.Shape.{forms}
use Rattle.clu_syntax.specs.declared.bodies.Part.{Part}
use Rattle.clu_syntax.specs.declared.round.Round.{Round}
use Rattle.clu_syntax.specs.Bodies.{first_part}
use Rattle.clu_syntax.specs.Kinds.{is_equate, is_of_heading, kind_of}
use Rattle.clu_syntax.specs.Rounds.{child_part, child_round, heading_in, is_of_cluster, outside, round_at, round_in, rounds_in}
use Rattle.clu_syntax.specs.Splits.{is_of}
use Rattle.clu_parts.proofs.Fitting.{AreBefore, children_before}
use Rattle.clu_checking.specs.Files.{File, is_kind, is_kind_at, kind_in, node_children, parent, parent_of, round, stands_in}
use Rattle.clu_checking.specs.ConstantRules as rules_of
use Rattle.clu_checking.specs.Refusals.{rest}
use Rattle.clu_declares.proofs.Around.{there}
use Rattle.clu_declares.proofs.Below.{same_kind}
use Rattle.clu_declares.proofs.Facts.{further}
use Rattle.clu_declares.proofs.Parents.{HasParent, IsIn, has_parent, kind_of_child, no_form, of_all}
use Rattle.clu_passes.specs.Losing.{is_definition, is_plain, walk_by, walk_of}
use Rattle.clu_passes.specs.Notes.{HaveParents, has}
use Rattle.clu_passes.specs.OthersKnown.{is_in_headings}
use Rattle.clu_passes.specs.Trees.{IsFileOfTree, is_of_constant}
use Rattle.clu_passes.proofs.CvtPlaces.{parent_told}
use Rattle.clu_passes.proofs.OfParents.{is_in}
use Rattle.clu_passes.proofs.OthersFine.{no_constant_round}
use Rattle.clu_passes.proofs.RefusedBelow.{IsAlike, alike_to}

-- ---- kinds

-- of what is a constant or may stand in a heading
abbrev is_either : NodeKind → Bool
is_either k = is_of_constant k || is_in_headings k

below_parm : (k : NodeKind) → (is_of_constant k || no_form (forms kind.Parm) k) ≡ true
unfolding no_form
below_parm kind.File = refl
below_parm _ = refl

below_where : (k : NodeKind) → (is_either k || no_form (forms kind.Where) k) ≡ true
unfolding no_form
below_where kind.File = refl
below_where _ = refl

below_restrict : (k : NodeKind) → (is_of_constant k || no_form (forms kind.Restrict) k) ≡ true
unfolding no_form
below_restrict kind.File = refl
below_restrict _ = refl

below_decl : (k : NodeKind) → (is_of_constant k || no_form (forms kind.Decl) k) ≡ true
unfolding no_form
below_decl kind.File = refl
below_decl _ = refl

more_kinds : (a b c : Bool) → (a || c) ≡ true → ((a || b) || c) ≡ true
more_kinds true b c e = refl
more_kinds false true c e = refl
more_kinds false false c e = e

below_headings : (p k : NodeKind) → is_in_headings p ≡ true → (is_either k || no_form (forms p) k) ≡ true
below_headings kind.Parm k e = more_kinds (is_of_constant k) (is_in_headings k) (no_form (forms kind.Parm) k) (below_parm k)
below_headings kind.Where k e = below_where k
below_headings kind.Restrict k e = more_kinds (is_of_constant k) (is_in_headings k) (no_form (forms kind.Restrict) k) (below_restrict k)
below_headings kind.Decl k e = more_kinds (is_of_constant k) (is_in_headings k) (no_form (forms kind.Decl) k) (below_decl k)
below_headings kind.File k e = absurd (true≢false (sym e))
below_headings _ k e = absurd (true≢false (sym e))

no_equate : (k : NodeKind) → is_of_constant k ≡ false → is_equate k ≡ false
no_equate kind.Equate e = absurd (true≢false e)
no_equate _ e = refl

no_heading : (k : NodeKind) → is_of_constant k ≡ false → is_in_headings k ≡ false → is_of_heading k ≡ false
no_heading kind.Parm e h = absurd (true≢false h)
no_heading kind.Decl e h = absurd (true≢false h)
no_heading kind.Where e h = absurd (true≢false h)
no_heading kind.Results e h = absurd (true≢false e)
no_heading kind.Signals e h = absurd (true≢false e)
no_heading kind.File e h = refl
no_heading _ e h = refl

no_cluster : (k : NodeKind) (names : List (List ℕ)) → is_of_constant k ≡ false → is_in_headings k ≡ false → is_of_cluster k names ≡ false
no_cluster kind.Parm names e h = absurd (true≢false h)
no_cluster kind.Where names e h = absurd (true≢false h)
no_cluster kind.Equate names e h = absurd (true≢false e)
no_cluster kind.File names e h = refl
no_cluster _ names e h = refl

-- so of a child that is neither the heading is that of its parent, if this is no module, routine or cluster
bare_in : (k : NodeKind) (child : Node) (r : Round) → is_of_constant child.kind ≡ false → is_in_headings child.kind ≡ false → (is_definition k ≡ false → r.heading ≡ false) → heading_in k child r ≡ false
bare_in kind.Module child r e h more = no_equate child.kind e
bare_in kind.Routine child r e h more = no_heading child.kind e h
bare_in kind.Cluster child r e h more = no_cluster child.kind child.names e h
bare_in kind.File child r e h more = more refl
bare_in _ child r e h more = more refl

walk_bare : (b heading : Bool) → heading ≡ false → walk_by b heading ≡ rest
walk_bare true heading e = refl
walk_bare false heading e = ap (walk_by false) e

-- below what is no module, routine or cluster it is that of the parent
of_part : (k : NodeKind) (child : Node) (r : Round) → is_definition k ≡ false → heading_in k child r ≡ r.heading
of_part kind.Module child r e = absurd (true≢false e)
of_part kind.Routine child r e = absurd (true≢false e)
of_part kind.Cluster child r e = absurd (true≢false e)
of_part kind.File child r e = refl
of_part _ child r e = refl

-- an exception stands in Signals
above_exception : (p : NodeKind) → (is_of kind.Signals p || no_form (forms p) kind.Exc) ≡ true
unfolding no_form
above_exception kind.File = refl
above_exception _ = refl

with_false : (a c : Bool) → (a || c) ≡ true → ((a || false) || c) ≡ true
with_false true c e = refl
with_false false c e = e

with_true : (a c : Bool) → ((a || true) || c) ≡ true
with_true true c = refl
with_true false c = refl

signals_above : (p k : NodeKind) → ((is_of kind.Signals p || not (is_of kind.Exc k)) || no_form (forms p) k) ≡ true
signals_above p k = by (is_of kind.Exc k) refl
  where
    by : (b : Bool) → is_of kind.Exc k ≡ b → ((is_of kind.Signals p || not (is_of kind.Exc k)) || no_form (forms p) k) ≡ true
    by true is =
        ap (λ (j : NodeKind). (is_of kind.Signals p || not (is_of kind.Exc j)) || no_form (forms p) j) (same_kind kind.Exc k is)
        ∙ with_false (is_of kind.Signals p) (no_form (forms p) kind.Exc) (above_exception p)
    by false is = ap (λ (b : Bool). (is_of kind.Signals p || not b) || no_form (forms p) k) is ∙ with_true (is_of kind.Signals p) (no_form (forms p) k)

one_left : (a b : Bool) → (a || not b) ≡ true → b ≡ true → a ≡ true
one_left true b e h = refl
one_left false true e h = absurd (true≢false (sym e))
one_left false false e h = absurd (true≢false (sym h))

module _ (f : File) (of : IsFileOfTree f) (parents : HaveParents f) where
  -- ---- what surrounds a child

  pub record IsRoundIn (p : ℕ) (node : Node) (c : ℕ) : Type 0 where
    pub child : Node
    pub at : slice_get f.nodes c ≡ Some child
    pub begin : ℕ
    pub part : Part
    pub is : round f c ≡ round_in f.nodes p node child (round f p) begin part

  rounds_there : (p : ℕ) (node : Node) (before : Part) (begin : ℕ) (cs : List ℕ) → AreBefore (length f.nodes) cs → map (round_at f.rounds) cs ≡ rounds_in f.nodes p node (round_at f.rounds p) before begin cs → AllByRecursion (IsRoundIn p node) cs
  unfolding rounds_in
  rounds_there p node before begin [] l e = tt
  rounds_there p node before begin (c ∷ cs) l e =
      let part : Part = child_part f.nodes node (slice_get f.nodes c) before begin (c ∷ cs) in
      let head : round_at f.rounds c ≡ child_round f.nodes p node (slice_get f.nodes c) (round_at f.rounds p) begin part = cc in
      let tail : map (round_at f.rounds) cs ≡ rounds_in f.nodes p node (round_at f.rounds p) part (c + 1) cs = cc in
      let m = there f.nodes c l.0 in (
        record { child = m.0; at = m.1; begin = begin; part = part; is = head ∙ ap (λ (o : Option Node). child_round f.nodes p node o (round_at f.rounds p) begin part) m.1 },
        rounds_there p node part (c + 1) cs l.1 tail,
      )

  pub round_of : (p : ℕ) (node : Node) → slice_get f.nodes p ≡ Some node → (c : ℕ) → IsIn c node.children → IsRoundIn p node c
  round_of p node at c i =
      let inside : p < length f.nodes = slice_get_within f.nodes p node at in
      of_all (IsRoundIn p node) c node.children
      (rounds_there p node (first_part f.nodes node (round f p).first) (round f p).first node.children
      (further p (length f.nodes) node.children (omega (arith, inside)) (children_before f.nodes of.tree p node at)) (of.surrounded.children_are p node at))
      i

  pub heading_of : (p : ℕ) (node : Node) → slice_get f.nodes p ≡ Some node → (c : ℕ) → IsIn c node.children → (child : Node) → slice_get f.nodes c ≡ Some child → (round f c).heading ≡ heading_in node.kind child (round f p)
  heading_of p node at c i child here =
      let x : IsRoundIn p node c = round_of p node at c i in
      let same : x.child ≡ child = same_Some x.child child (sym x.at ∙ here) in
      ap (λ (r : Round). r.heading) x.is ∙ ap (λ (m : Node). heading_in node.kind m (round f p)) same

  -- ---- what is no part of a heading

  root_is : (n : ℕ) → length f.nodes - 1 ≤ n → round f n ≡ outside
  root_is n l = of.surrounded.roots_are n is_root
    where
      is_root : IsRoot f.nodes n
      is_root m node at child =
          let below : get_or node.children child.0 n < m = of.tree.below m node at child.0 n child.1 in
          let inside : m < length f.nodes = slice_get_within f.nodes m node at in
          absurd (omega (arith, below, child.2, inside, l))

  root_bare : (n : ℕ) → length f.nodes - 1 ≤ n → (round f n).heading ≡ false
  root_bare n l = ap (λ (r : Round). r.heading) (root_is n l)

  pub root_outside : (n : ℕ) → length f.nodes - 1 ≤ n → (round f n).routine ≡ None
  root_outside n l = ap (λ (r : Round). r.routine) (root_is n l)

  bare_by : (d n : ℕ) → length f.nodes ≤ n + d → is_of_constant (kind_in f n) ≡ false → is_in_headings (kind_in f n) ≡ false → (round f n).heading ≡ false
  bare_by zero n l apart asks = root_bare n (omega (arith, l))
  bare_by (suc d) n l apart asks = elim (cases_lt n (length f.nodes - 1)) [
    | inl less ↦ by_parent (has_parent f.nodes of.ordered n less) (bare_by d)
    | inr more ↦ root_bare n more
  ]
    where
      by_parent : HasParent f.nodes n → ((m : ℕ) → length f.nodes ≤ m + d → is_of_constant (kind_in f m) ≡ false → is_in_headings (kind_in f m) ≡ false → (round f m).heading ≡ false) → (round f n).heading ≡ false
      by_parent q goes =
          let x : IsRoundIn q.parent q.node n = round_of q.parent q.node q.at n q.child in
          let its : kind_in f n ≡ x.child.kind = ap kind_of x.at in
          let less : n < q.parent = (of_all (λ (c : ℕ). c < q.parent) n q.node.children (children_before f.nodes of.tree q.parent q.node q.at) q.child) in
          ap (λ (r : Round). r.heading) x.is
          ∙ bare_in q.node.kind x.child (round f q.parent) (sym (ap is_of_constant its) ∙ apart) (sym (ap is_in_headings its) ∙ asks) (λ other.
          goes q.parent (omega (arith, l, less)) (no_constant_round f of parents n q.parent apart (parent_told f of n q) (is_of_constant (kind_in f q.parent)) refl)
          (parent_asks (is_in_headings (kind_in f q.parent)) refl))
        where
          parent_asks : (b : Bool) → is_in_headings (kind_in f q.parent) ≡ b → is_in_headings (kind_in f q.parent) ≡ false
          parent_asks true is =
              absurd (true≢false (sym (kind_of_child f.nodes of.tree q.parent q.node q.at (of.shaped q.parent q.node q.at) n q.child is_either
              (λ j. below_headings q.node.kind j (sym (ap is_in_headings (ap kind_of q.at)) ∙ is)))
              ∙ or_from (is_of_constant (kind_in f n)) (is_in_headings (kind_in f n)) apart asks))
          parent_asks false is = is

  pub no_part_bare : (n : ℕ) → is_of_constant (kind_in f n) ≡ false → is_in_headings (kind_in f n) ≡ false → (round f n).heading ≡ false
  no_part_bare n apart asks = bare_by (length f.nodes) n (omega arith) apart asks

  pub in_rest : (n : ℕ) → is_of_constant (kind_in f n) ≡ false → is_in_headings (kind_in f n) ≡ false → walk_of f n ≡ rest
  in_rest n apart asks = walk_bare (is_definition (kind_in f n)) (round f n).heading (no_part_bare n apart asks)

  -- and so is what stands below it
  pub bare_below : (n : ℕ) (node : Node) → slice_get f.nodes n ≡ Some node → is_plain node.kind ≡ true → (round f n).heading ≡ false → (m : ℕ) → (round f n).first ≤ m → m ≤ n → (round f m).heading ≡ false
  bare_below n node at plain bare m low high = elim (cases_lt m n) [
    | inl less ↦ let x : IsAlike f of n node at plain m = alike_to f of n node at plain n m low less (omega arith) in x.heading ∙ bare
    | inr more ↦ let same : n ≡ m = omega (arith, high, more) in subst (λ (x : ℕ). (round f x).heading ≡ false) same bare
  ]

  -- ---- what is a whole type of a heading

  pub record HasParentNode (n p : ℕ) : Type 0 where
    pub node : Node
    pub at : slice_get f.nodes p ≡ Some node
    pub child : IsIn n node.children

  pub parent_node : (n p : ℕ) → parent f n ≡ Some p → HasParentNode n p
  parent_node n p up = by (slice_get f.nodes p) refl
    where
      by : (o : Option Node) → slice_get f.nodes p ≡ o → HasParentNode n p
      by None at = absurd (true≢false (sym (parents.below p n up) ∙ ap (λ (o : Option Node). has n (node_children f o)) at))
      by (Some node) at = record { node = node; at = at; child = is_in n node.children (sym (ap (λ (o : Option Node). has n (node_children f o)) at) ∙ parents.below p n up) }

  heading_from : (n p : ℕ) → parent f n ≡ Some p → (k : NodeKind) → kind_in f p ≡ k → ((child : Node) → child.kind ≡ kind_in f n → heading_in k child (round f p) ≡ true) → (round f n).heading ≡ true
  heading_from n p up k is holds =
      let q : HasParentNode n p = parent_node n p up in
      let x : IsRoundIn p q.node n = round_of p q.node q.at n q.child in
      ap (λ (r : Round). r.heading) x.is
      ∙ ap (λ (j : NodeKind). heading_in j x.child (round f p)) (sym (ap kind_of q.at) ∙ is)
      ∙ holds x.child (sym (ap kind_of x.at))

  pub through : (n p : ℕ) → parent f n ≡ Some p → is_definition (kind_in f p) ≡ false → (round f p).heading ≡ true → (round f n).heading ≡ true
  through n p up other headed = heading_from n p up (kind_in f p) refl (λ child is. of_part (kind_in f p) child (round f p) other ∙ headed)

  pub of_routine : (n p : ℕ) → parent f n ≡ Some p → kind_in f p ≡ kind.Routine → is_of_heading (kind_in f n) ≡ true → (round f n).heading ≡ true
  of_routine n p up is asks = heading_from n p up kind.Routine is (λ child same. ap is_of_heading same ∙ asks)

  stands_in_routine : (p : ℕ) (o : Option ℕ) → parent f p ≡ o → is_kind_at f kind.Routine o ≡ true → is_of_heading (kind_in f p) ≡ true → (round f p).heading ≡ true
  stands_in_routine p None up hit asks = absurd (true≢false (sym hit))
  stands_in_routine p (Some r) up hit asks = of_routine p r up (same_kind kind.Routine (kind_in f r) hit) asks

  of_kind : (p : ℕ) (k : NodeKind) → is_of_heading k ≡ true → (is_kind f k p && stands_in f kind.Routine p) ≡ true → (round f p).heading ≡ true
  of_kind p k asks hit =
      let both = and_parts (is_kind f k p) (stands_in f kind.Routine p) hit in
      stands_in_routine p (parent f p) refl both.1 (ap is_of_heading (same_kind k (kind_in f p) both.0) ∙ asks)

  of_exception : (p : ℕ) → (is_kind f kind.Exc p && is_kind_at f kind.Routine (parent_of f (parent f p))) ≡ true → (round f p).heading ≡ true
  of_exception p hit =
      let both = and_parts (is_kind f kind.Exc p) (is_kind_at f kind.Routine (parent_of f (parent f p))) hit in
      by both.0 (parent f p) refl both.1
    where
      by : is_kind f kind.Exc p ≡ true → (o : Option ℕ) → parent f p ≡ o → is_kind_at f kind.Routine (parent_of f o) ≡ true → (round f p).heading ≡ true
      by is None up routine = absurd (true≢false (sym routine))
      by is (Some s) up routine =
          let q : HasParentNode p s = parent_node p s up in
          let exception : kind_in f p ≡ kind.Exc = same_kind kind.Exc (kind_in f p) is in
          let its : is_of kind.Signals (kind_in f s) ≡ true =
          ap (λ (o : Option Node). is_of kind.Signals (kind_of o)) q.at
          ∙ one_left (is_of kind.Signals q.node.kind) (is_of kind.Exc (kind_in f p)) (kind_of_child f.nodes of.tree s q.node q.at (of.shaped s q.node q.at) p q.child (λ j. is_of kind.Signals q.node.kind || not (is_of kind.Exc j)) (λ j. signals_above q.node.kind j)) (ap (is_of kind.Exc) exception) in
          let kind_is : kind_in f s ≡ kind.Signals = same_kind kind.Signals (kind_in f s) its in
          through p s up (ap is_definition kind_is) (stands_in_routine s (parent f s) refl routine (ap is_of_heading kind_is))

  any_part : (a b c : Bool) → (a || b || c) ≡ true → (a ≡ true) ⊎ ((b ≡ true) ⊎ (c ≡ true))
  any_part true b c e = inl refl
  any_part false true c e = inr (inl refl)
  any_part false false c e = inr (inr e)

  pub headed : (m : ℕ) → rules_of.is_of_heading f (parent f m) ≡ true → (round f m).heading ≡ true
  headed m hit = by (parent f m) refl hit
    where
      not_definition : (p : ℕ) (k : NodeKind) → is_definition k ≡ false → is_kind f k p ≡ true → is_definition (kind_in f p) ≡ false
      not_definition p k other is = ap is_definition (same_kind k (kind_in f p) is) ∙ other

      by : (o : Option ℕ) → parent f m ≡ o → rules_of.is_of_heading f o ≡ true → (round f m).heading ≡ true
      by None up e = absurd (true≢false (sym e))
      by (Some p) up e = elim (any_part (is_kind f kind.Decl p && stands_in f kind.Routine p) (is_kind f kind.Results p && stands_in f kind.Routine p) (is_kind f kind.Exc p && is_kind_at f kind.Routine (parent_of f (parent f p))) e) [
        | inl decl ↦ through m p up (not_definition p kind.Decl refl (and_parts (is_kind f kind.Decl p) (stands_in f kind.Routine p) decl).0) (of_kind p kind.Decl refl decl)
        | inr more ↦ elim more [
          | inl results ↦ through m p up (not_definition p kind.Results refl (and_parts (is_kind f kind.Results p) (stands_in f kind.Routine p) results).0) (of_kind p kind.Results refl results)
          | inr exception ↦ through m p up (not_definition p kind.Exc refl (and_parts (is_kind f kind.Exc p) (is_kind_at f kind.Routine (parent_of f (parent f p))) exception).0) (of_exception p exception)
        ]
      ]
