-- The variable of a type set is known inside it alone.
use Rattle.std.proofs.Common.{◌≡◌, ◌∙◌, ◌≤◌, ◌<◌, ◌+◌, ◌&&◌, ℕ, nat_le, true, false, List, [], ◌∷◌, length, map, Option, Some, None, slice_get, refl, ap, sym, subst, arith}
use Rattle.std.specs.Prelude.{bytes_eq}
use Rattle.std.proofs.lemmas.Bool.{true≢false, and_parts, eqb-true, leb-true}
use Rattle.std.proofs.lemmas.Option.{none-some, slice_get_within}
use Rattle.clu_tree.specs.declared.node.Node.{Node}
use Rattle.clu_tree.specs.declared.node.NodeKind.{NodeKind}
use Rattle.clu_tree.specs.declared.node.NodeKind.TheVariants as kind
use Rattle.clu_parser.specs.Trees.{Text}
use Rattle.clu_syntax.specs.declared.bodies.Part.{Part}
use Rattle.clu_syntax.specs.declared.round.Round.{Round}
use Rattle.clu_syntax.specs.Bodies.{first_part}
use Rattle.clu_syntax.specs.Kinds.{kind_at, kind_of}
use Rattle.clu_syntax.specs.Rounds.{AreRounds, round_at, rounds_in, child_round, child_part, body_in}
use Rattle.clu_syntax.specs.Syntax.{Identifier}
use Rattle.clu_names.specs.declared.scopes.Declared.{Declared}
use Rattle.clu_names.specs.Denotes.{is_open, stands_in}
use Rattle.clu_names.specs.Latest.{is_local}
use Rattle.clu_names.specs.Scopes.{declarations, is_first, is_module, kind_at_parent, scope_of}
use Rattle.clu_parts.proofs.Fitting.{AreBefore, children_before}
use Rattle.clu_declares.specs.Declares.{IsParsed}
use Rattle.clu_declares.proofs.Around.{there}
use Rattle.clu_declares.proofs.Facts.{further}
use Rattle.clu_name_rules.specs.Closed.{is_definition}
use Rattle.clu_passes.proofs.Units.{AreEach, modules_declared, of_each}

-- a type set is no module
no_module : (k : NodeKind) → is_module k kind.TypeSet ≡ false
no_module kind.Module = refl
no_module _ = refl

module _ (t : Text) (nodes : List Node) (rounds : List Round) (parsed : IsParsed t nodes) (are : AreRounds nodes rounds) where
  -- the body round the node is the type set p
  abbrev IsBody : ℕ → ℕ → Type 0
  IsBody p n = ((round_at rounds n).body_first ≡ (round_at rounds p).first) × ((round_at rounds n).body_last ≡ p)

  first_of : (p n : ℕ) (outer : Node) → outer.kind ≡ kind.TypeSet → (before : Part) (first : ℕ) (cs : List ℕ) → AreBefore (length nodes) cs → map (round_at rounds) cs ≡ rounds_in nodes p outer (round_at rounds p) before first cs → is_first n cs ≡ true → IsBody p n
  unfolding rounds_in
  first_of p n outer is before first [] l e begins = absurd (true≢false (sym begins))
  first_of p n outer is before first (c ∷ cs) l e begins =
      let part : Part = child_part nodes outer (slice_get nodes c) before first (c ∷ cs) in
      let head : round_at rounds c ≡ child_round nodes p outer (slice_get nodes c) (round_at rounds p) first part = cc in
      let m = there nodes c l.0 in
      let its : round_at rounds c ≡ child_round nodes p outer (Some m.0) (round_at rounds p) first part = head ∙ ap (λ (o : Option Node). child_round nodes p outer o (round_at rounds p) first part) m.1 in
      let body : (body_in outer.kind m.0.kind p (round_at rounds p) part) ≡ ((round_at rounds p).first, p) = ap (λ (k : NodeKind). body_in k m.0.kind p (round_at rounds p) part) is in
      subst (IsBody p) (eqb-true c n begins)
      (ap (λ (r : Round). r.body_first) its ∙ ap (λ (b : ℕ × ℕ). b.0) body, ap (λ (r : Round). r.body_last) its ∙ ap (λ (b : ℕ × ℕ). b.1) body)

  body_of : (p n : ℕ) (outer : Node) → slice_get nodes p ≡ Some outer → outer.kind ≡ kind.TypeSet → is_first n outer.children ≡ true → IsBody p n
  body_of p n outer at is begins =
      let inside : p < length nodes = slice_get_within nodes p outer at in
      first_of p n outer is (first_part nodes outer (round_at rounds p).first) (round_at rounds p).first outer.children
      (further p (length nodes) outer.children (omega (arith, inside)) (children_before nodes parsed.tree p outer at)) (are.children_are p outer at) begins

  abbrev IsInside : Declared → Type 0
  IsInside d = kind_at nodes d.node ≡ kind.TypeSet → (d.from ≡ (round_at rounds d.node).first) × (d.to ≡ d.node)

  each_inside : AreEach nodes rounds IsInside
  each_inside = record {
    variables = λ n p outer k above at is o begins name set. body_of p n outer at (sym (ap kind_of at) ∙ set) begins;
    owns = λ n node at scope e name set.
        absurd (none-some scope (sym (ap (λ (k : NodeKind). scope_of k (kind_at_parent nodes (round_at rounds n).parent) n (round_at rounds n)) (sym (ap kind_of at) ∙ set)) ∙ e));
    modules = λ n node at e name set.
        absurd (true≢false (sym e ∙ ap (λ (k : NodeKind). is_module (kind_at_parent nodes (round_at rounds n).parent) k) (sym (ap kind_of at) ∙ set) ∙ no_module (kind_at_parent nodes (round_at rounds n).parent)));
  }

  -- it is declared in a module
  unit_of : (j : ℕ) (d : Declared) → slice_get (declarations nodes rounds) j ≡ Some d → kind_at nodes d.node ≡ kind.TypeSet → (u : ℕ) × (d.unit ≡ Some u)
  unit_of j d at set = by d.unit refl
    where
      by : (o : Option ℕ) → d.unit ≡ o → (u : ℕ) × (d.unit ≡ Some u)
      by (Some u) e = (u, e)
      by None e = absurd (true≢false (sym (modules_declared t nodes rounds parsed are j d at (ap is_local e)) ∙ ap is_definition set))

  pub set_inside : (j : ℕ) (d : Declared) → slice_get (declarations nodes rounds) j ≡ Some d → kind_at nodes d.node ≡ kind.TypeSet → (name : Identifier) (n : ℕ) → is_open name n d ≡ true → ((round_at rounds d.node).first ≤ n) × (n ≤ d.node)
  set_inside j d at set name n opened =
      let its = of_each nodes rounds IsInside each_inside j d at set in
      let unit = unit_of j d at set in
      let in_scope : (nat_le d.from n && nat_le n d.to) ≡ true = sym (ap (λ (o : Option ℕ). stands_in o d.from d.to n) unit.1) ∙ (and_parts (bytes_eq d.name name) (stands_in d.unit d.from d.to n) opened).1 in
      let both = and_parts (nat_le d.from n) (nat_le n d.to) in_scope in
      (subst (λ (k : ℕ). k ≤ n) its.0 (leb-true d.from n both.0), subst (λ (k : ℕ). n ≤ k) its.1 (leb-true n d.to both.1))
