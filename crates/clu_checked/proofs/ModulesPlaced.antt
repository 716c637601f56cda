-- A routine or cluster that defines a module stands among the nodes of a module just if it is what that one defines.
use Rattle.std.proofs.Common.{◌≡◌, ◌∙◌, ◌⊎◌, ℕ, ◌+◌, ◌<◌, ◌≤◌, ◌==◌, nat_lt, ◌||◌, not, Bool, true, false, List, [], ◌∷◌, ◌++◌, Some, inl, inr, refl, sym, ap, ap₂, subst, arith, eq-eqb, le-ltb, lt-ltb}
use Rattle.std.specs.Prelude.{slice_get}
use Rattle.std.specs.List.{AllByRecursion}
use Rattle.std.proofs.lemmas.Bool.{cases_eq, cases_lt, ne_eqb, or_left, or_right}
use Rattle.std.proofs.lemmas.Option.{same_Some}
use Rattle.clu_tree.specs.declared.node.Node.{Node}
use Rattle.clu_tree.specs.declared.node.NodeKind.{NodeKind}
use Rattle.clu_tree.specs.declared.node.NodeKind.TheVariants as kind
use Rattle.clu_parser.specs.Order.{IsForest, none, tree}
use Rattle.clu_parser.specs.Trees.{Text}
use Rattle.clu_syntax.specs.declared.round.Round.{Round}
use Rattle.clu_syntax.specs.Kinds.{kind_at, kind_of}
use Rattle.clu_syntax.specs.Rounds.{AreRounds, round_at, unit_in}
use Rattle.clu_syntax.specs.Splits.{is_of, run}
use Rattle.clu_syntax.specs.Nodes.{item_at}
use Rattle.clu_names.specs.declared.scopes.Declared.{Declared}
use Rattle.clu_checking.specs.Named.{definition_node, module_node}
use Rattle.clu_declares.specs.Declares.{IsParsed}
use Rattle.clu_declares.proofs.Facts.{ModuleIs, There, module_at, routine_at, there}
use Rattle.clu_declares.proofs.Haves.{cluster_facts, is_last}
use Rattle.clu_declares.proofs.Parents.{IsIn, of_all}
use Rattle.clu_passes.proofs.Subtrees.{is_subtree}
use Rattle.clu_passes.proofs.Units.{is_inner, no_file}
use Rattle.clu_passes.proofs.Within.{StandsIn, children_stand, inner_unit, roots_in}
use Rattle.clu_checked.proofs.ModulesDeclared.{IsDefined, OfModule, its_kind, no_other, of_module}

at_end : (xs : List ℕ) (c : ℕ) → IsIn c (xs ++ c ∷ [])
at_end [] c = inl refl
at_end (x ∷ xs) c = inr (at_end xs c)

no_module : (k : NodeKind) → (k ≡ kind.Routine) ⊎ (k ≡ kind.Cluster) → k ≡ kind.Module → ⊥
no_module k (inl e) is = let never : kind.Routine ≡ kind.Module = sym e ∙ is in cc
no_module k (inr e) is = let never : kind.Cluster ≡ kind.Module = sym e ∙ is in cc

module _ (t : Text) (nodes : List Node) (rounds : List Round) (parsed : IsParsed t nodes) (are : AreRounds nodes rounds) where
  -- what lies in trees that stand in a module stands in it
  unit_below : (u from to : ℕ) (roots : List ℕ) → IsForest nodes from roots to → AllByRecursion (StandsIn t nodes rounds parsed are u) roots → (m : ℕ) → from ≤ m → m < to → (round_at rounds m).unit ≡ Some u
  unit_below u from to _ (none _) stand m low high = absurd (omega (arith, low, high))
  unit_below u from to _ (tree _ root _ its roots at inside behind) stand m low high = elim (cases_lt m root) [
    | inl less ↦
        (let i : is_inner its.kind ≡ true = ap is_inner (sym (ap kind_of at)) ∙ stand.0.1 in
        unit_below u from root its.children inside
        (children_stand t nodes rounds parsed are u root its at (no_file its.kind i) (inner_unit t nodes rounds parsed are its.kind root (round_at rounds root) i ∙ stand.0.0)) m low less)
    | inr upto ↦ elim (cases_lt root m) [
      | inl after ↦ unit_below u (root + 1) to roots behind stand.1 m (omega (arith, after)) high
      | inr back ↦ (let same : root ≡ m = omega (arith, upto, back) in ap (λ (n : ℕ). (round_at rounds n).unit) (sym same) ∙ stand.0.0)
    ]
  ]

  module _ (u : ℕ) (node : Node) (at : slice_get nodes u ≡ Some node) (is : node.kind ≡ kind.Module) where
    abbrev pub facts : ModuleIs t nodes rounds parsed are u node
    facts = module_at t nodes rounds parsed are u node at is

    abbrev first : ℕ
    first = (round_at rounds u).first

    its_unit : (m : ℕ) → first ≤ m → m < u → (round_at rounds m).unit ≡ Some u
    its_unit =
        unit_below u first u node.children (is_subtree nodes rounds parsed.tree are parsed.order u node at)
        (children_stand t nodes rounds parsed are u u node at (ap (is_of kind.File) is) (ap (λ (k : NodeKind). unit_in k u (round_at rounds u)) is))

    last_there : (first ≤ facts.last) × (facts.last < u)
    last_there =
        of_all (λ (c : ℕ). (first ≤ c) × (c < u)) facts.last node.children (roots_in nodes first u node.children (is_subtree nodes rounds parsed.tree are parsed.order u node at))
        (subst (IsIn facts.last) facts.is_last (at_end (run nodes kind.Equate node.children) facts.last))

    -- another one does not stand there
    none_there : (d : Declared) → IsDefined t nodes rounds parsed are d → (d.node ≡ facts.last → ⊥) → first ≤ d.node → d.node ≤ u → ⊥
    none_there d x apart low high = elim (cases_lt d.node u) [
      | inl less ↦
          (let m : OfModule t nodes rounds parsed are d = of_module t nodes rounds parsed are d x in
          let same : m.unit ≡ u = same_Some m.unit u (sym m.stands ∙ its_unit d.node low less) in
          let alike : m.outer ≡ node = same_Some m.outer node (sym m.at ∙ ap (slice_get nodes) same ∙ at) in
          apart
          (sym (is_last t nodes rounds parsed are 0 [] u node at is d.node x.node.kind (ap kind_of x.at)
          (no_other (λ (k : NodeKind). is_of kind.Equate k ≡ false) x.node.kind refl refl (its_kind t nodes rounds parsed are d x)) (subst (λ (n : Node). IsIn d.node n.children) alike m.child))))
      | inr upto ↦
          (let same : d.node ≡ u = omega (arith, high, upto) in
          let alike : x.node ≡ node = same_Some x.node node (sym x.at ∙ ap (slice_get nodes) same ∙ at) in
          no_module x.node.kind (its_kind t nodes rounds parsed are d x) (ap (λ (n : Node). n.kind) alike ∙ is))
    ]

    pub other_placed : (d : Declared) → IsDefined t nodes rounds parsed are d → (nat_lt d.node first || nat_lt u d.node) ≡ not (d.node == facts.last)
    other_placed d x = elim (cases_eq d.node facts.last) [
      | inl same ↦
          (let low : first ≤ facts.last = last_there.0 in
          let high : facts.last < u = last_there.1 in
          ap₂ (λ (a b : Bool). a || b) (le-ltb d.node first (omega (arith, same, low))) (le-ltb u d.node (omega (arith, same, high))) ∙ sym (ap not (eq-eqb d.node facts.last same)))
      | inr apart ↦ outside d x apart ∙ sym (ap not (ne_eqb d.node facts.last apart))
    ]
      where
        outside : (d : Declared) → IsDefined t nodes rounds parsed are d → (d.node ≡ facts.last → ⊥) → (nat_lt d.node first || nat_lt u d.node) ≡ true
        outside d x apart = elim (cases_lt d.node first) [
          | inl less ↦ or_left (nat_lt d.node first) (nat_lt u d.node) (lt-ltb d.node first less)
          | inr low ↦ elim (cases_lt u d.node) [
            | inl behind ↦ or_right (nat_lt d.node first) (nat_lt u d.node) (lt-ltb u d.node behind)
            | inr high ↦ absurd (none_there d x apart low high)
          ]
        ]

    -- ---- by the syntax of the module

    pub first_before : first ≤ u
    first_before = let low : first ≤ facts.last = last_there.0 in let high : facts.last < u = last_there.1 in omega (arith, low, high)

    pub its_node : module_node (item_at nodes u).module_ ≡ u
    its_node = elim facts.defines [ inl r ↦ ap module_node r.1 | inr c ↦ ap module_node c.1 ]

    routine_node : kind_at nodes facts.last ≡ kind.Routine → (item_at nodes facts.last).routine.node ≡ facts.last
    routine_node k = let x : There nodes facts.last kind.Routine = there nodes facts.last kind.Routine refl k in (routine_at t nodes rounds parsed are facts.last x.node x.at x.is).itself

    cluster_node : kind_at nodes facts.last ≡ kind.Cluster → (item_at nodes facts.last).cluster.node ≡ facts.last
    cluster_node k = let x : There nodes facts.last kind.Cluster = there nodes facts.last kind.Cluster refl k in (cluster_facts t nodes rounds parsed are 0 [] facts.last x.node x.at x.is).itself

    pub its_definition : definition_node (item_at nodes u).module_ ≡ facts.last
    its_definition = elim facts.defines [ inl r ↦ ap definition_node r.1 ∙ routine_node r.0 | inr c ↦ ap definition_node c.1 ∙ cluster_node c.0 ]
