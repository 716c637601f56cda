-- In which module a node stands, and which nodes are the parameters of a module.
use Rattle.std.proofs.Common.{◌≡◌, ◌∙◌, ◌⊎◌, ℕ, zero, suc, ◌+◌, ◌-◌, ◌<◌, ◌≤◌, ◌||◌, true, false, List, [], ◌∷◌, length, take, Option, Some, None, slice_get, refl, ap, sym, subst, inl, inr, arith}
use Rattle.std.specs.List.{AllByRecursion}
use Rattle.std.proofs.lemmas.Bool.{true≢false, cases_Bool, cases_lt}
use Rattle.std.proofs.lemmas.Option.{same_Some, slice_get_within}
use Rattle.std.proofs.lemmas.List.{get_or_past}
use Rattle.clu_base.proofs.Bools.{second_true}
use Rattle.clu_tree.specs.declared.node.Node.{Node}
use Rattle.clu_tree.specs.declared.node.NodeKind.{NodeKind}
use Rattle.clu_tree.specs.declared.node.NodeKind.TheVariants as kind
use Rattle.clu_parser.specs.Order.{IsForest, none, tree, IsPostOrder}
use Rattle.clu_parser.specs.Trees.{Text}
use Rattle.clu_syntax.specs.declared.round.Round.{Round}
use Rattle.clu_syntax.specs.Kinds.{kind_of, kind_at}
use Rattle.clu_syntax.specs.Rounds.{AreRounds, outside, round_at, unit_in}
use Rattle.clu_syntax.specs.Splits.{is_of, run, after_run, leading}
use Rattle.clu_syntax.specs.Syntax.{Parameter, Module, a_routine, a_cluster}
use Rattle.clu_syntax.specs.Items.{parameters_at}
use Rattle.clu_syntax.specs.Nodes.{before, item_at}
use Rattle.clu_names.specs.Scopes.{kind_at_parent}
use Rattle.clu_checking.specs.Files.{parameters_in}
use Rattle.clu_parts.proofs.Fitting.{AreParts, children_before}
use Rattle.clu_settle.specs.Parameters.{parent_round, is_of_module, is_parameter}
use Rattle.clu_declares.specs.Declares.{IsParsed}
use Rattle.clu_declares.proofs.Around.{IsAround}
use Rattle.clu_declares.proofs.Below.{same_kind}
use Rattle.clu_declares.proofs.Tops.{AreOthers}
use Rattle.clu_declares.proofs.Facts.{There, there, run_kinds, around_at, routine_at, ModuleIs, module_at, top_alone}
use Rattle.clu_declares.proofs.Parents.{IsIn, of_all, in_split, HasParent, has_parent, child_before, round_parm}
use Rattle.clu_declares.proofs.Haves.{form_at, parent_of, is_last, cluster_facts}
use Rattle.clu_declares.proofs.Amounts.{parm_in_module}

-- ---- ascending numbers

-- each is above the one before it, and none is below a
abbrev pub Ascends : ℕ → List ℕ → Type 0
Ascends a [] = Unit {0}
Ascends a (c ∷ cs) = (a ≤ c) × Ascends (c + 1) cs

ascends_take : (a m : ℕ) (cs : List ℕ) → Ascends a cs → Ascends a (take m cs)
ascends_take a zero cs s = tt
ascends_take a (suc m) [] s = tt
ascends_take a (suc m) (c ∷ cs) s = (s.0, ascends_take (c + 1) m cs s.1)

forest_up : (nodes : List Node) (from to : ℕ) (roots : List ℕ) → IsForest nodes from roots to → from ≤ to
forest_up nodes from to _ (none _) = omega arith
forest_up nodes from to _ (tree _ root _ n roots at inside behind) = omega (arith, forest_up nodes from root n.children inside, forest_up nodes (root + 1) to roots behind)

further : (a b : ℕ) (cs : List ℕ) → a ≤ b → Ascends b cs → Ascends a cs
further a b [] l s = tt
further a b (c ∷ cs) l s = let m : b ≤ c = s.0 in (omega (arith, l, m), s.1)

forest_ascends : (nodes : List Node) (from to : ℕ) (roots : List ℕ) → IsForest nodes from roots to → Ascends from roots
forest_ascends nodes from to _ (none _) = tt
forest_ascends nodes from to _ (tree _ root _ n roots at inside behind) = (forest_up nodes from root n.children inside, forest_ascends nodes (root + 1) to roots behind)

children_ascend_in : (nodes : List Node) (from to : ℕ) (roots : List ℕ) → IsForest nodes from roots to → (d : ℕ) (node : Node) → slice_get nodes d ≡ Some node → from ≤ d → d < to → Ascends 0 node.children
children_ascend_in nodes from to _ (none _) d node at l m = absurd (omega (arith, l, m))
children_ascend_in nodes from to _ (tree _ root _ n roots at' inside behind) d node at l m = elim (cases_lt d root) [
  | inl less ↦ children_ascend_in nodes from root n.children inside d node at l less
  | inr more ↦ elim (cases_lt root d) [
    | inl after ↦ children_ascend_in nodes (root + 1) to roots behind d node at (omega (arith, after)) m
    | inr upto ↦
        (let same : root ≡ d = omega (arith, more, upto) in
        let its : n ≡ node = same_Some n node (sym at' ∙ ap (slice_get nodes) same ∙ at) in
        subst (λ (n : Node). Ascends 0 n.children) its (further 0 from n.children (omega arith) (forest_ascends nodes from root n.children inside)))
  ]
]

pub children_ascend : (nodes : List Node) → IsPostOrder nodes → (d : ℕ) (node : Node) → slice_get nodes d ≡ Some node → Ascends 0 node.children
children_ascend nodes order d node at =
    children_ascend_in nodes 0 (length nodes) ((length nodes - 1) ∷ []) order d node at (omega arith) (slice_get_within nodes d node at)

pub above : (a x : ℕ) (cs : List ℕ) → Ascends a cs → IsIn x cs → a ≤ x
above a x [] s i = absurd i
above a x (c ∷ cs) s (inl e) = let l : a ≤ c = s.0 in omega (arith, l, e)
above a x (c ∷ cs) s (inr i) = let l : a ≤ c = s.0 in omega (arith, l, above (c + 1) x cs s.1 i)

-- ---- units

unit_of : (k : NodeKind) → (k ≡ kind.Module) ⊎ ((n : ℕ) (r : Round) → unit_in k n r ≡ r.unit)
unit_of kind.Module = inl refl
unit_of _ = inr (λ n r. refl)

among : (nodes : List Node) (k : NodeKind) (c : ℕ) (cs : List ℕ) → is_of k (kind_at nodes c) ≡ true → AllByRecursion (λ (c : ℕ). is_of k (kind_at nodes c) ≡ false) (after_run nodes k cs) → IsIn c cs → IsIn c (run nodes k cs)
among nodes k c cs e others i = elim (in_split c (leading nodes k cs) cs i) [
  | inl front ↦ front
  | inr behind ↦ absurd (true≢false (sym e ∙ of_all (λ (c : ℕ). is_of k (kind_at nodes c) ≡ false) c (after_run nodes k cs) others behind))
]

module _ (t : Text) (nodes : List Node) (rounds : List Round) (parsed : IsParsed t nodes) (are : AreRounds nodes rounds) where
  pub around_parent : (c : ℕ) (q : HasParent nodes c) → IsAround rounds q.parent q.node c
  around_parent c q = of_all (IsAround rounds q.parent q.node) c q.node.children (around_at t nodes rounds parsed are q.parent q.node q.at) q.child

  outside_none : (n : ℕ) → length nodes ≤ n → (round_at rounds n).unit ≡ None
  outside_none n l = ap (λ (r : Round). r.unit) (get_or_past rounds n outside (omega (arith, l, are.size)))

  abbrev pub IsUnit : ℕ → Type 0
  IsUnit u = (node : Node) × (slice_get nodes u ≡ Some node) × (node.kind ≡ kind.Module)

  none_some : (u : ℕ) (o : Option ℕ) → o ≡ None → o ≡ Some u → ⊥
  none_some u o e f = absurd (let bad : None ≡ Some u = sym e ∙ f in cc)

  unit_in_parent : (n u : ℕ) (q : HasParent nodes n) → ((round_at rounds q.parent).unit ≡ Some u → IsUnit u) → (round_at rounds n).unit ≡ Some u → IsUnit u
  unit_in_parent n u q more e = elim (unit_of q.node.kind) [
    | inl is ↦
        (let same : Some q.parent ≡ Some u = sym ((around_parent n q).unit ∙ ap (λ (k : NodeKind). unit_in k q.parent (round_at rounds q.parent)) is) ∙ e in
        let its : q.parent ≡ u = same_Some q.parent u same in
        (q.node, sym (ap (slice_get nodes) its) ∙ q.at, is))
    | inr through ↦ more (sym ((around_parent n q).unit ∙ through q.parent (round_at rounds q.parent)) ∙ e)
  ]

  unit_from : (steps n u : ℕ) → length nodes ≤ n + steps → (round_at rounds n).unit ≡ Some u → IsUnit u
  unit_from zero n u l e = absurd (none_some u (round_at rounds n).unit (outside_none n (omega (arith, l))) e)
  unit_from (suc steps) n u l e = elim (cases_lt n (length nodes - 1)) [
    | inl less ↦
        (let q : HasParent nodes n = has_parent nodes parsed.order n less in
        let up : n < q.parent = child_before nodes parsed.tree q.parent q.node q.at (form_at t nodes rounds parsed are 0 [] q.parent q.node q.at) n q.child in
        unit_in_parent n u q (λ e. unit_from steps q.parent u (omega (arith, l, up)) e) e)
    | inr more ↦ elim (cases_lt n (length nodes)) [
      | inl last ↦
          (let same : n ≡ length nodes - 1 = omega (arith, more, last) in
          absurd (none_some u (round_at rounds n).unit (ap (λ (n : ℕ). (round_at rounds n).unit) same ∙ ap (λ (r : Round). r.unit) (are.roots_are (length nodes - 1) (top_alone t nodes rounds parsed are))) e))
      | inr past ↦ absurd (none_some u (round_at rounds n).unit (outside_none n past) e)
    ]
  ]

  -- a unit is a module
  pub unit_is : (n u : ℕ) → (round_at rounds n).unit ≡ Some u → IsUnit u
  unit_is n u e = unit_from (length nodes) n u (omega arith) e

  -- ---- the parameters of a module

  pub record OfModule (n : ℕ) : Type 0 where
    pub parent : HasParent nodes n
    pub outer : HasParent nodes parent.parent
    pub is_module : outer.node.kind ≡ kind.Module
    pub definition : (parent.node.kind ≡ kind.Routine) ⊎ (parent.node.kind ≡ kind.Cluster)
    pub unit : (round_at rounds n).unit ≡ Some outer.parent

  not_file : (k : NodeKind) → (k ≡ kind.Routine) ⊎ (k ≡ kind.Cluster) → is_of k kind.File ≡ false
  not_file k (inl e) = ap (λ (k : NodeKind). is_of k kind.File) e
  not_file k (inr e) = ap (λ (k : NodeKind). is_of k kind.File) e

  through : (k : NodeKind) (n : ℕ) (r : Round) → (k ≡ kind.Routine) ⊎ (k ≡ kind.Cluster) → unit_in k n r ≡ r.unit
  through k n r (inl e) = ap (λ (k : NodeKind). unit_in k n r) e
  through k n r (inr e) = ap (λ (k : NodeKind). unit_in k n r) e

  pub of_module : (n : ℕ) → is_parameter nodes rounds n ≡ true → OfModule n
  of_module n e = by (parent_of t nodes rounds parsed are 0 [] n kind.Parm its.0 refl)
    where
      its : (kind_at nodes n ≡ kind.Parm) × (kind_at_parent nodes (parent_round rounds (round_at rounds n).parent) ≡ kind.Module)
      its = parm_in_module (kind_at nodes n) (kind_at_parent nodes (parent_round rounds (round_at rounds n).parent)) e

      defines : (q : HasParent nodes n) → (q.node.kind ≡ kind.Routine) ⊎ (q.node.kind ≡ kind.Cluster)
      defines q =
          let either : (is_of kind.Routine q.node.kind || is_of kind.Cluster q.node.kind) ≡ true = round_parm nodes parsed.tree q.parent q.node q.at (form_at t nodes rounds parsed are 0 [] q.parent q.node q.at) n q.child its.0 in
          elim (cases_Bool (is_of kind.Routine q.node.kind)) [
            | inl r ↦ inl (same_kind kind.Routine q.node.kind r)
            | inr other ↦ inr (same_kind kind.Cluster q.node.kind (second_true (is_of kind.Routine q.node.kind) (is_of kind.Cluster q.node.kind) either other))
          ]

      made : (q : HasParent nodes n) (r : HasParent nodes q.parent) → (q.node.kind ≡ kind.Routine) ⊎ (q.node.kind ≡ kind.Cluster) → OfModule n
      made q r d =
          let a : IsAround rounds q.parent q.node n = around_parent n q in
          let b : IsAround rounds r.parent r.node q.parent = around_parent q.parent r in
          let is : r.node.kind ≡ kind.Module = sym (ap (λ (o : Option ℕ). kind_at_parent nodes (parent_round rounds o)) a.parent ∙ ap (kind_at_parent nodes) b.parent ∙ ap kind_of r.at) ∙ its.1 in
          record {
            parent = q;
            outer = r;
            is_module = is;
            definition = d;
            unit = a.unit ∙ through q.node.kind q.parent (round_at rounds q.parent) d ∙ b.unit ∙ ap (λ (k : NodeKind). unit_in k r.parent (round_at rounds r.parent)) is;
          }

      by : HasParent nodes n → OfModule n
      by q = made q (parent_of t nodes rounds parsed are 0 [] q.parent q.node.kind (ap kind_of q.at) (not_file q.node.kind (defines q))) (defines q)

  -- the parameters of the module u are these nodes, which stand in its definition d
  pub record HasParameters (u : ℕ) : Type 0 where
    pub d : ℕ
    pub cs : List ℕ
    pub parameters : parameters_in (item_at nodes u).module_ ≡ parameters_at (before d (item_at nodes)) cs
    pub parts : AreParts nodes (is_of kind.Parm) d cs
    pub ascend : Ascends 0 cs
    pub only : (n : ℕ) → is_parameter nodes rounds n ≡ true → (round_at rounds n).unit ≡ Some u → IsIn n cs
    pub each : AllByRecursion (λ (c : ℕ). (is_parameter nodes rounds c ≡ true) × ((round_at rounds c).unit ≡ Some u)) cs

  module _ (u : ℕ) (node : Node) (at : slice_get nodes u ≡ Some node) (is : node.kind ≡ kind.Module) where
    abbrev facts : ModuleIs t nodes rounds parsed are u node
    facts = module_at t nodes rounds parsed are u node at is

    -- of its definition
    module _ (k : NodeKind) (defines : (k ≡ kind.Routine) ⊎ (k ≡ kind.Cluster)) (th : There nodes facts.last k) where
      only_these : AreOthers nodes rounds facts.last kind.Parm (after_run nodes kind.Parm th.node.children) → (n : ℕ) → is_parameter nodes rounds n ≡ true → (round_at rounds n).unit ≡ Some u → IsIn n (run nodes kind.Parm th.node.children)
      only_these others n e unit =
          let m : OfModule n = of_module n e in
          let its : kind_at nodes n ≡ kind.Parm = (parm_in_module (kind_at nodes n) (kind_at_parent nodes (parent_round rounds (round_at rounds n).parent)) e).0 in
          let same_module : m.outer.parent ≡ u = same_Some m.outer.parent u (sym m.unit ∙ unit) in
          let same_node : m.outer.node ≡ node = same_Some m.outer.node node (sym m.outer.at ∙ ap (slice_get nodes) same_module ∙ at) in
          let inside : IsIn m.parent.parent node.children = subst (λ (n : Node). IsIn m.parent.parent n.children) same_node m.outer.child in
          let last : facts.last ≡ m.parent.parent = is_last t nodes rounds parsed are 0 [] u node at is m.parent.parent m.parent.node.kind (ap kind_of m.parent.at) (not_equate m.parent.node.kind m.definition) inside in
          let same : m.parent.node ≡ th.node = same_Some m.parent.node th.node (sym m.parent.at ∙ sym (ap (slice_get nodes) last) ∙ th.at) in
          among nodes kind.Parm n th.node.children (ap (is_of kind.Parm) its) others (subst (λ (n' : Node). IsIn n n'.children) same m.parent.child)
        where
          not_equate : (k : NodeKind) → (k ≡ kind.Routine) ⊎ (k ≡ kind.Cluster) → is_of kind.Equate k ≡ false
          not_equate k (inl e) = ap (is_of kind.Equate) e
          not_equate k (inr e) = ap (is_of kind.Equate) e

      are_these : (cs : List ℕ) → AreParts nodes (is_of kind.Parm) facts.last cs → AllByRecursion (IsAround rounds facts.last th.node) cs → AllByRecursion (λ (c : ℕ). (is_parameter nodes rounds c ≡ true) × ((round_at rounds c).unit ≡ Some u)) cs
      are_these [] ps rs = tt
      are_these (c ∷ cs) ps rs =
          let its : kind_at nodes c ≡ kind.Parm = same_kind kind.Parm (kind_at nodes c) ps.0.1 in
          let outer : kind_at_parent nodes (parent_round rounds (round_at rounds c).parent) ≡ kind.Module = ap (λ (o : Option ℕ). kind_at_parent nodes (parent_round rounds o)) rs.0.parent ∙ ap (kind_at_parent nodes) facts.round.parent ∙ ap kind_of at ∙ is in (
            (
              ap (λ (k : NodeKind). is_of_module k (kind_at_parent nodes (parent_round rounds (round_at rounds c).parent))) its ∙ ap (is_of_module kind.Parm) outer,
              rs.0.unit ∙ through th.node.kind facts.last (round_at rounds facts.last) (subst (λ (k : NodeKind). (k ≡ kind.Routine) ⊎ (k ≡ kind.Cluster)) (sym th.is) defines)
                  ∙ facts.round.unit ∙ ap (λ (k : NodeKind). unit_in k u (round_at rounds u)) is,
            ),
            are_these cs ps.1 rs.1,
          )

      all_take : (P : ℕ → Type 0) (m : ℕ) (cs : List ℕ) → AllByRecursion P cs → AllByRecursion P (take m cs)
      all_take P zero cs ps = tt
      all_take P (suc m) [] ps = tt
      all_take P (suc m) (c ∷ cs) ps = (ps.0, all_take P m cs ps.1)

      with_these : (ps : List Parameter) → parameters_in (item_at nodes u).module_ ≡ ps → ps ≡ parameters_at (before facts.last (item_at nodes)) (run nodes kind.Parm th.node.children) → AreOthers nodes rounds facts.last kind.Parm (after_run nodes kind.Parm th.node.children) → HasParameters u
      with_these ps its e others =
          let parts : AreParts nodes (is_of kind.Parm) facts.last (run nodes kind.Parm th.node.children) = run_kinds nodes kind.Parm facts.last th.node.children (children_before nodes parsed.tree facts.last th.node th.at) in
          record {
            d = facts.last;
            cs = run nodes kind.Parm th.node.children;
            parameters = its ∙ e;
            parts = parts;
            ascend = ascends_take 0 (leading nodes kind.Parm th.node.children) th.node.children (children_ascend nodes parsed.order facts.last th.node th.at);
            only = only_these others;
            each = are_these (run nodes kind.Parm th.node.children) parts (all_take (IsAround rounds facts.last th.node) (leading nodes kind.Parm th.node.children) th.node.children (around_at t nodes rounds parsed are facts.last th.node th.at));
          }

    by_routine : kind_at nodes facts.last ≡ kind.Routine → (item_at nodes u).module_ ≡ a_routine u facts.equates (item_at nodes facts.last).routine → HasParameters u
    by_routine k e =
        let th : There nodes facts.last kind.Routine = there nodes facts.last kind.Routine refl k in
        let r = routine_at t nodes rounds parsed are facts.last th.node th.at th.is in
        with_these kind.Routine (inl refl) th (item_at nodes facts.last).routine.parameters (ap parameters_in e) r.parameters r.others

    by_cluster : kind_at nodes facts.last ≡ kind.Cluster → (item_at nodes u).module_ ≡ a_cluster u facts.equates (item_at nodes facts.last).cluster → HasParameters u
    by_cluster k e =
        let th : There nodes facts.last kind.Cluster = there nodes facts.last kind.Cluster refl k in
        let r = cluster_facts t nodes rounds parsed are 0 [] facts.last th.node th.at th.is in
        with_these kind.Cluster (inr refl) th (item_at nodes facts.last).cluster.parameters (ap parameters_in e) r.parameters r.others

    pub has_parameters : HasParameters u
    has_parameters = elim facts.defines [ inl d ↦ by_routine d.0 d.1 | inr d ↦ by_cluster d.0 d.1 ]
