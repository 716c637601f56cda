-- The routines of a cluster are its children that are routines.
use Rattle.std.proofs.Common.{◌≡◌, ◌∙◌, ℕ, ◌<◌, Bool, true, false, if◌then◌else◌, List, [], ◌∷◌, ◌++◌, map, filter, slice_get, Option, Some, refl, sym, ap}
use Rattle.std.proofs.lemmas.List.{take-append-drop}
use Rattle.clu_tree.specs.declared.node.Node.{Node}
use Rattle.clu_tree.specs.declared.node.NodeKind.{NodeKind}
use Rattle.clu_tree.specs.declared.node.NodeKind.TheVariants as kind
use Rattle.clu_parser.specs.Trees.{Text}
use Rattle.clu_syntax.specs.Items.{Item, routines_at}
use Rattle.clu_syntax.specs.Kinds.{kind_at}
use Rattle.clu_syntax.specs.Nodes.{before, item_at}
use Rattle.clu_syntax.specs.Rounds.{AreRounds}
use Rattle.clu_syntax.specs.Splits.{is_of, leading, run, after_run, after_one}
use Rattle.clu_syntax.specs.Syntax.{Routine}
use Rattle.clu_parts.proofs.Fitting.{AreParts, AreBefore, children_before}
use Rattle.clu_checking.specs.Files.{File, is_kind, item, node_children}
use Rattle.clu_declares.specs.Declares.{IsParsed}
use Rattle.clu_declares.proofs.Below.{same_kind, before_is}
use Rattle.clu_declares.proofs.Facts.{all_drop, run_kinds, There, there, ClusterIs}
use Rattle.clu_declares.proofs.Haves.{cluster_facts}
use Rattle.clu_declares.proofs.Tops.{cluster_rest, cluster_routines}
use Rattle.clu_passes.specs.Notes.{HaveRoutines}

module _ (f : File) where
  abbrev is_routine : ℕ → Bool
  is_routine = is_kind f kind.Routine

  -- ---- what stands before the routines

  past : (k : NodeKind) → is_of kind.Routine k ≡ false → (n : ℕ) (cs rest : List ℕ) → AreParts f.nodes (is_of k) n cs → filter is_routine (cs ++ rest) ≡ filter is_routine rest
  past k other n [] rest ps = refl
  past k other n (c ∷ cs) rest ps =
      let its : kind_at f.nodes c ≡ k = same_kind k (kind_at f.nodes c) ps.0.1 in
      ap (λ (b : Bool). if b then c ∷ filter is_routine (cs ++ rest) else filter is_routine (cs ++ rest)) (ap (is_of kind.Routine) its ∙ other)
      ∙ past k other n cs rest ps.1

  past_run : (k : NodeKind) → is_of kind.Routine k ≡ false → (n : ℕ) (cs : List ℕ) → AreBefore n cs → filter is_routine cs ≡ filter is_routine (after_run f.nodes k cs)
  past_run k other n cs l =
      ap (filter is_routine) (sym (take-append-drop (leading f.nodes k cs) cs))
      ∙ past k other n (run f.nodes k cs) (after_run f.nodes k cs) (run_kinds f.nodes k n cs l)

  past_one : (k : NodeKind) → is_of kind.Routine k ≡ false → (cs : List ℕ) → filter is_routine cs ≡ filter is_routine (after_one f.nodes k cs)
  past_one k other [] = refl
  past_one k other (c ∷ cs) = by (is_of k (kind_at f.nodes c)) refl
    where
      by : (b : Bool) → is_of k (kind_at f.nodes c) ≡ b → filter is_routine (c ∷ cs) ≡ filter is_routine (if b then cs else c ∷ cs)
      by true is = ap (λ (b : Bool). if b then c ∷ filter is_routine cs else filter is_routine cs) (ap (is_of kind.Routine) (same_kind k (kind_at f.nodes c) is) ∙ other)
      by false is = refl

  before_one : (k : NodeKind) (n : ℕ) (cs : List ℕ) → AreBefore n cs → AreBefore n (after_one f.nodes k cs)
  before_one k n [] l = tt
  before_one k n (c ∷ cs) l = by (is_of k (kind_at f.nodes c))
    where
      by : (b : Bool) → AreBefore n (if b then cs else c ∷ cs)
      by true = l.1
      by false = l

  -- ---- the routines

  kept : (n : ℕ) (cs : List ℕ) → AreParts f.nodes (is_of kind.Routine) n cs → filter is_routine cs ≡ cs
  kept n [] ps = refl
  kept n (c ∷ cs) ps = ap (λ (b : Bool). if b then c ∷ filter is_routine cs else filter is_routine cs) ps.0.1 ∙ ap (λ (xs : List ℕ). c ∷ xs) (kept n cs ps.1)

  read : (n : ℕ) (cs : List ℕ) → AreParts f.nodes (is_of kind.Routine) n cs → map (λ c. (item f c).routine) cs ≡ routines_at (before n (item_at f.nodes)) cs
  read n [] ps = refl
  read n (c ∷ cs) ps =
      ap (λ (rs : List Routine). (item f c).routine ∷ rs) (read n cs ps.1)
      ∙ ap (λ (i : Item). i.routine ∷ routines_at (before n (item_at f.nodes)) cs) (sym (before_is f.nodes n c ps.0.0))

  module _ (t : Text) (parsed : IsParsed t f.nodes) (are : AreRounds f.nodes f.rounds) where
    of_node : (n : ℕ) (node : Node) → slice_get f.nodes n ≡ Some node → node.kind ≡ kind.Cluster → map (λ c. (item f c).routine) (filter is_routine node.children) ≡ (item f n).cluster.routines
    of_node n node at is =
        let facts : ClusterIs t f.nodes f.rounds parsed are n node = cluster_facts t f.nodes f.rounds parsed are 0 [] n node at is in
        let l : AreBefore n node.children = children_before f.nodes parsed.tree n node at in
        let l1 : AreBefore n (after_run f.nodes kind.Parm node.children) = all_drop (λ (c : ℕ). c < n) (leading f.nodes kind.Parm node.children) node.children l in
        let l2 : AreBefore n (cluster_rest f.nodes f.rounds n node.children) = before_one kind.Where n (after_run f.nodes kind.Parm node.children) l1 in
        let l3 : AreBefore n (after_run f.nodes kind.Equate (cluster_rest f.nodes f.rounds n node.children)) =
        all_drop (λ (c : ℕ). c < n) (leading f.nodes kind.Equate (cluster_rest f.nodes f.rounds n node.children)) (cluster_rest f.nodes f.rounds n node.children) l2 in
        let found : filter is_routine node.children ≡ cluster_routines f.nodes f.rounds n node.children =
        past_run kind.Parm refl n node.children l
        ∙ past_one kind.Where refl (after_run f.nodes kind.Parm node.children)
        ∙ past_run kind.Equate refl n (cluster_rest f.nodes f.rounds n node.children) l2
        ∙ past_run kind.Own refl n (after_run f.nodes kind.Equate (cluster_rest f.nodes f.rounds n node.children)) l3
        ∙ ap (filter is_routine) facts.parts.others
        ∙ kept n (cluster_routines f.nodes f.rounds n node.children) facts.parts.routines in
        ap (map (λ c. (item f c).routine)) found ∙ read n (cluster_routines f.nodes f.rounds n node.children) facts.parts.routines ∙ sym facts.routines

    pub have_routines : HaveRoutines f
    have_routines n e =
        let its : There f.nodes n kind.Cluster = there f.nodes n kind.Cluster refl e in
        ap (λ (o : Option Node). map (λ c. (item f c).routine) (filter is_routine (node_children f o))) its.at ∙ of_node n its.node its.at its.is
