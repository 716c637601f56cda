-- All that stands in a routine sees the same `rep`, which stands before the routine.
use Rattle.std.proofs.Common.{◌≡◌, ◌∙◌, ◌⊎◌, ℕ, zero, suc, ◌+◌, ◌-◌, ◌<◌, ◌≤◌, ◌||◌, if◌then◌else◌, leb-true, nat_le, Bool, true, false, List, [], ◌∷◌, bytes_eq, codes, map, Option, Some, None, inl, inr, refl, sym, ap, subst, arith}
use Rattle.std.specs.Prelude.{slice_get}
use Rattle.std.proofs.lemmas.Bool.{true≢false, and_parts, cases_lt, or_parts}
use Rattle.std.proofs.lemmas.Option.{none-some, same_Some}
use Rattle.clu_tree.specs.declared.node.Node.{Node}
use Rattle.clu_tree.specs.declared.node.NodeKind.{NodeKind}
use Rattle.clu_tree.specs.declared.node.NodeKind.TheVariants as kind
use Rattle.clu_parser.specs.Order.{IsForest, none, tree}
use Rattle.clu_parser.specs.Trees.{Text}
use Rattle.clu_syntax.specs.declared.round.Round.{Round}
use Rattle.clu_syntax.specs.Kinds.{kind_at, kind_of}
use Rattle.clu_syntax.specs.Slots.{Slot, one, any, after, fit, slots}
use Rattle.clu_syntax.specs.Splits.{is_of}
use Rattle.clu_syntax.proofs.Slots.{children_fit}
use Rattle.clu_names.specs.declared.scopes.Declared.{Declared}
use Rattle.clu_names.specs.Denotes.{found, is_open, stands_in}
use Rattle.clu_names.specs.Latest.{IsBest, IsBestAt, is_local}
use Rattle.clu_names.specs.Scopes.{declarations}
use Rattle.clu_names.proofs.Best.{found_is}
use Rattle.clu_meaning.specs.Scoping.{declaration_at}
use Rattle.clu_checking.specs.Files.{File, declaring_node, equate_named, equate_of, kind_in, parent, round}
use Rattle.clu_declares.specs.Declares.{IsParsed}
use Rattle.clu_declares.proofs.Facts.{There, there}
use Rattle.clu_declares.proofs.Parents.{HasParent, IsIn, child_before, file_of_module, module_of_cluster, never_file, of_all, round_routine}
use Rattle.clu_name_rules.specs.Closed.{is_definition}
use Rattle.clu_passes.specs.Losing.{is_plain}
use Rattle.clu_passes.specs.Notes.{HaveParents}
use Rattle.clu_passes.specs.OthersKnown.{AreRepsThere}
use Rattle.clu_passes.specs.Reps.{AreReps, IsAtHome, IsRep}
use Rattle.clu_passes.specs.Trees.{IsFileOfTree}
use Rattle.clu_passes.proofs.CvtPlaces.{HasParentIn, parent_in}
use Rattle.clu_passes.proofs.OthersRoutines.{IsInRoutine, in_routine}
use Rattle.clu_passes.proofs.RefusedBelow.{begins_in}
use Rattle.clu_passes.proofs.RepsAtHome.{IsOfCluster, both_home, of_cluster, routines_home}
use Rattle.clu_passes.proofs.Subtrees.{AreFirst, firsts_of, is_subtree}
use Rattle.clu_passes.proofs.Units.{modules_declared}
use Rattle.clu_passes.proofs.Within.{all_first, forest_goes_on, roots_in}

-- ---- the order of what stands in a cluster

abbrev last_slots : List Slot
last_slots = any (is_of kind.Routine) ∷ []

-- behind a routine stand routines alone
abbrev EndsSo : List Slot → Type 0
EndsSo [] = ⊥
EndsSo (one p ∷ ss) = ⊥
EndsSo (any p ∷ ss) = (after (any p ∷ ss) kind.Routine ≡ Some last_slots) × (EndsSo ss ⊎ (ss ≡ []))

cluster_ends : EndsSo (slots kind.Cluster)
unfolding after
cluster_ends = (refl, inl (refl, inl (refl, inl (refl, inl (refl, inr refl)))))

after_ends : (ss : List Slot) → EndsSo ss → (k : NodeKind) (more : List Slot) → after ss k ≡ Some more → EndsSo more
unfolding after
after_ends [] ends k more e = absurd ends
after_ends (one p ∷ ss) ends k more e = absurd ends
after_ends (any p ∷ ss) ends k more e = by (p k) e (λ so. after_ends ss so k more)
  where
    none_after : ss ≡ [] → after ss k ≡ None
    none_after is = ap (λ (xs : List Slot). after xs k) is

    by : (b : Bool) → (if◌then◌else◌ {A = Option (List Slot)} b (Some (any p ∷ ss)) (after ss k)) ≡ Some more → (EndsSo ss → after ss k ≡ Some more → EndsSo more) → EndsSo more
    by true e goes = subst EndsSo (same_Some (any p ∷ ss) more e) ends
    by false e goes = elim ends.1 [
      | inl so ↦ goes so e
      | inr is ↦ absurd (none-some more (sym (none_after is) ∙ e))
    ]

fit_next : (ss : List Slot) (k : NodeKind) (ks : List NodeKind) → fit ss (k ∷ ks) ≡ true → (more : List Slot) × ((after ss k ≡ Some more) × (fit more ks ≡ true))
unfolding fit
fit_next ss k ks e = by (after ss k) refl e
  where
    by : (o : Option (List Slot)) → after ss k ≡ o → elim o [ None ↦ false | Some more ↦ fit more ks ] ≡ true → (more : List Slot) × ((after ss k ≡ Some more) × (fit more ks ≡ true))
    by None is h = absurd (true≢false (sym h))
    by (Some more) is h = (more, (is, h))

all_routines : (nodes : List Node) (cs : List ℕ) → fit last_slots (map (kind_at nodes) cs) ≡ true → (c : ℕ) → IsIn c cs → is_of kind.Routine (kind_at nodes c) ≡ true
unfolding after
all_routines nodes [] e c i = absurd i
all_routines nodes (d ∷ cs) e c i = by (is_of kind.Routine (kind_at nodes d)) refl (fit_next last_slots (kind_at nodes d) (map (kind_at nodes) cs) e) i (all_routines nodes cs)
  where
    by : (b : Bool) → is_of kind.Routine (kind_at nodes d) ≡ b → ((more : List Slot) × ((after last_slots (kind_at nodes d) ≡ Some more) × (fit more (map (kind_at nodes) cs) ≡ true))) → IsIn c (d ∷ cs) →
        (fit last_slots (map (kind_at nodes) cs) ≡ true → (c : ℕ) → IsIn c cs → is_of kind.Routine (kind_at nodes c) ≡ true) → is_of kind.Routine (kind_at nodes c) ≡ true
    by true is rest (inl same) goes = subst (λ (x : ℕ). is_of kind.Routine (kind_at nodes x) ≡ true) same is
    by true is rest (inr more) goes =
        let here : Some last_slots ≡ Some rest.0 = sym (ap (λ (b : Bool). if◌then◌else◌ {A = Option (List Slot)} b (Some last_slots) None) is) ∙ rest.1.0 in
        goes (subst (λ (ss : List Slot). fit ss (map (kind_at nodes) cs) ≡ true) (sym (same_Some last_slots rest.0 here)) rest.1.1) c more
    by false is rest i goes = absurd (none-some rest.0 (sym (ap (λ (b : Bool). if◌then◌else◌ {A = Option (List Slot)} b (Some last_slots) None) is) ∙ rest.1.0))

-- ---- kinds

abbrev is_outer : NodeKind → Bool
is_outer k = is_of kind.File k || is_of kind.Module k || is_of kind.Cluster k

module _ (t : Text) (f : File) (parsed : IsParsed t f.nodes) (of : IsFileOfTree f) (parents : HaveParents f) (all : f.scope.declarations ≡ declarations f.nodes f.rounds) (named : AreReps f) where
  abbrev nodes : List Node
  nodes = f.nodes

  abbrev rounds : List Round
  rounds = f.rounds

  abbrev ds : List Declared
  ds = f.scope.declarations

  -- ---- the equates before the routines

  order_by : (e r : ℕ) → kind_in f e ≡ kind.Equate → kind_in f r ≡ kind.Routine → (ss : List Slot) → EndsSo ss → (from to : ℕ) (roots : List ℕ) → IsForest nodes from roots to → AreFirst rounds from roots → fit ss (map (kind_at nodes) roots) ≡ true → IsIn e roots → IsIn r roots → e < (round f r).first
  order_by e r equate routine ss ends from to _ (none _) firsts fits i j = absurd i
  order_by e r equate routine ss ends from to _ (tree _ root _ its roots at inside behind) firsts fits i j =
      let next = fit_next ss (kind_at nodes root) (map (kind_at nodes) roots) fits in
      by i j (order_by e r equate routine next.0 (after_ends ss ends (kind_at nodes root) next.0 next.1.0) (root + 1) to roots behind firsts.1 next.1.1) next
    where
      apart : e ≡ r → ⊥
      apart same = true≢false (sym (ap (is_of kind.Routine) (ap (kind_in f) same ∙ routine)) ∙ ap (is_of kind.Routine) equate)

      by : IsIn e (root ∷ roots) → IsIn r (root ∷ roots) → (IsIn e roots → IsIn r roots → e < (round f r).first) → ((more : List Slot) × ((after ss (kind_at nodes root) ≡ Some more) × (fit more (map (kind_at nodes) roots) ≡ true))) → e < (round f r).first
      by (inl here) (inl there) goes next = absurd (apart (sym here ∙ there))
      by (inl here) (inr later) goes next =
          let first : root + 1 ≤ (round f r).first = of_all (λ (c : ℕ). root + 1 ≤ (round f c).first) r roots (all_first rounds (root + 1) to (root + 1) roots (omega arith) firsts.1 (roots_in nodes (root + 1) to roots behind)) later in
          omega (arith, here, first)
      by (inr later) (inl there) goes next =
          let is : kind_at nodes root ≡ kind.Routine = ap (kind_in f) there ∙ routine in
          let last : next.0 ≡ last_slots = same_Some next.0 last_slots (sym next.1.0 ∙ ap (after ss) is ∙ ends_routine ss ends) in
          absurd (true≢false (sym (all_routines nodes roots (subst (λ (xs : List Slot). fit xs (map (kind_at nodes) roots) ≡ true) last next.1.1) e later) ∙ ap (is_of kind.Routine) equate))
        where
          ends_routine : (ss : List Slot) → EndsSo ss → after ss kind.Routine ≡ Some last_slots
          ends_routine [] ends = absurd ends
          ends_routine (one p ∷ ss) ends = absurd ends
          ends_routine (any p ∷ ss) ends = ends.0
      by (inr later) (inr after_it) goes next = goes later after_it

  -- ---- of what is found at a node

  pub record IsRepOf (a : ℕ) (d : Declared) : Type 0 where
    pub its : IsRep f d.node
    pub scope : IsOfCluster f of parents all named d
    pub low : d.from ≤ a
    pub high : a ≤ d.to

  rep_of : (a j : ℕ) (d : Declared) → slice_get ds j ≡ Some d → is_open (codes "rep") a d ≡ true → IsRepOf a d
  rep_of a j d there opened =
      let named_so = and_parts (bytes_eq d.name (codes "rep")) (stands_in d.unit d.from d.to a) opened in
      let rep : IsRep f d.node = named j d there named_so.0 in
      let unit = unit_of rep.equate d.unit refl in
      let both = and_parts (nat_le d.from a) (nat_le a d.to) (sym (ap (λ (o : Option ℕ). stands_in o d.from d.to a) unit.1) ∙ named_so.1) in
      record { its = rep; scope = of_cluster f of parents all named j d there named_so.0; low = leb-true d.from a both.0; high = leb-true a d.to both.1 }
    where
      unit_of : kind_in f d.node ≡ kind.Equate → (o : Option ℕ) → d.unit ≡ o → (u : ℕ) × (d.unit ≡ Some u)
      unit_of equate (Some u) e = (u, e)
      unit_of equate None e = absurd (true≢false (sym (modules_declared t nodes rounds parsed of.surrounded j d (ap (λ (xs : List Declared). slice_get xs j) (sym all) ∙ there) (ap is_local e)) ∙ ap is_definition equate))

  -- ---- round a routine

  module _ (r : ℕ) (node : Node) (at : slice_get nodes r ≡ Some node) (is : node.kind ≡ kind.Routine) where
    routine_is : kind_in f r ≡ kind.Routine
    routine_is = ap kind_of at ∙ is

    record IsRound (c : ℕ) : Type 0 where
      low : (round f c).first ≤ (round f r).first
      high : r < c

    -- a cluster that has a node of the routine has the routine
    cluster_round : (a c : ℕ) → kind_in f c ≡ kind.Cluster → (round f r).first ≤ a → a ≤ r → (round f c).first ≤ a → a ≤ c → IsRound c
    cluster_round a c cluster low less from to = elim (cases_lt r c) [
      | inl under ↦
          (let x : There nodes c kind.Cluster = there nodes c kind.Cluster refl cluster in
          record { low = begins_in f of (round f c).first c x.node.children (is_subtree nodes rounds of.tree of.surrounded of.ordered c x.node x.at) (firsts_of nodes rounds of.tree of.surrounded c x.node x.at) r (omega (arith, from, less)) under; high = under })
      | inr over ↦ elim (cases_lt c r) [
        | inl inner ↦
            (let y : IsInRoutine f of parents r c = in_routine f of parents r node at is c (omega (arith, low, to)) inner in
            absurd (true≢false (sym y.plain ∙ ap is_plain cluster)))
        | inr outer ↦
            (let same : c ≡ r = omega (arith, over, outer) in
            absurd (true≢false (sym (ap (is_of kind.Cluster) cluster) ∙ ap (is_of kind.Cluster) (ap (kind_in f) same ∙ routine_is))))
      ]
    ]

    -- ---- what stands in a cluster

    inner_by : (c : ℕ) (cnode : Node) → slice_get nodes c ≡ Some cnode → cnode.kind ≡ kind.Cluster → (d m : ℕ) → (round f c).first ≤ m → m < c → c ≤ m + d → is_outer (kind_in f m) ≡ false
    inner_by c cnode cat cluster zero m low under near = absurd (omega (arith, under, near))
    inner_by c cnode cat cluster (suc d) m low under near = by (parent_in f of c cnode cat m low under) (inner_by c cnode cat cluster d)
      where
        by : HasParentIn f of (round f c).first c m → ((p : ℕ) → (round f c).first ≤ p → p < c → c ≤ p + d → is_outer (kind_in f p) ≡ false) → is_outer (kind_in f m) ≡ false
        by x goes =
            let q : HasParent nodes m = x.parent_is in
            let below : m < q.parent = child_before nodes of.tree q.parent q.node q.at (of.shaped q.parent q.node q.at) m q.child in
            let above : (round f c).first ≤ q.parent = x.above in
            let most : q.parent ≤ c = x.below_it in
            child_inner q (elim (cases_lt q.parent c) [
              | inl inner ↦ outer_no_module q.node.kind (ap is_outer (sym (ap kind_of q.at)) ∙ goes q.parent above inner (omega (arith, near, below)))
              | inr outer ↦
                  (let same : q.parent ≡ c = omega (arith, outer, most) in
                  cluster_no_module q.node.kind (sym (ap kind_of q.at) ∙ ap (kind_in f) same ∙ ap kind_of cat ∙ cluster))
            ])
          where
            outer_no_module : (k : NodeKind) → is_outer k ≡ false → (is_of kind.File k || is_of kind.Module k) ≡ false
            outer_no_module kind.File e = absurd (true≢false e)
            outer_no_module kind.Module e = absurd (true≢false e)
            outer_no_module _ e = refl

            cluster_no_module : (k : NodeKind) → k ≡ kind.Cluster → (is_of kind.File k || is_of kind.Module k) ≡ false
            cluster_no_module k is = ap (λ (j : NodeKind). is_of kind.File j || is_of kind.Module j) is

            child_inner : (q : HasParent nodes m) → (is_of kind.File q.node.kind || is_of kind.Module q.node.kind) ≡ false → is_outer (kind_in f m) ≡ false
            child_inner q outside = of_kind (kind_in f m) refl
              where
                of_kind : (k : NodeKind) → kind_in f m ≡ k → is_outer k ≡ false
                of_kind kind.File is = absurd (never_file nodes of.tree q.parent q.node q.at (of.shaped q.parent q.node q.at) m q.child is)
                of_kind kind.Module is = absurd (true≢false (sym (file_of_module nodes of.tree q.parent q.node q.at (of.shaped q.parent q.node q.at) m q.child is) ∙ (or_parts (is_of kind.File q.node.kind) (is_of kind.Module q.node.kind) outside).0))
                of_kind kind.Cluster is = absurd (true≢false (sym (module_of_cluster nodes of.tree q.parent q.node q.at (of.shaped q.parent q.node q.at) m q.child is) ∙ (or_parts (is_of kind.File q.node.kind) (is_of kind.Module q.node.kind) outside).1))
                of_kind _ is = refl

    -- so the routine is a child of a cluster round it
    in_cluster : (c : ℕ) → kind_in f c ≡ kind.Cluster → IsRound c → (x : There nodes c kind.Cluster) → IsIn r x.node.children
    in_cluster c cluster it x =
        let low : (round f c).first ≤ (round f r).first = it.low in
        let last : r < c = it.high in
        let begun : (round f r).first ≤ r = forest_goes_on nodes (round f r).first r node.children (is_subtree nodes rounds of.tree of.surrounded of.ordered r node at) in
        let p : HasParentIn f of (round f c).first c r = parent_in f of c x.node x.at r (omega (arith, low, begun)) last in
        let most : p.parent_is.parent ≤ c = p.below_it in
        elim (cases_lt p.parent_is.parent c) [
          | inl inner ↦
              absurd (true≢false (sym (either_outer p.parent_is.node.kind (round_routine nodes of.tree p.parent_is.parent p.parent_is.node p.parent_is.at (of.shaped p.parent_is.parent p.parent_is.node p.parent_is.at) r p.parent_is.child routine_is))
              ∙ ap is_outer (sym (ap kind_of p.parent_is.at)) ∙ inner_by c x.node x.at x.is c p.parent_is.parent p.above inner (omega arith)))
          | inr outer ↦
              (let same : p.parent_is.parent ≡ c = omega (arith, outer, most) in
              let nodes_same : p.parent_is.node ≡ x.node = same_Some p.parent_is.node x.node (sym p.parent_is.at ∙ ap (slice_get nodes) same ∙ x.at) in
              subst (λ (m : Node). IsIn r m.children) nodes_same p.parent_is.child)
        ]
      where
        either_outer : (k : NodeKind) → (is_of kind.Module k || is_of kind.Cluster k) ≡ true → is_outer k ≡ true
        either_outer kind.Module e = refl
        either_outer kind.Cluster e = refl
        either_outer kind.File e = refl
        either_outer _ e = absurd (true≢false (sym e))

    -- ---- the equate stands before the routine

    equate_first : (a : ℕ) (d : Declared) → (round f r).first ≤ a → a ≤ r → IsRepOf a d → d.node < (round f r).first
    equate_first a d low less x =
        let c : IsOfCluster f of parents all named d = x.scope in
        let cluster : kind_in f c.cluster ≡ kind.Cluster = ap kind_of c.at ∙ c.is in
        let from : d.from ≡ (round f c.cluster).first = c.from in
        let to : d.to ≡ c.cluster = c.to in
        let begun : d.from ≤ a = x.low in
        let ended : a ≤ d.to = x.high in
        let it : IsRound c.cluster = cluster_round a c.cluster cluster low less (omega (arith, from, begun)) (omega (arith, to, ended)) in
        let y : There nodes c.cluster kind.Cluster = there nodes c.cluster kind.Cluster refl cluster in
        let nodes_same : c.node ≡ y.node = same_Some c.node y.node (sym c.at ∙ y.at) in
        order_by d.node r x.its.equate routine_is (slots kind.Cluster) cluster_ends (round f c.cluster).first c.cluster y.node.children
        (is_subtree nodes rounds of.tree of.surrounded of.ordered c.cluster y.node y.at) (firsts_of nodes rounds of.tree of.surrounded c.cluster y.node y.at)
        (subst (λ (k : NodeKind). fit (slots k) (map (kind_at nodes) y.node.children) ≡ true) y.is (children_fit nodes of.shaped c.cluster y.node y.at))
        (subst (λ (m : Node). IsIn d.node m.children) nodes_same c.child) (in_cluster c.cluster cluster it y)

    before_it : (c : ℕ) → (round f r).first ≤ c → c ≤ r → (e : ℕ) → equate_named f c (codes "rep") ≡ Some e → e < (round f r).first
    before_it c low less e named_there = by (found ds (codes "rep") c) (found_is ds (codes "rep") c) named_there
      where
        by : (o : Option ℕ) → IsBest (λ j d. is_open (codes "rep") c d ≡ true) ds o → equate_of f (declaring_node f (declaration_at f.scope o)) ≡ Some e → e < (round f r).first
        by None best is = absurd (none-some e is)
        by (Some p) best is =
            let d : Declared = best.0 in
            let it : IsBestAt (λ j d. is_open (codes "rep") c d ≡ true) ds p d = best.1 in
            let x : IsRepOf c d = rep_of c p d it.there it.passes in
            let declared : equate_of f (Some d.node) ≡ Some e = sym (ap (λ (o : Option Declared). equate_of f (declaring_node f o)) it.there) ∙ is in
            let same : d.node ≡ e = same_Some d.node e (sym (ap (λ (b : Bool). if◌then◌else◌ {A = Option ℕ} b (Some d.node) None) (ap (is_of kind.Equate) x.its.equate)) ∙ declared) in
            subst (λ (m : ℕ). m < (round f r).first) same (equate_first c d low less x)

  pub reps_there : AreRepsThere f
  reps_there n c r routine n_low n_high low less =
      let x : There nodes r kind.Routine = there nodes r kind.Routine refl routine in
      let type_is : IsInRoutine f of parents r c = in_routine f of parents r x.node x.at x.is c low less in
      record {
        home = elim (cases_lt n r) [
          | inl inner ↦
              (let its : IsInRoutine f of parents r n = in_routine f of parents r x.node x.at x.is n n_low inner in
              both_home f of parents all named n c r its.routine type_is.routine)
          | inr outer ↦
              (let same : r ≡ n = omega (arith, outer, n_high) in
              let its : IsAtHome f c r = routines_home f of parents all named c r type_is.routine in
              subst (λ (m : ℕ). IsAtHome f m c) same (record { cluster = sym its.cluster; rep = sym its.rep }))
        ];
        before = λ e is. let first : e < (round f r).first = before_it r x.node x.at x.is c low (omega (arith, less)) e is in omega (arith, first, n_low);
      }
