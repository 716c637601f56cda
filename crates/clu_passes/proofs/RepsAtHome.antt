-- A routine sees the same `rep` as what stands in it: the equate of that stands in a cluster, and counts in all of it.
use Rattle.std.proofs.Common.{◌≡◌, ◌∙◌, ℕ, ◌<◌, ◌≤◌, ◌&&◌, if◌then◌else◌, le-leb, leb-true, nat_le, Bool, true, false, List, bytes_eq, codes, Option, Some, None, inl, inr, refl, sym, ap, subst, arith}
use Rattle.std.specs.Prelude.{slice_get}
use Rattle.std.proofs.lemmas.Bool.{true≢false, and_from, and_parts, cases_lt}
use Rattle.std.proofs.lemmas.Option.{none-some, same_Some}
use Rattle.clu_tree.specs.declared.node.Node.{Node}
use Rattle.clu_tree.specs.declared.node.NodeKind.{NodeKind}
use Rattle.clu_tree.specs.declared.node.NodeKind.TheVariants as kind
use Rattle.clu_syntax.specs.declared.round.Round.{Round}
use Rattle.clu_syntax.specs.Kinds.{kind_of}
use Rattle.clu_syntax.specs.Rounds.{body_in, round_at}
use Rattle.clu_syntax.specs.Splits.{is_of}
use Rattle.clu_syntax.specs.Syntax.{Identifier}
use Rattle.clu_names.specs.declared.scopes.Declared.{Declared}
use Rattle.clu_names.specs.Denotes.{found, is_open, is_rep}
use Rattle.clu_names.specs.Denotes as denotes
use Rattle.clu_names.specs.Latest.{IsBest, IsBestAt}
use Rattle.clu_names.specs.Scopes.{declarations, is_module, kind_at_parent, opens, scope_of}
use Rattle.clu_names.proofs.Best.{found_is, is_found, same_best}
use Rattle.clu_meaning.specs.Scoping.{declaration_at}
use Rattle.clu_checking.specs.Files.{File, declaration, is_kind_at, kind_in, parent, round, stands_in}
use Rattle.clu_declares.proofs.Below.{same_kind}
use Rattle.clu_declares.proofs.Parents.{IsIn}
use Rattle.clu_passes.specs.KnownFiles.{AreRoutinesAtHome}
use Rattle.clu_passes.specs.Losing.{is_plain}
use Rattle.clu_passes.specs.Notes.{HaveParents}
use Rattle.clu_passes.specs.Reps.{AreReps, IsAtHome, IsRep}
use Rattle.clu_passes.specs.Trees.{IsFileOfTree}
use Rattle.clu_passes.proofs.OthersRounds.{HasParentNode, IsRoundIn, parent_node, round_of}
use Rattle.clu_passes.proofs.OthersRoutines.{HasRoutine, IsInRoutine, in_routine, routine_round}
use Rattle.clu_passes.proofs.RefusedBelow.{begins_in}
use Rattle.clu_passes.proofs.Subtrees.{firsts_of, is_subtree}
use Rattle.clu_passes.proofs.Units.{AreEach, of_each}

-- ---- kinds

opens_other : (outer k : NodeKind) → opens outer k ≡ true → is_of kind.Equate outer ≡ false
opens_other kind.Equate k e = absurd (true≢false (sym e))
opens_other kind.File k e = refl
opens_other _ k e = refl

module_other : (above k : NodeKind) → is_module above k ≡ true → is_of kind.Equate k ≡ false
module_other kind.Module kind.Equate e = absurd (true≢false (sym e))
module_other kind.Module kind.File e = refl
module_other kind.Module _ e = refl
module_other kind.File k e = absurd (true≢false (sym e))
module_other _ k e = absurd (true≢false (sym e))

-- ---- scopes

-- where it is open at a node it is at another that stands in its scope with that
stays : (unit : Option ℕ) (from to m k : ℕ) → (from ≤ m → m ≤ to → (from ≤ k) × (k ≤ to)) → denotes.stands_in unit from to m ≡ true → denotes.stands_in unit from to k ≡ true
stays None from to m k move e = refl
stays (Some u) from to m k move e =
    let both = and_parts (nat_le from m) (nat_le m to) e in
    let there = move (leb-true from m both.0) (leb-true m to both.1) in
    and_from (nat_le from k) (nat_le k to) (le-leb from k there.0) (le-leb k to there.1)

-- what declares the word at a node
pub rep_declared : (f : File) → AreReps f → (n : ℕ) (d : Declared) → declaration f n (codes "rep") ≡ Some d → IsRep f d.node
rep_declared f reps n d said = by (found f.scope.declarations (codes "rep") n) (found_is f.scope.declarations (codes "rep") n) said
  where
    by : (o : Option ℕ) → IsBest (λ j d. is_open (codes "rep") n d ≡ true) f.scope.declarations o → declaration_at f.scope o ≡ Some d → IsRep f d.node
    by None best e = absurd (none-some d e)
    by (Some p) best e =
        let it : IsBestAt (λ j d. is_open (codes "rep") n d ≡ true) f.scope.declarations p best.0 = best.1 in
        let same : best.0 ≡ d = same_Some best.0 d (sym it.there ∙ e) in
        let open_there : is_open (codes "rep") n d ≡ true = subst (λ (x : Declared). is_open (codes "rep") n x ≡ true) same it.passes in
        reps p d e (and_parts (bytes_eq d.name (codes "rep")) (denotes.stands_in d.unit d.from d.to n) open_there).0

module _ (f : File) (of : IsFileOfTree f) (parents : HaveParents f) (are : f.scope.declarations ≡ declarations f.nodes f.rounds) (reps : AreReps f) where
  abbrev ds : List Declared
  ds = f.scope.declarations

  -- it is declared in all of a cluster
  pub record IsOfCluster (d : Declared) : Type 0 where
    pub cluster : ℕ
    pub node : Node
    pub at : slice_get f.nodes cluster ≡ Some node
    pub is : node.kind ≡ kind.Cluster
    pub child : IsIn d.node node.children
    pub from : d.from ≡ (round f cluster).first
    pub to : d.to ≡ cluster

  abbrev InCluster : Declared → Type 0
  InCluster d = IsRep f d.node → IsOfCluster d

  of_own : (n : ℕ) (node : Node) → slice_get f.nodes n ≡ Some node → (scope : ℕ × ℕ) → scope_of node.kind (kind_at_parent f.nodes (round f n).parent) n (round f n) ≡ Some scope → (name : Identifier) →
      InCluster (record { name = name; node = n; from = scope.0; to = scope.1; unit = (round f n).unit })
  of_own n node at scope scoped name its = by (parent f n) refl its.inside
    where
      is : node.kind ≡ kind.Equate
      is = sym (ap kind_of at) ∙ its.equate

      body : ((round f n).body_first, (round f n).body_last) ≡ scope
      body = same_Some ((round f n).body_first, (round f n).body_last) scope (sym (ap (λ (k : NodeKind). scope_of k (kind_at_parent f.nodes (round f n).parent) n (round f n)) is) ∙ scoped)

      by : (o : Option ℕ) → parent f n ≡ o → is_kind_at f kind.Cluster o ≡ true → IsOfCluster (record { name = name; node = n; from = scope.0; to = scope.1; unit = (round f n).unit })
      by None up hit = absurd (true≢false (sym hit))
      by (Some p) up hit =
          let q : HasParentNode f of parents n p = parent_node f of parents n p up in
          let x : IsRoundIn f of parents p q.node n = round_of f of parents p q.node q.at n q.child in
          let cluster : q.node.kind ≡ kind.Cluster = sym (ap kind_of q.at) ∙ same_kind kind.Cluster (kind_in f p) hit in
          record {
            cluster = p;
            node = q.node;
            at = q.at;
            is = cluster;
            child = q.child;
            from = ap (λ (s : ℕ × ℕ). s.0) (sym body) ∙ ap (λ (its : Round). its.body_first) x.is ∙ ap (λ (k : NodeKind). (body_in k x.child.kind p (round f p) x.part).0) cluster;
            to = ap (λ (s : ℕ × ℕ). s.1) (sym body) ∙ ap (λ (its : Round). its.body_last) x.is ∙ ap (λ (k : NodeKind). (body_in k x.child.kind p (round f p) x.part).1) cluster;
          }

  each_in : AreEach f.nodes f.rounds InCluster
  each_in = record {
    variables = λ n p outer k up at kind_is opened begins name its. absurd (true≢false (sym (ap (is_of kind.Equate) (sym (ap kind_of at) ∙ its.equate)) ∙ opens_other outer.kind k opened));
    owns = λ n node at scope scoped name. of_own n node at scope scoped name;
    modules = λ n node at is name its. absurd (true≢false (sym (ap (is_of kind.Equate) (sym (ap kind_of at) ∙ its.equate)) ∙ module_other (kind_at_parent f.nodes (round f n).parent) node.kind is));
  }

  pub of_cluster : (j : ℕ) (d : Declared) → slice_get ds j ≡ Some d → is_rep d.name ≡ true → IsOfCluster d
  of_cluster j d there named = of_each f.nodes f.rounds InCluster each_in j d (ap (λ (xs : List Declared). slice_get xs j) (sym are) ∙ there) (reps j d there named)

  -- ---- what stands in a routine stands in a cluster just if the routine does

  module _ (r : ℕ) (node : Node) (at : slice_get f.nodes r ≡ Some node) (is : node.kind ≡ kind.Routine) (n : ℕ) (low : (round f r).first ≤ n) (less : n < r) (d : Declared) (c : IsOfCluster d) where
    pub to_routine : d.from ≤ n → n ≤ d.to → (d.from ≤ r) × (r ≤ d.to)
    to_routine from to = elim (cases_lt c.cluster r) [
      | inl inner ↦
          (let its_to : d.to ≡ c.cluster = c.to in
          let its : IsInRoutine f of parents r c.cluster = in_routine f of parents r node at is c.cluster (omega (arith, low, to, its_to)) inner in
          absurd (true≢false (sym its.plain ∙ ap is_plain (ap kind_of c.at ∙ c.is))))
      | inr outer ↦ (let its_to : d.to ≡ c.cluster = c.to in (omega (arith, from, less), omega (arith, outer, its_to)))
    ]

    from_routine : d.from ≤ r → r ≤ d.to → (d.from ≤ n) × (n ≤ d.to)
    from_routine from to = elim (cases_lt r c.cluster) [
      | inl inner ↦
          (let its_from : d.from ≡ (round f c.cluster).first = c.from in
          let its_to : d.to ≡ c.cluster = c.to in
          let begun : (round f c.cluster).first ≤ (round f r).first =
          begins_in f of (round f c.cluster).first c.cluster c.node.children (is_subtree f.nodes f.rounds of.tree of.surrounded of.ordered c.cluster c.node c.at) (firsts_of f.nodes f.rounds of.tree of.surrounded c.cluster c.node c.at) r (omega (arith, from, its_from)) inner in
          (omega (arith, its_from, begun, low), omega (arith, less, to)))
      | inr outer ↦
          (let its_to : d.to ≡ c.cluster = c.to in
          let same : r ≡ c.cluster = omega (arith, outer, to, its_to) in
          absurd (true≢false (sym (ap (is_of kind.Cluster) (ap kind_of c.at ∙ c.is)) ∙ ap (λ (m : ℕ). is_of kind.Cluster (kind_in f m)) (sym same) ∙ ap (is_of kind.Cluster) (ap kind_of at ∙ is))))
    ]

  module _ (n r : ℕ) (has : (round f n).routine ≡ Some r) where
    x : HasRoutine f of parents n r
    x = routine_round f of parents n r has

    opened : (j : ℕ) (d : Declared) → slice_get ds j ≡ Some d → (m k : ℕ) → (IsOfCluster d → d.from ≤ m → m ≤ d.to → (d.from ≤ k) × (k ≤ d.to)) → is_open (codes "rep") m d ≡ true → is_open (codes "rep") k d ≡ true
    opened j d there m k move hit =
        let both = and_parts (bytes_eq d.name (codes "rep")) (denotes.stands_in d.unit d.from d.to m) hit in
        and_from (bytes_eq d.name (codes "rep")) (denotes.stands_in d.unit d.from d.to k) both.0 (stays d.unit d.from d.to m k (move (of_cluster j d there both.0)) both.1)

    same_found : found ds (codes "rep") n ≡ found ds (codes "rep") r
    same_found =
        is_found ds (codes "rep") r (found ds (codes "rep") n)
        (same_best (λ j d. is_open (codes "rep") n d ≡ true) (λ j d. is_open (codes "rep") r d ≡ true) ds (found ds (codes "rep") n)
        (λ j d there hit. opened j d there n r (λ c. to_routine r x.node x.at x.is n x.low x.less d c) hit)
        (λ j d there hit. opened j d there r n (λ c. from_routine r x.node x.at x.is n x.low x.less d c) hit)
        (found_is ds (codes "rep") n))

    at_home : IsAtHome f n r
    at_home =
        let its : IsInRoutine f of parents r n = in_routine f of parents r x.node x.at x.is n x.low x.less in
        record { cluster = sym its.cluster; rep = ap (declaration_at f.scope) (sym same_found) }

  pub routines_home : AreRoutinesAtHome f
  routines_home n r has = at_home n r has

  -- and so do two nodes in one routine
  pub both_home : (n t r : ℕ) → (round f n).routine ≡ Some r → (round f t).routine ≡ Some r → IsAtHome f n t
  both_home n t r here there =
      let a : IsAtHome f n r = routines_home n r here in
      let b : IsAtHome f t r = routines_home t r there in
      record { cluster = sym b.cluster ∙ a.cluster; rep = sym b.rep ∙ a.rep }
