-- What is bound below a node is bound by its file: from each node up to the root, no list of parts leaves it out.
use Rattle.std.proofs.Common.{◌≡◌, ◌∙◌, ℕ, zero, suc, ◌+◌, ◌-◌, ◌<◌, ◌≤◌, ◌||◌, Bool, true, false, cond, if◌then◌else◌, List, [], ◌∷◌, ◌++◌, length, take, drop, Option, Some, None, slice_get, refl, ap, sym, subst, inl, inr, arith, append_assoc}
use Rattle.std.specs.Prelude.{filter, flat_map}
use Rattle.std.specs.List.{range_with_len}
use Rattle.std.proofs.lemmas.Bool.{true≢false, cases_Bool, cases_lt}
use Rattle.std.proofs.lemmas.Option.{slice_get_within}
use Rattle.clu_tree.specs.declared.node.Node.{Node}
use Rattle.clu_tree.specs.declared.node.NodeKind.{NodeKind}
use Rattle.clu_tree.specs.declared.node.NodeKind.TheVariants as kind
use Rattle.clu_parser.specs.Trees.{Text}
use Rattle.clu_parser.specs.Shape.{HasForm}
use Rattle.clu_syntax.specs.declared.round.Round.{Round}
use Rattle.clu_syntax.specs.Kinds.{kind_of, kind_at}
use Rattle.clu_syntax.specs.Rounds.{AreRounds}
use Rattle.clu_syntax.specs.Splits.{is_of, run, after_run, leading, after_one, first_name}
use Rattle.clu_syntax.specs.Syntax.{Identifier, Routine, TypeSet, Module, a_routine, a_cluster}
use Rattle.clu_syntax.specs.Items.{Item, routines_at, modules_at, equates_at}
use Rattle.clu_syntax.specs.Nodes.{before, item_at, file_of, type_set_of}
use Rattle.clu_parts.proofs.Fitting.{AreParts, AreBefore, children_before}
use Rattle.clu_meaning.specs.Scoping.{is_module, is_routine_of_cluster, is_own_of_cluster, is_type_parameter, Bindings, binding, of_equates, of_owns, of_parameters, of_routine, of_routines, of_module, of_modules}
use Rattle.clu_checking.specs.Files.{variable_number, of_type_set, is_type_set_node, of_type_sets, numbers, scope_in}
use Rattle.clu_declares.specs.Declares.{IsParsed, has, declared_by}
use Rattle.clu_declares.proofs.Around.{IsAround}
use Rattle.clu_declares.proofs.Firsts.{has_left, has_right}
use Rattle.clu_declares.proofs.Below.{binds, same_kind, before_is, item_there, all_at, all_in, all_more, none_at}
use Rattle.clu_declares.proofs.Plain.{is_plain, none_below_each}
use Rattle.clu_declares.proofs.Tops.{ClusterParts, cluster_rest, cluster_routines}
use Rattle.clu_declares.proofs.Facts.{There, there, run_kinds, whole_at, around_at, routine_at, ClusterIs, cluster_at, set_bound, ModuleIs, module_at, root_parts, no_routine}
use Rattle.clu_declares.proofs.Parents.{IsIn, of_all, in_either, in_split, HasParent, has_parent, child_before, never_file, file_of_module, module_of_cluster, round_routine}

-- which parents of what binds there are
data IsAbove : NodeKind → Type 0 where
  it_binds : (k : NodeKind) → binds k ≡ true → IsAbove k
  a_routine_above : IsAbove kind.Routine
  a_cluster_above : IsAbove kind.Cluster
  a_module_above : IsAbove kind.Module
  a_set_above : IsAbove kind.TypeSet

above : (k : NodeKind) → is_plain k ≡ false → IsAbove k
above kind.Module e = a_module_above
above kind.Routine e = a_routine_above
above kind.Cluster e = a_cluster_above
above kind.TypeSet e = a_set_above
above kind.Own e = it_binds kind.Own refl
above kind.Declare e = it_binds kind.Declare refl
above kind.Init e = it_binds kind.Init refl
above kind.While e = it_binds kind.While refl
above kind.For e = it_binds kind.For refl
above kind.If e = it_binds kind.If refl
above kind.Tagcase e = it_binds kind.Tagcase refl
above kind.TagArm e = it_binds kind.TagArm refl
above kind.Begin e = it_binds kind.Begin refl
above kind.Resignal e = it_binds kind.Resignal refl
above kind.Except e = it_binds kind.Except refl
above kind.When e = it_binds kind.When refl
above kind.Others e = it_binds kind.Others refl
above _ e = absurd (true≢false e)

and_both : (a b : Bool) → a ≡ false → b ≡ false → (a || b) ≡ true → ⊥
and_both true b e f h = true≢false e
and_both false true e f h = true≢false f
and_both false false e f h = true≢false (sym h)

in_range : (n a k : ℕ) → a ≤ n → n < a + k → IsIn n (range_with_len a k)
in_range n a zero l m = absurd (omega (arith, l, m))
in_range n a (suc k) l m = elim (cases_lt a n) [
  | inl less ↦ inr (in_range n (a + 1) k (omega (arith, less)) (omega (arith, m)))
  | inr same ↦ inl (omega (arith, l, same))
]

module _ (t : Text) (nodes : List Node) (rounds : List Round) (parsed : IsParsed t nodes) (are : AreRounds nodes rounds) (p : ℕ) (name : Identifier) where
  abbrev pub IsBound : Bindings → Type 0
  IsBound bs = has bs p name ≡ true

  abbrev all : List ℕ → Bindings
  all = all_in nodes rounds

  abbrev pub InFile : Type 0
  InFile = has (scope_in nodes rounds).bindings p name ≡ true

  abbrev last : ℕ
  last = length nodes - 1

  left : (xs ys : Bindings) → IsBound xs → IsBound (xs ++ ys)
  left xs ys h = has_left xs ys p name h

  right : (xs ys : Bindings) → IsBound ys → IsBound (xs ++ ys)
  right xs ys h = has_right xs ys p name h

  pub form_at : (n : ℕ) (node : Node) → slice_get nodes n ≡ Some node → HasForm nodes node
  form_at n node at = parsed.forms n node at

  in_children : (c : ℕ) (cs : List ℕ) → IsIn c cs → IsBound (all_at nodes rounds c) → IsBound (all cs)
  in_children c [] i h = absurd i
  in_children c (x ∷ cs) (inl e) h = subst IsBound (sym (all_more nodes rounds x cs)) (left (all_at nodes rounds x) (all cs) (subst (λ (x : ℕ). IsBound (all_at nodes rounds x)) (sym e) h))
  in_children c (x ∷ cs) (inr i) h = subst IsBound (sym (all_more nodes rounds x cs)) (right (all_at nodes rounds x) (all cs) (in_children c cs i h))

  -- ---- modules of the file

  in_modules : (c : ℕ) (cs : List ℕ) → IsIn c cs → IsBound (of_module (item_at nodes c).module_) → IsBound (of_modules (modules_at (item_at nodes) cs))
  in_modules c [] i h = absurd i
  in_modules c (x ∷ cs) (inl e) h = left (of_module (item_at nodes x).module_) (of_modules (modules_at (item_at nodes) cs)) (subst (λ (x : ℕ). IsBound (of_module (item_at nodes x).module_)) (sym e) h)
  in_modules c (x ∷ cs) (inr i) h = right (of_module (item_at nodes x).module_) (of_modules (modules_at (item_at nodes) cs)) (in_modules c cs i h)

  same_node : (n m : ℕ) (a b : Node) → slice_get nodes n ≡ Some a → slice_get nodes m ≡ Some b → n ≡ m → a ≡ b
  same_node n m a b x y e = let same : Some a ≡ Some b = sym x ∙ ap (slice_get nodes) e ∙ y in cc

  not_last : (c : ℕ) (k : NodeKind) → kind_at nodes c ≡ k → is_of k kind.File ≡ false → c < last
  not_last c k e other =
      let th : There nodes c k = there nodes c k other e in
      let l : c < length nodes = slice_get_within nodes c th.node th.at in
      elim (cases_lt c last) [
        | inl less ↦ less
        | inr more ↦ absurd (let same : c ≡ last = omega (arith, l, more) in
            let both : th.node ≡ parsed.file.0 = same_node c last th.node parsed.file.0 th.at parsed.file.1 same in
            true≢false (sym (own_kind k) ∙ ap (is_of k) (sym th.is ∙ ap (λ (n : Node). n.kind) both ∙ parsed.file.2) ∙ other))
      ]
    where
      own_kind : (k : NodeKind) → is_of k k ≡ true
      own_kind kind.File = refl
      own_kind _ = refl

  pub parent_of : (c : ℕ) (k : NodeKind) → kind_at nodes c ≡ k → is_of k kind.File ≡ false → HasParent nodes c
  parent_of c k e other = has_parent nodes parsed.order c (not_last c k e other)

  under_root : (c : ℕ) → kind_at nodes c ≡ kind.Module → IsIn c parsed.file.0.children
  under_root c e = by (parent_of c kind.Module e refl)
    where
      by : HasParent nodes c → IsIn c parsed.file.0.children
      by q =
          let file : is_of kind.File q.node.kind ≡ true = file_of_module nodes parsed.tree q.parent q.node q.at (form_at q.parent q.node q.at) c q.child e in
          let its : kind_at nodes q.parent ≡ kind.File = ap kind_of q.at ∙ same_kind kind.File q.node.kind file in
          let l : q.parent < length nodes = slice_get_within nodes q.parent q.node q.at in
          elim (cases_lt q.parent last) [
            | inl less ↦ absurd (let up : HasParent nodes q.parent = has_parent nodes parsed.order q.parent less in never_file nodes parsed.tree up.parent up.node up.at (form_at up.parent up.node up.at) q.parent up.child its)
            | inr more ↦ (let same : q.parent ≡ last = omega (arith, l, more) in
                subst (λ (n : Node). IsIn c n.children) (same_node q.parent last q.node parsed.file.0 q.at parsed.file.1 same) q.child)
          ]

  pub module_up : (c : ℕ) → kind_at nodes c ≡ kind.Module → IsBound (of_module (item_at nodes c).module_) → InFile
  module_up c e h =
      left (of_modules (file_of nodes)) (of_type_sets nodes rounds)
      (subst (λ (ms : List Module). IsBound (of_modules ms)) (sym (root_parts t nodes rounds parsed are).1) (in_modules c parsed.file.0.children (under_root c e) h))

  root_around : (c : ℕ) → kind_at nodes c ≡ kind.Module → IsAround rounds last parsed.file.0 c
  root_around c e = of_all (IsAround rounds last parsed.file.0) c parsed.file.0.children (around_at t nodes rounds parsed are last parsed.file.0 parsed.file.1) (under_root c e)

  -- ---- definitions of a module

  module _ (c : ℕ) (node : Node) (at : slice_get nodes c ≡ Some node) (is : node.kind ≡ kind.Module) where
    abbrev pub facts : ModuleIs t nodes rounds parsed are c node
    facts = module_at t nodes rounds parsed are c node at is

    pub its_kind : kind_at nodes c ≡ kind.Module
    its_kind = ap kind_of at ∙ is

    pub is_last : (d : ℕ) (k : NodeKind) → kind_at nodes d ≡ k → is_of kind.Equate k ≡ false → IsIn d node.children → facts.last ≡ d
    is_last d k e other i = elim (in_either d (run nodes kind.Equate node.children) (facts.last ∷ []) (subst (IsIn d) (sym facts.is_last) i)) [
      | inl front ↦ absurd (true≢false (sym (of_all (λ (c' : ℕ). (c' < c) × (is_of kind.Equate (kind_at nodes c') ≡ true)) d (run nodes kind.Equate node.children) (run_kinds nodes kind.Equate c node.children (children_before nodes parsed.tree c node at)) front).1 ∙ ap (is_of kind.Equate) e ∙ other))
      | inr behind ↦ elim behind [ inl e ↦ e | inr never ↦ absurd never ]
    ]

    pub routine_in : kind_at nodes facts.last ≡ kind.Routine → (item_at nodes c).module_ ≡ a_routine c facts.equates (item_at nodes facts.last).routine
    routine_in k = elim facts.defines [ inl d ↦ d.1 | inr d ↦ absurd (let e : kind.Routine ≡ kind.Cluster = sym k ∙ d.0 in cc) ]

    pub cluster_in : kind_at nodes facts.last ≡ kind.Cluster → (item_at nodes c).module_ ≡ a_cluster c facts.equates (item_at nodes facts.last).cluster
    cluster_in k = elim facts.defines [ inl d ↦ absurd (let e : kind.Cluster ≡ kind.Routine = sym k ∙ d.0 in cc) | inr d ↦ d.1 ]

    -- leading equates
    equates_up : IsBound (all node.children) → InFile
    equates_up h = module_up c its_kind (elim facts.defines [
      | inl d ↦
          subst (λ (m : Module). IsBound (of_module m)) (sym d.1)
          (left (binding (item_at nodes facts.last).routine.node is_module (item_at nodes facts.last).routine.name ∷ of_equates facts.equates ++ of_parameters 1 (item_at nodes facts.last).routine.parameters) (of_routine (item_at nodes facts.last).routine)
          (left (binding (item_at nodes facts.last).routine.node is_module (item_at nodes facts.last).routine.name ∷ of_equates facts.equates) (of_parameters 1 (item_at nodes facts.last).routine.parameters)
          (right (binding (item_at nodes facts.last).routine.node is_module (item_at nodes facts.last).routine.name ∷ []) (of_equates facts.equates) (subst IsBound (sym facts.bound) h))))
      | inr d ↦
          subst (λ (m : Module). IsBound (of_module m)) (sym d.1)
          (cluster_front facts.last (of_parameters 1 (item_at nodes facts.last).cluster.parameters) (binding (item_at nodes facts.last).cluster.node is_module (item_at nodes facts.last).cluster.name ∷ of_equates facts.equates)
          (right (binding (item_at nodes facts.last).cluster.node is_module (item_at nodes facts.last).cluster.name ∷ []) (of_equates facts.equates) (subst IsBound (sym facts.bound) h)))
    ])
      where
        cluster_front : (d : ℕ) (ps front : Bindings) → IsBound front → IsBound (front ++ ps ++ of_equates (item_at nodes d).cluster.equates ++ of_owns is_own_of_cluster (item_at nodes d).cluster.owns ++ of_routines (item_at nodes d).cluster.routines)
        cluster_front d ps front h =
            left (front ++ ps ++ of_equates (item_at nodes d).cluster.equates ++ of_owns is_own_of_cluster (item_at nodes d).cluster.owns) (of_routines (item_at nodes d).cluster.routines)
            (left (front ++ ps ++ of_equates (item_at nodes d).cluster.equates) (of_owns is_own_of_cluster (item_at nodes d).cluster.owns)
            (left (front ++ ps) (of_equates (item_at nodes d).cluster.equates) (left front ps h)))

    -- what a routine that is a module binds below itself
    routine_body_up : kind_at nodes facts.last ≡ kind.Routine → IsBound (of_routine (item_at nodes facts.last).routine) → InFile
    routine_body_up k h =
        module_up c its_kind (subst (λ (m : Module). IsBound (of_module m)) (sym (routine_in k))
        (right (binding (item_at nodes facts.last).routine.node is_module (item_at nodes facts.last).routine.name ∷ of_equates facts.equates ++ of_parameters 1 (item_at nodes facts.last).routine.parameters) (of_routine (item_at nodes facts.last).routine) h))

    -- what a cluster binds below itself, and what its routines bind
    cluster_body_up : kind_at nodes facts.last ≡ kind.Cluster → IsBound (of_equates (item_at nodes facts.last).cluster.equates ++ of_owns is_own_of_cluster (item_at nodes facts.last).cluster.owns) → InFile
    cluster_body_up k h =
        let front : Bindings = binding (item_at nodes facts.last).cluster.node is_module (item_at nodes facts.last).cluster.name ∷ of_equates facts.equates ++ of_parameters 1 (item_at nodes facts.last).cluster.parameters in
        module_up c its_kind (subst (λ (m : Module). IsBound (of_module m)) (sym (cluster_in k))
        (left (front ++ of_equates (item_at nodes facts.last).cluster.equates ++ of_owns is_own_of_cluster (item_at nodes facts.last).cluster.owns) (of_routines (item_at nodes facts.last).cluster.routines)
        (subst IsBound (sym (append_assoc front (of_equates (item_at nodes facts.last).cluster.equates) (of_owns is_own_of_cluster (item_at nodes facts.last).cluster.owns)))
        (right front (of_equates (item_at nodes facts.last).cluster.equates ++ of_owns is_own_of_cluster (item_at nodes facts.last).cluster.owns) h))))

    cluster_routines_up : kind_at nodes facts.last ≡ kind.Cluster → IsBound (of_routines (item_at nodes facts.last).cluster.routines) → InFile
    cluster_routines_up k h =
        let front : Bindings = binding (item_at nodes facts.last).cluster.node is_module (item_at nodes facts.last).cluster.name ∷ of_equates facts.equates ++ of_parameters 1 (item_at nodes facts.last).cluster.parameters in
        module_up c its_kind (subst (λ (m : Module). IsBound (of_module m)) (sym (cluster_in k))
        (right (front ++ of_equates (item_at nodes facts.last).cluster.equates ++ of_owns is_own_of_cluster (item_at nodes facts.last).cluster.owns) (of_routines (item_at nodes facts.last).cluster.routines) h))

  -- ---- routines of a cluster

  pub in_routines : (d c : ℕ) (cs : List ℕ) → AreBefore d cs → IsIn c cs → IsBound (binding (item_at nodes c).routine.node is_routine_of_cluster (item_at nodes c).routine.name ∷ of_routine (item_at nodes c).routine) → IsBound (of_routines (routines_at (before d (item_at nodes)) cs))
  in_routines d c [] l i h = absurd i
  in_routines d c (x ∷ cs) l (inl e) h =
      left (binding (before d (item_at nodes) x).routine.node is_routine_of_cluster (before d (item_at nodes) x).routine.name ∷ of_routine (before d (item_at nodes) x).routine) (of_routines (routines_at (before d (item_at nodes)) cs))
      (subst (λ (i : Item). IsBound (binding i.routine.node is_routine_of_cluster i.routine.name ∷ of_routine i.routine)) (sym (before_is nodes d x l.0))
      (subst (λ (x : ℕ). IsBound (binding (item_at nodes x).routine.node is_routine_of_cluster (item_at nodes x).routine.name ∷ of_routine (item_at nodes x).routine)) (sym e) h))
  in_routines d c (x ∷ cs) l (inr i) h =
      right (binding (before d (item_at nodes) x).routine.node is_routine_of_cluster (before d (item_at nodes) x).routine.name ∷ of_routine (before d (item_at nodes) x).routine) (of_routines (routines_at (before d (item_at nodes)) cs)) (in_routines d c cs l.1 i h)

  before_take : (d m : ℕ) (cs : List ℕ) → AreBefore d cs → AreBefore d (take m cs)
  before_take d zero cs l = tt
  before_take d (suc m) [] l = tt
  before_take d (suc m) (c ∷ cs) l = (l.0, before_take d m cs l.1)

  before_drop : (d m : ℕ) (cs : List ℕ) → AreBefore d cs → AreBefore d (drop m cs)
  before_drop d zero cs l = l
  before_drop d (suc m) [] l = tt
  before_drop d (suc m) (c ∷ cs) l = before_drop d m cs l.1

  before_one : (d : ℕ) (k : NodeKind) (cs : List ℕ) → AreBefore d cs → AreBefore d (after_one nodes k cs)
  before_one d k [] l = tt
  before_one d k (c ∷ cs) l = by (is_of k (kind_at nodes c))
    where
      by : (b : Bool) → AreBefore d (if b then cs else c ∷ cs)
      by true = l.1
      by false = l

  -- a node of another kind stands behind a run
  behind_run : (d c : ℕ) (k j : NodeKind) (cs : List ℕ) → AreBefore d cs → kind_at nodes c ≡ j → is_of k j ≡ false → IsIn c cs → IsIn c (after_run nodes k cs)
  behind_run d c k j cs l e other i = elim (in_split c (leading nodes k cs) cs i) [
    | inl front ↦ absurd (true≢false (sym (of_all (λ (x : ℕ). (x < d) × (is_of k (kind_at nodes x) ≡ true)) c (run nodes k cs) (run_kinds nodes k d cs l) front).1 ∙ ap (is_of k) e ∙ other))
    | inr behind ↦ behind
  ]

  behind_one : (c : ℕ) (k j : NodeKind) (cs : List ℕ) → kind_at nodes c ≡ j → is_of k j ≡ false → IsIn c cs → IsIn c (after_one nodes k cs)
  behind_one c k j [] e other i = absurd i
  behind_one c k j (x ∷ cs) e other i = by (is_of k (kind_at nodes x)) refl i
    where
      by : (b : Bool) → is_of k (kind_at nodes x) ≡ b → IsIn c (x ∷ cs) → IsIn c (if b then cs else x ∷ cs)
      by true is (inl same) = absurd (true≢false (sym is ∙ ap (λ (n : ℕ). is_of k (kind_at nodes n)) same ∙ ap (is_of k) e ∙ other))
      by true is (inr i) = i
      by false is i = i

  pub among_routines : (d : ℕ) (node : Node) (c : ℕ) → slice_get nodes d ≡ Some node → ClusterParts nodes rounds d node.children → kind_at nodes c ≡ kind.Routine → IsIn c node.children → IsIn c (cluster_routines nodes rounds d node.children)
  among_routines d node c at parts e i =
      let l : AreBefore d node.children = children_before nodes parsed.tree d node at in
      let l1 : AreBefore d (after_run nodes kind.Parm node.children) = before_drop d (leading nodes kind.Parm node.children) node.children l in
      let i1 : IsIn c (after_run nodes kind.Parm node.children) = behind_run d c kind.Parm kind.Routine node.children l e refl i in
      let l2 : AreBefore d (cluster_rest nodes rounds d node.children) = before_one d kind.Where (after_run nodes kind.Parm node.children) l1 in
      let i2 : IsIn c (cluster_rest nodes rounds d node.children) = behind_one c kind.Where kind.Routine (after_run nodes kind.Parm node.children) e refl i1 in
      let l3 : AreBefore d (after_run nodes kind.Equate (cluster_rest nodes rounds d node.children)) = before_drop d (leading nodes kind.Equate (cluster_rest nodes rounds d node.children)) (cluster_rest nodes rounds d node.children) l2 in
      let i3 : IsIn c (after_run nodes kind.Equate (cluster_rest nodes rounds d node.children)) = behind_run d c kind.Equate kind.Routine (cluster_rest nodes rounds d node.children) l2 e refl i2 in
      let i4 : IsIn c (after_run nodes kind.Own (after_run nodes kind.Equate (cluster_rest nodes rounds d node.children))) = behind_run d c kind.Own kind.Routine (after_run nodes kind.Equate (cluster_rest nodes rounds d node.children)) l3 e refl i3 in
      subst (IsIn c) parts.others i4

  -- ---- what stands round a cluster and a routine

  pub module_of : (d : ℕ) → kind_at nodes d ≡ kind.Cluster → (q : HasParent nodes d) × (q.node.kind ≡ kind.Module)
  module_of d e = let q = parent_of d kind.Cluster e refl in (q, same_kind kind.Module q.node.kind (module_of_cluster nodes parsed.tree q.parent q.node q.at (form_at q.parent q.node q.at) d q.child e))

  pub cluster_facts : (d : ℕ) (node : Node) → slice_get nodes d ≡ Some node → node.kind ≡ kind.Cluster → ClusterIs t nodes rounds parsed are d node
  cluster_facts d node at is =
      let e : kind_at nodes d ≡ kind.Cluster = ap kind_of at ∙ is in
      let m = module_of d e in
      cluster_at t nodes rounds parsed are d node at is (no_routine t nodes rounds parsed are m.0.parent d m.0.node m.1 (root_around m.0.parent (ap kind_of m.0.at ∙ m.1)) (of_all (IsAround rounds m.0.parent m.0.node) d m.0.node.children (around_at t nodes rounds parsed are m.0.parent m.0.node m.0.at) m.0.child))

  cluster_up : (d : ℕ) (node : Node) → slice_get nodes d ≡ Some node → node.kind ≡ kind.Cluster → IsBound (all node.children) → InFile
  cluster_up d node at is h =
      let e : kind_at nodes d ≡ kind.Cluster = ap kind_of at ∙ is in
      let m = module_of d e in
      let same : (module_at t nodes rounds parsed are m.0.parent m.0.node m.0.at m.1).last ≡ d = is_last m.0.parent m.0.node m.0.at m.1 d kind.Cluster e refl m.0.child in
      let facts : ClusterIs t nodes rounds parsed are d node = cluster_facts d node at is in
      cluster_body_up m.0.parent m.0.node m.0.at m.1 (ap (kind_at nodes) same ∙ e)
      (subst (λ (n : ℕ). IsBound (of_equates (item_at nodes n).cluster.equates ++ of_owns is_own_of_cluster (item_at nodes n).cluster.owns)) (sym same) (subst IsBound (sym facts.bound) h))

  pub routines_up : (d : ℕ) (node : Node) → slice_get nodes d ≡ Some node → node.kind ≡ kind.Cluster → IsBound (of_routines (item_at nodes d).cluster.routines) → InFile
  routines_up d node at is h =
      let e : kind_at nodes d ≡ kind.Cluster = ap kind_of at ∙ is in
      let m = module_of d e in
      let same : (module_at t nodes rounds parsed are m.0.parent m.0.node m.0.at m.1).last ≡ d = is_last m.0.parent m.0.node m.0.at m.1 d kind.Cluster e refl m.0.child in
      cluster_routines_up m.0.parent m.0.node m.0.at m.1 (ap (kind_at nodes) same ∙ e) (subst (λ (n : ℕ). IsBound (of_routines (item_at nodes n).cluster.routines)) (sym same) h)

  pub all_parts_before : (m : ℕ) (cs : List ℕ) → AreParts nodes (is_of kind.Routine) m cs → AreBefore m cs
  all_parts_before m [] ps = tt
  all_parts_before m (c ∷ cs) ps = (ps.0.0, all_parts_before m cs ps.1)

  routine_up : (d : ℕ) (node : Node) → slice_get nodes d ≡ Some node → node.kind ≡ kind.Routine → IsBound (all node.children) → InFile
  routine_up d node at is h = by (parent_of d kind.Routine e refl)
    where
      e : kind_at nodes d ≡ kind.Routine
      e = ap kind_of at ∙ is

      bound : IsBound (of_routine (item_at nodes d).routine)
      bound = subst IsBound (sym (routine_at t nodes rounds parsed are d node at is).bound) h

      of_module_of : (q : HasParent nodes d) → q.node.kind ≡ kind.Module → InFile
      of_module_of q m =
          let same : (module_at t nodes rounds parsed are q.parent q.node q.at m).last ≡ d = is_last q.parent q.node q.at m d kind.Routine e refl q.child in
          routine_body_up q.parent q.node q.at m (ap (kind_at nodes) same ∙ e) (subst (λ (n : ℕ). IsBound (of_routine (item_at nodes n).routine)) (sym same) bound)

      of_cluster_of : (q : HasParent nodes d) → q.node.kind ≡ kind.Cluster → InFile
      of_cluster_of q m =
          let facts : ClusterIs t nodes rounds parsed are q.parent q.node = cluster_facts q.parent q.node q.at m in
          let i : IsIn d (cluster_routines nodes rounds q.parent q.node.children) = among_routines q.parent q.node d q.at facts.parts e q.child in
          routines_up q.parent q.node q.at m (subst (λ (rs : List Routine). IsBound (of_routines rs)) (sym facts.routines)
          (in_routines q.parent d (cluster_routines nodes rounds q.parent q.node.children) (all_parts_before q.parent (cluster_routines nodes rounds q.parent q.node.children) facts.parts.routines) i
          (right (binding (item_at nodes d).routine.node is_routine_of_cluster (item_at nodes d).routine.name ∷ []) (of_routine (item_at nodes d).routine) bound)))

      second : (a b : Bool) → (a || b) ≡ true → a ≡ false → b ≡ true
      second true b e f = absurd (true≢false f)
      second false b e f = e

      by : HasParent nodes d → InFile
      by q = elim (cases_Bool (is_of kind.Module q.node.kind)) [
        | inl m ↦ of_module_of q (same_kind kind.Module q.node.kind m)
        | inr other ↦ of_cluster_of q (same_kind kind.Cluster q.node.kind (second (is_of kind.Module q.node.kind) (is_of kind.Cluster q.node.kind) (round_routine nodes parsed.tree q.parent q.node q.at (form_at q.parent q.node q.at) d q.child e) other))
      ]

  -- ---- type sets

  abbrev sets_of : List ℕ → Bindings
  sets_of ns = flat_map (λ (n : ℕ). of_type_set (variable_number nodes rounds n) (item_at nodes n).type_set) ns

  in_sets : (n : ℕ) (xs : List ℕ) → IsIn n xs → is_type_set_node nodes n ≡ true → IsBound (of_type_set (variable_number nodes rounds n) (item_at nodes n).type_set) → IsBound (sets_of (filter (is_type_set_node nodes) xs))
  in_sets n [] i e h = absurd i
  in_sets n (x ∷ xs) (inl same) e h =
      let is : is_type_set_node nodes x ≡ true = ap (is_type_set_node nodes) same ∙ e in
      subst (λ (b : Bool). IsBound (sets_of (cond b (x ∷ filter (is_type_set_node nodes) xs) (filter (is_type_set_node nodes) xs)))) (sym is)
      (left (of_type_set (variable_number nodes rounds x) (item_at nodes x).type_set) (sets_of (filter (is_type_set_node nodes) xs))
      (subst (λ (x : ℕ). IsBound (of_type_set (variable_number nodes rounds x) (item_at nodes x).type_set)) (sym same) h))
  in_sets n (x ∷ xs) (inr i) e h = by (is_type_set_node nodes x) (in_sets n xs i e h)
    where
      by : (b : Bool) → IsBound (sets_of (filter (is_type_set_node nodes) xs)) → IsBound (sets_of (cond b (x ∷ filter (is_type_set_node nodes) xs) (filter (is_type_set_node nodes) xs)))
      by true rest = right (of_type_set (variable_number nodes rounds x) (item_at nodes x).type_set) (sets_of (filter (is_type_set_node nodes) xs)) rest
      by false rest = rest

  pub set_up : (n : ℕ) (node : Node) → slice_get nodes n ≡ Some node → node.kind ≡ kind.TypeSet → IsBound (of_type_set (variable_number nodes rounds n) (item_at nodes n).type_set) → InFile
  set_up n node at is h =
      right (of_modules (file_of nodes)) (of_type_sets nodes rounds)
      (in_sets n (numbers nodes) (in_range n 0 (length nodes) (omega arith) (let l : n < length nodes = slice_get_within nodes n node at in omega (arith, l)))
      (ap (is_of kind.TypeSet) (ap kind_of at ∙ is)) h)

  set_equates_up : (n : ℕ) (node : Node) → slice_get nodes n ≡ Some node → node.kind ≡ kind.TypeSet → IsBound (all node.children) → InFile
  set_equates_up n node at is h =
      let its : (item_at nodes n).type_set ≡ type_set_of (before n (item_at nodes)) nodes n node kind.TypeSet = ap (λ (i : Item). i.type_set) (item_there nodes n node at) ∙ ap (type_set_of (before n (item_at nodes)) nodes n node) is in
      set_up n node at is (subst (λ (s : TypeSet). IsBound (of_type_set (variable_number nodes rounds n) s)) (sym its)
      (right (binding n (is_type_parameter (variable_number nodes rounds n)) (first_name node.names) ∷ []) (of_equates (equates_at (before n (item_at nodes)) (run nodes kind.Equate (after_run nodes kind.Oper node.children))))
      (subst IsBound (sym (set_bound t nodes rounds parsed are n node at is (equates_at (before n (item_at nodes)) (run nodes kind.Equate (after_run nodes kind.Oper node.children))) its refl)) h)))

  -- ---- upward

  none_bound : (n : ℕ) → all_at nodes rounds n ≡ [] → IsBound (all_at nodes rounds n) → ⊥
  none_bound n e h = true≢false (sym (sym (ap (λ (bs : Bindings). has bs p name) e) ∙ h))

  up_from : (m : ℕ) (node : Node) → slice_get nodes m ≡ Some node → (c : ℕ) → IsIn c node.children → IsBound (all_at nodes rounds c) → (IsBound (all_at nodes rounds m) → InFile) → InFile
  up_from m node at c child h more = elim (cases_Bool (is_plain node.kind)) [
    | inl plain ↦ absurd (none_bound c (of_all (λ (c : ℕ). all_at nodes rounds c ≡ []) c node.children (none_below_each nodes rounds parsed.tree m node at (form_at m node at) plain) child) h)
    | inr not_plain ↦ by node.kind refl (above node.kind not_plain)
  ]
    where
      below : IsBound (all node.children)
      below = in_children c node.children child h

      by : (k : NodeKind) → node.kind ≡ k → IsAbove k → InFile
      by k is (it_binds _ b) = more (subst IsBound (sym (whole_at t nodes rounds parsed are m node at (ap binds is ∙ b))) (right (declared_by nodes rounds m) (all node.children) below))
      by _ is a_routine_above = routine_up m node at is below
      by _ is a_cluster_above = cluster_up m node at is below
      by _ is a_module_above = equates_up m node at is below
      by _ is a_set_above = set_equates_up m node at is below

  up_node : (c : ℕ) (its : Option Node) → slice_get nodes c ≡ its → ((m : ℕ) → c < m → IsBound (all_at nodes rounds m) → InFile) → IsBound (all_at nodes rounds c) → InFile
  up_node c None at more h = absurd (none_bound c (none_at nodes rounds c (ap binds (ap kind_of at))) h)
  up_node c (Some node) at more h = elim (cases_lt c last) [
    | inl less ↦
        (let q : HasParent nodes c = has_parent nodes parsed.order c less in
        up_from q.parent q.node q.at c q.child h (more q.parent (child_before nodes parsed.tree q.parent q.node q.at (form_at q.parent q.node q.at) c q.child)))
    | inr beyond ↦
        (let l : c < length nodes = slice_get_within nodes c node at in
        let same : c ≡ last = omega (arith, l, beyond) in
        let file : kind_at nodes c ≡ kind.File = ap (kind_at nodes) same ∙ ap kind_of parsed.file.1 ∙ parsed.file.2 in
        absurd (none_bound c (none_at nodes rounds c (ap binds file)) h))
  ]

  up_none : (c : ℕ) (its : Option Node) → slice_get nodes c ≡ its → length nodes ≤ c → IsBound (all_at nodes rounds c) → InFile
  up_none c None at l h = absurd (none_bound c (none_at nodes rounds c (ap binds (ap kind_of at))) h)
  up_none c (Some node) at l h = absurd (let less : c < length nodes = slice_get_within nodes c node at in omega (arith, l, less))

  up_to : (steps c : ℕ) → length nodes ≤ c + steps → IsBound (all_at nodes rounds c) → InFile
  up_to zero c l h = up_none c (slice_get nodes c) refl (omega (arith, l)) h
  up_to (suc steps) c l h = up_node c (slice_get nodes c) refl (λ m less b. up_to steps m (omega (arith, l, less)) b) h

  -- what is bound below a node is bound by the file
  pub up : (c : ℕ) → IsBound (all_at nodes rounds c) → InFile
  up c h = up_to (length nodes) c (omega arith) h

  -- what a node declares that binds, it binds in the file
  pub own_up : (c : ℕ) (node : Node) → slice_get nodes c ≡ Some node → binds node.kind ≡ true → IsBound (declared_by nodes rounds c) → InFile
  own_up c node at b h = up c (subst IsBound (sym (whole_at t nodes rounds parsed are c node at b)) (left (declared_by nodes rounds c) (all node.children) h))
