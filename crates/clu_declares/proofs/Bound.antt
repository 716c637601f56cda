-- What each node declares is bound by its file.
use Rattle.std.proofs.Common.{◌≡◌, ◌∙◌, ℕ, zero, suc, ◌+◌, ◌&&◌, ◌||◌, ◌==◌, Bool, true, false, List, [], ◌∷◌, ◌++◌, length, take, Option, Some, None, slice_get, refl, ap, ap₂, sym, subst, inl, inr}
use Rattle.std.specs.Prelude.{bytes_eq}
use Rattle.std.specs.List.{AllByRecursion}
use Rattle.std.proofs.lemmas.Bool.{true≢false, cases_Bool}
use Rattle.clu_base.proofs.Bools.{second_true}
use Rattle.clu_tree.specs.declared.node.Node.{Node}
use Rattle.clu_tree.specs.declared.node.NodeKind.{NodeKind}
use Rattle.clu_tree.specs.declared.node.NodeKind.TheVariants as kind
use Rattle.clu_parser.specs.Trees.{Text}
use Rattle.clu_syntax.specs.declared.round.Round.{Round}
use Rattle.clu_syntax.specs.Kinds.{kind_of, kind_at}
use Rattle.clu_syntax.specs.Rounds.{AreRounds, round_at}
use Rattle.clu_syntax.specs.Splits.{is_of, run, after_run, leading, first_name}
use Rattle.clu_syntax.specs.Syntax.{Identifier, TypeExpression, Parameter, Routine, TypeSet, Module}
use Rattle.clu_syntax.specs.Items.{Item, parameters_at, equates_at}
use Rattle.clu_syntax.specs.Nodes.{before, item_at, type_set_of}
use Rattle.clu_parts.proofs.Fitting.{AreBefore, children_before}
use Rattle.clu_meaning.specs.Scoping.{is_module, is_routine_of_cluster, is_own_of_cluster, is_type_parameter, Bindings, binding, of_equates, of_owns, of_names, of_parameters, of_routine, of_routines, of_module}
use Rattle.clu_checking.specs.Files.{variable_number, of_type_set, parameters_round}
use Rattle.clu_names.specs.Scopes.{kind_at_parent}
use Rattle.clu_settle.specs.Parameters.{parent_round, is_of_module, is_parameter}
use Rattle.clu_declares.specs.Declares.{IsParsed, numbered, of_parameter, of_parm, of_set_variable, has, declared_in, declared_by}
use Rattle.clu_declares.proofs.Around.{IsAround}
use Rattle.clu_declares.proofs.Firsts.{has_left, has_right}
use Rattle.clu_declares.proofs.Below.{binds, same_kind, before_is, item_there}
use Rattle.clu_declares.proofs.Tops.{cluster_routines}
use Rattle.clu_declares.proofs.Facts.{around_at, RoutineIs, routine_at, ClusterIs, module_at}
use Rattle.clu_declares.proofs.Parents.{IsIn, of_all, in_split, HasParent, round_parm, round_routine}
use Rattle.clu_declares.proofs.Haves.{IsBound, InFile, form_at, module_up, parent_of, is_last, routine_in, cluster_in, its_kind, in_routines, all_parts_before, among_routines, module_of, cluster_facts, routines_up, set_up, own_up}

-- which parameters these are does not matter
names_same : (p : ℕ) (name : Identifier) (n : ℕ) (t u : Option TypeExpression) (k j : ℕ) (names : List Identifier) → has (of_names n t k names) p name ≡ has (of_names n u j names) p name
names_same p name n t u k j [] = refl
names_same p name n t u k j (x ∷ names) = ap (λ (b : Bool). (n == p && bytes_eq x name) || b) (names_same p name n t u (suc k) (suc j) names)

-- what declares a name of its own
abbrev is_named : NodeKind → Bool
is_named kind.Parm = true
is_named kind.TypeSet = true
is_named kind.Routine = true
is_named kind.Cluster = true
is_named _ = false

none_declared : (nodes : List Node) (rounds : List Round) (k : NodeKind) (n : ℕ) → binds k ≡ false → is_named k ≡ false → declared_in nodes rounds k n ≡ []
none_declared nodes rounds kind.Equate n b e = absurd (true≢false b)
none_declared nodes rounds kind.Decl n b e = absurd (true≢false b)
none_declared nodes rounds kind.Init n b e = absurd (true≢false b)
none_declared nodes rounds kind.Own n b e = absurd (true≢false b)
none_declared nodes rounds kind.TagArm n b e = absurd (true≢false b)
none_declared nodes rounds kind.Others n b e = absurd (true≢false b)
none_declared nodes rounds kind.Parm n b e = absurd (true≢false e)
none_declared nodes rounds kind.TypeSet n b e = absurd (true≢false e)
none_declared nodes rounds kind.Routine n b e = absurd (true≢false e)
none_declared nodes rounds kind.Cluster n b e = absurd (true≢false e)
none_declared nodes rounds _ n b e = refl

module _ (t : Text) (nodes : List Node) (rounds : List Round) (parsed : IsParsed t nodes) (are : AreRounds nodes rounds) (p : ℕ) (name : Identifier) where
  abbrev Bound : Bindings → Type 0
  Bound = IsBound t nodes rounds parsed are p name

  abbrev Filed : Type 0
  Filed = InFile t nodes rounds parsed are p name

  left : (xs ys : Bindings) → Bound xs → Bound (xs ++ ys)
  left xs ys h = has_left xs ys p name h

  right : (xs ys : Bindings) → Bound ys → Bound (xs ++ ys)
  right xs ys h = has_right xs ys p name h

  -- ---- parameters

  in_parameters : (d c k : ℕ) (cs : List ℕ) → AreBefore d cs → IsIn c cs → Bound (of_parameter 1 (item_at nodes c).parameter) → Bound (of_parameters k (parameters_at (before d (item_at nodes)) cs))
  in_parameters d c k [] l i h = absurd i
  in_parameters d c k (x ∷ cs) l (inl e) h =
      left (of_parameter k (before d (item_at nodes) x).parameter) (of_parameters (k + length (before d (item_at nodes) x).parameter.names) (parameters_at (before d (item_at nodes)) cs))
      (names_same p name (before d (item_at nodes) x).parameter.node (before d (item_at nodes) x).parameter.type (before d (item_at nodes) x).parameter.type k 1 (before d (item_at nodes) x).parameter.names
      ∙ subst (λ (i : Item). Bound (of_parameter 1 i.parameter)) (sym (before_is nodes d x l.0)) (subst (λ (x : ℕ). Bound (of_parameter 1 (item_at nodes x).parameter)) (sym e) h))
  in_parameters d c k (x ∷ cs) l (inr i) h =
      right (of_parameter k (before d (item_at nodes) x).parameter) (of_parameters (k + length (before d (item_at nodes) x).parameter.names) (parameters_at (before d (item_at nodes)) cs))
      (in_parameters d c (k + length (before d (item_at nodes) x).parameter.names) cs l.1 i h)

  among_parms : (c : ℕ) (cs : List ℕ) → kind_at nodes c ≡ kind.Parm → AllByRecursion (λ (c : ℕ). is_of kind.Parm (kind_at nodes c) ≡ false) (after_run nodes kind.Parm cs) → IsIn c cs → IsIn c (run nodes kind.Parm cs)
  among_parms c cs e others i = elim (in_split c (leading nodes kind.Parm cs) cs i) [
    | inl front ↦ front
    | inr behind ↦ absurd (true≢false (sym (ap (is_of kind.Parm) e) ∙ of_all (λ (c : ℕ). is_of kind.Parm (kind_at nodes c) ≡ false) c (after_run nodes kind.Parm cs) others behind))
  ]

  before_run : (d : ℕ) (m : ℕ) (cs : List ℕ) → AreBefore d cs → AreBefore d (take m cs)
  before_run d zero cs l = tt
  before_run d (suc m) [] l = tt
  before_run d (suc m) (c ∷ cs) l = (l.0, before_run d m cs l.1)

  bound_parameters : (d : ℕ) (node : Node) (c : ℕ) → slice_get nodes d ≡ Some node → kind_at nodes c ≡ kind.Parm → AllByRecursion (λ (c : ℕ). is_of kind.Parm (kind_at nodes c) ≡ false) (after_run nodes kind.Parm node.children) → IsIn c node.children → Bound (of_parameter 1 (item_at nodes c).parameter) → (ps : List Parameter) → ps ≡ parameters_at (before d (item_at nodes)) (run nodes kind.Parm node.children) → Bound (of_parameters 1 ps)
  bound_parameters d node c at e others i h ps same =
      subst (λ (ps : List Parameter). Bound (of_parameters 1 ps)) (sym same)
      (in_parameters d c 1 (run nodes kind.Parm node.children) (before_run d (leading nodes kind.Parm node.children) node.children (children_before nodes parsed.tree d node at)) (among_parms c node.children e others i) h)

  module _ (c : ℕ) (node : Node) (at : slice_get nodes c ≡ Some node) (is : node.kind ≡ kind.Module) where
    abbrev last : ℕ
    last = (module_at t nodes rounds parsed are c node at is).last

    abbrev leading_equates : Bindings
    leading_equates = of_equates (module_at t nodes rounds parsed are c node at is).equates

    routine_name_up : kind_at nodes last ≡ kind.Routine → Bound (binding (item_at nodes last).routine.node is_module (item_at nodes last).routine.name ∷ []) → Filed
    routine_name_up k h =
        module_up t nodes rounds parsed are p name c (its_kind t nodes rounds parsed are p name c node at is)
        (subst (λ (m : Module). Bound (of_module m)) (sym (routine_in t nodes rounds parsed are p name c node at is k))
        (left (binding (item_at nodes last).routine.node is_module (item_at nodes last).routine.name ∷ leading_equates ++ of_parameters 1 (item_at nodes last).routine.parameters) (of_routine (item_at nodes last).routine)
        (left (binding (item_at nodes last).routine.node is_module (item_at nodes last).routine.name ∷ leading_equates) (of_parameters 1 (item_at nodes last).routine.parameters)
        (left (binding (item_at nodes last).routine.node is_module (item_at nodes last).routine.name ∷ []) leading_equates h))))

    routine_parameters_up : kind_at nodes last ≡ kind.Routine → Bound (of_parameters 1 (item_at nodes last).routine.parameters) → Filed
    routine_parameters_up k h =
        module_up t nodes rounds parsed are p name c (its_kind t nodes rounds parsed are p name c node at is)
        (subst (λ (m : Module). Bound (of_module m)) (sym (routine_in t nodes rounds parsed are p name c node at is k))
        (left (binding (item_at nodes last).routine.node is_module (item_at nodes last).routine.name ∷ leading_equates ++ of_parameters 1 (item_at nodes last).routine.parameters) (of_routine (item_at nodes last).routine)
        (right (binding (item_at nodes last).routine.node is_module (item_at nodes last).routine.name ∷ leading_equates) (of_parameters 1 (item_at nodes last).routine.parameters) h)))

    cluster_front_up : kind_at nodes last ≡ kind.Cluster → Bound (binding (item_at nodes last).cluster.node is_module (item_at nodes last).cluster.name ∷ leading_equates ++ of_parameters 1 (item_at nodes last).cluster.parameters) → Filed
    cluster_front_up k h =
        let front : Bindings = binding (item_at nodes last).cluster.node is_module (item_at nodes last).cluster.name ∷ leading_equates ++ of_parameters 1 (item_at nodes last).cluster.parameters in
        module_up t nodes rounds parsed are p name c (its_kind t nodes rounds parsed are p name c node at is)
        (subst (λ (m : Module). Bound (of_module m)) (sym (cluster_in t nodes rounds parsed are p name c node at is k))
        (left (front ++ of_equates (item_at nodes last).cluster.equates ++ of_owns is_own_of_cluster (item_at nodes last).cluster.owns) (of_routines (item_at nodes last).cluster.routines)
        (left (front ++ of_equates (item_at nodes last).cluster.equates) (of_owns is_own_of_cluster (item_at nodes last).cluster.owns)
        (left front (of_equates (item_at nodes last).cluster.equates) h))))

    cluster_name_up : kind_at nodes last ≡ kind.Cluster → Bound (binding (item_at nodes last).cluster.node is_module (item_at nodes last).cluster.name ∷ []) → Filed
    cluster_name_up k h =
        cluster_front_up k (left (binding (item_at nodes last).cluster.node is_module (item_at nodes last).cluster.name ∷ leading_equates) (of_parameters 1 (item_at nodes last).cluster.parameters)
        (left (binding (item_at nodes last).cluster.node is_module (item_at nodes last).cluster.name ∷ []) leading_equates h))

    cluster_parameters_up : kind_at nodes last ≡ kind.Cluster → Bound (of_parameters 1 (item_at nodes last).cluster.parameters) → Filed
    cluster_parameters_up k h = cluster_front_up k (right (binding (item_at nodes last).cluster.node is_module (item_at nodes last).cluster.name ∷ leading_equates) (of_parameters 1 (item_at nodes last).cluster.parameters) h)

  last_is : (q : ℕ) (node : Node) (at : slice_get nodes q ≡ Some node) (is : node.kind ≡ kind.Module) (d : ℕ) (k : NodeKind) → kind_at nodes d ≡ k → is_of kind.Equate k ≡ false → IsIn d node.children → (module_at t nodes rounds parsed are q node at is).last ≡ d
  last_is q node at is d k e other i = is_last t nodes rounds parsed are p name q node at is d k e other i

  -- ---- routines

  module _ (d : ℕ) (node : Node) (at : slice_get nodes d ≡ Some node) (is : node.kind ≡ kind.Routine) where
    its_routine : kind_at nodes d ≡ kind.Routine
    its_routine = ap kind_of at ∙ is

    routine_facts : RoutineIs t nodes rounds parsed are d node
    routine_facts = routine_at t nodes rounds parsed are d node at is

    of_module_of : (q : HasParent nodes d) → q.node.kind ≡ kind.Module → Bound (binding d is_module (item_at nodes d).routine.name ∷ []) → Filed
    of_module_of q m h =
        let same : (module_at t nodes rounds parsed are q.parent q.node q.at m).last ≡ d = last_is q.parent q.node q.at m d kind.Routine its_routine refl q.child in
        routine_name_up q.parent q.node q.at m (ap (kind_at nodes) same ∙ its_routine)
        (subst (λ (n : ℕ). Bound (binding (item_at nodes n).routine.node is_module (item_at nodes n).routine.name ∷ [])) (sym same)
        (subst (λ (n : ℕ). Bound (binding n is_module (item_at nodes d).routine.name ∷ [])) (sym routine_facts.itself) h))

    of_cluster_of : (q : HasParent nodes d) → q.node.kind ≡ kind.Cluster → Bound (binding d is_module (item_at nodes d).routine.name ∷ []) → Filed
    of_cluster_of q m h =
        let facts : ClusterIs t nodes rounds parsed are q.parent q.node = cluster_facts t nodes rounds parsed are p name q.parent q.node q.at m in
        let i : IsIn d (cluster_routines nodes rounds q.parent q.node.children) = among_routines t nodes rounds parsed are p name q.parent q.node d q.at facts.parts its_routine q.child in
        routines_up t nodes rounds parsed are p name q.parent q.node q.at m (subst (λ (rs : List Routine). Bound (of_routines rs)) (sym facts.routines)
        (in_routines t nodes rounds parsed are p name q.parent d (cluster_routines nodes rounds q.parent q.node.children) (all_parts_before t nodes rounds parsed are p name q.parent (cluster_routines nodes rounds q.parent q.node.children) facts.parts.routines) i
        (left (binding (item_at nodes d).routine.node is_routine_of_cluster (item_at nodes d).routine.name ∷ []) (of_routine (item_at nodes d).routine)
        (subst (λ (n : ℕ). Bound (binding n is_routine_of_cluster (item_at nodes d).routine.name ∷ [])) (sym routine_facts.itself) h))))

    routine_name_bound : Bound (binding d is_module (item_at nodes d).routine.name ∷ []) → Filed
    routine_name_bound h = by (parent_of t nodes rounds parsed are p name d kind.Routine its_routine refl)
      where
        by : HasParent nodes d → Filed
        by q = elim (cases_Bool (is_of kind.Module q.node.kind)) [
          | inl m ↦ of_module_of q (same_kind kind.Module q.node.kind m) h
          | inr other ↦ of_cluster_of q (same_kind kind.Cluster q.node.kind (second_true (is_of kind.Module q.node.kind) (is_of kind.Cluster q.node.kind) (round_routine nodes parsed.tree q.parent q.node q.at (form_at t nodes rounds parsed are p name q.parent q.node q.at) d q.child its_routine) other)) h
        ]

  -- ---- clusters

  cluster_bound : (d : ℕ) (node : Node) → slice_get nodes d ≡ Some node → node.kind ≡ kind.Cluster → Bound (binding d is_module (item_at nodes d).cluster.name ∷ []) → Filed
  cluster_bound d node at is h =
      let e : kind_at nodes d ≡ kind.Cluster = ap kind_of at ∙ is in
      let m = module_of t nodes rounds parsed are p name d e in
      let same : (module_at t nodes rounds parsed are m.0.parent m.0.node m.0.at m.1).last ≡ d = last_is m.0.parent m.0.node m.0.at m.1 d kind.Cluster e refl m.0.child in
      let facts : ClusterIs t nodes rounds parsed are d node = cluster_facts t nodes rounds parsed are p name d node at is in
      cluster_name_up m.0.parent m.0.node m.0.at m.1 (ap (kind_at nodes) same ∙ e)
      (subst (λ (n : ℕ). Bound (binding (item_at nodes n).cluster.node is_module (item_at nodes n).cluster.name ∷ [])) (sym same)
      (subst (λ (n : ℕ). Bound (binding n is_module (item_at nodes d).cluster.name ∷ [])) (sym facts.itself) h))

  -- ---- parameters of a module

  parm_of_routine : (c : ℕ) → kind_at nodes c ≡ kind.Parm → is_parameter nodes rounds c ≡ true → (q : HasParent nodes c) → q.node.kind ≡ kind.Routine → Bound (of_parameter 1 (item_at nodes c).parameter) → Filed
  parm_of_routine c e in_module q is h = by (parent_of t nodes rounds parsed are p name q.parent kind.Routine its refl)
    where
      its : kind_at nodes q.parent ≡ kind.Routine
      its = ap kind_of q.at ∙ is

      bound : Bound (of_parameters 1 (item_at nodes q.parent).routine.parameters)
      bound =
          let r : RoutineIs t nodes rounds parsed are q.parent q.node = routine_at t nodes rounds parsed are q.parent q.node q.at is in
          bound_parameters q.parent q.node c q.at e r.others q.child h (item_at nodes q.parent).routine.parameters r.parameters

      outer_parent : (n : ℕ) (x : HasParent nodes n) → (round_at rounds n).parent ≡ Some x.parent
      outer_parent n x = (of_all (IsAround rounds x.parent x.node) n x.node.children (around_at t nodes rounds parsed are x.parent x.node x.at) x.child).parent

      by : HasParent nodes q.parent → Filed
      by m = elim (cases_Bool (is_of kind.Module m.node.kind)) [
        | inl y ↦
            (let is_module_node : m.node.kind ≡ kind.Module = same_kind kind.Module m.node.kind y in
            let same : (module_at t nodes rounds parsed are m.parent m.node m.at is_module_node).last ≡ q.parent = last_is m.parent m.node m.at is_module_node q.parent kind.Routine its refl m.child in
            routine_parameters_up m.parent m.node m.at is_module_node (ap (kind_at nodes) same ∙ its) (subst (λ (n : ℕ). Bound (of_parameters 1 (item_at nodes n).routine.parameters)) (sym same) bound))
        | inr other ↦
            (let cluster : m.node.kind ≡ kind.Cluster = same_kind kind.Cluster m.node.kind (second_true (is_of kind.Module m.node.kind) (is_of kind.Cluster m.node.kind) (round_routine nodes parsed.tree m.parent m.node m.at (form_at t nodes rounds parsed are p name m.parent m.node m.at) q.parent m.child its) other) in
            let outer : kind_at_parent nodes (parent_round rounds (round_at rounds c).parent) ≡ kind.Cluster = ap (λ (o : Option ℕ). kind_at_parent nodes (parent_round rounds o)) (outer_parent c q) ∙ ap (kind_at_parent nodes) (outer_parent q.parent m) ∙ ap kind_of m.at ∙ cluster in
            absurd (true≢false (sym in_module ∙ ap₂ is_of_module e outer)))
      ]

  parm_of_cluster : (c : ℕ) → kind_at nodes c ≡ kind.Parm → (q : HasParent nodes c) → q.node.kind ≡ kind.Cluster → Bound (of_parameter 1 (item_at nodes c).parameter) → Filed
  parm_of_cluster c e q is h =
      let its : kind_at nodes q.parent ≡ kind.Cluster = ap kind_of q.at ∙ is in
      let r : ClusterIs t nodes rounds parsed are q.parent q.node = cluster_facts t nodes rounds parsed are p name q.parent q.node q.at is in
      let bound : Bound (of_parameters 1 (item_at nodes q.parent).cluster.parameters) = bound_parameters q.parent q.node c q.at e r.others q.child h (item_at nodes q.parent).cluster.parameters r.parameters in
      let m = module_of t nodes rounds parsed are p name q.parent its in
      let same : (module_at t nodes rounds parsed are m.0.parent m.0.node m.0.at m.1).last ≡ q.parent = last_is m.0.parent m.0.node m.0.at m.1 q.parent kind.Cluster its refl m.0.child in
      cluster_parameters_up m.0.parent m.0.node m.0.at m.1 (ap (kind_at nodes) same ∙ its) (subst (λ (n : ℕ). Bound (of_parameters 1 (item_at nodes n).cluster.parameters)) (sym same) bound)

  parm_bound : (c : ℕ) → kind_at nodes c ≡ kind.Parm → is_parameter nodes rounds c ≡ true → Bound (of_parameter 1 (item_at nodes c).parameter) → Filed
  parm_bound c e in_module h = by (parent_of t nodes rounds parsed are p name c kind.Parm e refl)
    where
      by : HasParent nodes c → Filed
      by q = elim (cases_Bool (is_of kind.Routine q.node.kind)) [
        | inl r ↦ parm_of_routine c e in_module q (same_kind kind.Routine q.node.kind r) h
        | inr other ↦ parm_of_cluster c e q (same_kind kind.Cluster q.node.kind (second_true (is_of kind.Routine q.node.kind) (is_of kind.Cluster q.node.kind) (round_parm nodes parsed.tree q.parent q.node q.at (form_at t nodes rounds parsed are p name q.parent q.node q.at) c q.child e) other)) h
      ]

  -- ---- type sets

  set_variable_up : (n : ℕ) (node : Node) → slice_get nodes n ≡ Some node → node.kind ≡ kind.TypeSet → Bound (of_set_variable (variable_number nodes rounds n) n (item_at nodes n).type_set) → Filed
  set_variable_up n node at is h =
      let its : (item_at nodes n).type_set ≡ type_set_of (before n (item_at nodes)) nodes n node kind.TypeSet = ap (λ (i : Item). i.type_set) (item_there nodes n node at) ∙ ap (type_set_of (before n (item_at nodes)) nodes n node) is in
      set_up t nodes rounds parsed are p name n node at is (subst (λ (s : TypeSet). Bound (of_type_set (variable_number nodes rounds n) s)) (sym its)
      (left (binding n (is_type_parameter (variable_number nodes rounds n)) (first_name node.names) ∷ []) (of_equates (equates_at (before n (item_at nodes)) (run nodes kind.Equate (after_run nodes kind.Oper node.children))))
      (subst (λ (s : TypeSet). Bound (of_set_variable (variable_number nodes rounds n) n s)) its h)))

  -- ---- any node

  nothing_declared : (bs : Bindings) → bs ≡ [] → Bound bs → Filed
  nothing_declared bs e h = absurd (true≢false (sym (sym (ap (λ (bs : Bindings). has bs p name) e) ∙ h)))

  parm_by : (n : ℕ) → kind_at nodes n ≡ kind.Parm → (b : Bool) → is_parameter nodes rounds n ≡ b → Bound (of_parm b (numbered 1 (parameters_round nodes (round_at rounds n).unit) n) (item_at nodes n).parameter) → Filed
  parm_by n e true is h =
      parm_bound n e is
      (sym (names_same p name (item_at nodes n).parameter.node (item_at nodes n).parameter.type (item_at nodes n).parameter.type (numbered 1 (parameters_round nodes (round_at rounds n).unit) n) 1 (item_at nodes n).parameter.names) ∙ h)
  parm_by n e false is h = absurd (true≢false (sym h))

  by_kind : (n : ℕ) (node : Node) → slice_get nodes n ≡ Some node → (k : NodeKind) → node.kind ≡ k → Bound (declared_in nodes rounds k n) → Bound (declared_by nodes rounds n) → Filed
  by_kind n node at kind.Parm is h own = parm_by n (ap kind_of at ∙ is) (is_parameter nodes rounds n) refl h
  by_kind n node at kind.Routine is h own = routine_name_bound n node at is h
  by_kind n node at kind.Cluster is h own = cluster_bound n node at is h
  by_kind n node at kind.TypeSet is h own = set_variable_up n node at is h
  by_kind n node at k is h own = elim (cases_Bool (binds k)) [
    | inl b ↦ own_up t nodes rounds parsed are p name n node at (ap binds is ∙ b) own
    | inr b ↦ nothing_declared (declared_in nodes rounds k n) (none_declared nodes rounds k n b refl) h
  ]

  pub bound_by : (n : ℕ) (its : Option Node) → slice_get nodes n ≡ its → Bound (declared_by nodes rounds n) → Filed
  bound_by n None at h = nothing_declared (declared_by nodes rounds n) (ap (λ (k : NodeKind). declared_in nodes rounds k n) (ap kind_of at)) h
  bound_by n (Some node) at h = by_kind n node at node.kind refl (sym (ap (λ (k : NodeKind). has (declared_in nodes rounds k n) p name) (ap kind_of at)) ∙ h) h
