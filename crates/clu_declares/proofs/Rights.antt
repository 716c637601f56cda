-- Each binding of a file is what its node says: first below each node, then of routines, clusters, modules and type sets.
use Rattle.std.proofs.Common.{◌≡◌, ◌∙◌, ℕ, zero, suc, ◌+◌, ◌<◌, ◌==◌, Bool, true, false, cond, if◌then◌else◌, List, [], ◌∷◌, ◌++◌, length, Option, Some, None, slice_get, refl, ap, ap₂, sym, subst, inl, inr, arith, append_assoc, eq-eqb, eqb-true}
use Rattle.std.specs.Prelude.{filter, flat_map}
use Rattle.std.specs.List.{AllByRecursion}
use Rattle.std.proofs.lemmas.Bool.{cases_Bool}
use Rattle.clu_tree.specs.declared.node.Node.{Node}
use Rattle.clu_tree.specs.declared.node.NodeKind.{NodeKind}
use Rattle.clu_tree.specs.declared.node.NodeKind.TheVariants as kind
use Rattle.clu_parser.specs.Trees.{Text}
use Rattle.clu_syntax.specs.declared.round.Round.{Round}
use Rattle.clu_syntax.specs.Kinds.{kind_of, kind_at}
use Rattle.clu_syntax.specs.Rounds.{AreRounds, round_at, unit_in}
use Rattle.clu_syntax.specs.Splits.{is_of, run, after_run, leading, first_name}
use Rattle.clu_syntax.specs.Syntax.{Parameter, Routine, TypeSet, Module, a_routine, a_cluster}
use Rattle.clu_syntax.specs.Items.{Item, parameters_at, routines_at, modules_at, equates_at}
use Rattle.clu_syntax.specs.Nodes.{before, item_at, file_of, type_set_of}
use Rattle.clu_parts.proofs.Fitting.{AreParts, AreBefore, children_before}
use Rattle.clu_meaning.specs.Scoping.{is_routine_of_cluster, is_module, is_own_of_cluster, is_type_parameter, Bindings, binding, of_equates, of_parameters, of_owns, of_routine, of_routines, of_module, of_modules}
use Rattle.clu_checking.specs.Files.{parameters_in, parameters_round, variable_number, of_type_set, is_type_set_node, of_type_sets, numbers, scope_in}
use Rattle.clu_names.specs.Scopes.{kind_at_parent}
use Rattle.clu_settle.specs.Parameters.{parent_round, is_of_module}
use Rattle.clu_declares.specs.Declares.{IsParsed, numbered, of_parameter, of_parm, of_set_variable, routine_meaning, outer_kind, declared_in, declared_by}
use Rattle.clu_declares.proofs.Around.{IsAround}
use Rattle.clu_declares.proofs.Firsts.{AreAt, IsRight, right_none, right_both, right_own}
use Rattle.clu_declares.proofs.Below.{binds, same_kind, before_is, item_there, all_at, all_in, all_nil, all_more, none_at}
use Rattle.clu_declares.proofs.Owned.{declared_at_node, numbered_first, numbered_later, parameter_node}
use Rattle.clu_declares.proofs.Tops.{cluster_routines}
use Rattle.clu_declares.proofs.Facts.{There, there, all_take, AreApart, apart_take, are_apart, top, whole_at, around_at, outer_of, RoutineIs, routine_at, ClusterIs, cluster_at, set_bound, ModuleIs, module_at, root_parts, no_routine, run_kinds, around_routines}

module _ (t : Text) (nodes : List Node) (rounds : List Round) (parsed : IsParsed t nodes) (are : AreRounds nodes rounds) where
  abbrev said : ℕ → Bindings
  said = declared_by nodes rounds

  abbrev Right : Bindings → Type 0
  Right = IsRight said

  abbrev all : List ℕ → Bindings
  all = all_in nodes rounds

  said_is : (k : NodeKind) (n : ℕ) → kind_at nodes n ≡ k → said n ≡ declared_in nodes rounds k n
  said_is k n e = ap (λ (k : NodeKind). declared_in nodes rounds k n) e

  both : (xs ys : Bindings) → Right xs → Right ys → Right (xs ++ ys)
  both = right_both said

  -- ---- below nodes

  right_list : (m : ℕ) → ((c : ℕ) → c < m → Right (all_at nodes rounds c)) → (cs : List ℕ) → AreBefore m cs → Right (all cs)
  right_list m f [] l = subst Right (sym (all_nil nodes rounds)) (right_none said)
  right_list m f (c ∷ cs) l = subst Right (sym (all_more nodes rounds c cs)) (both (all_at nodes rounds c) (all cs) (f c l.0) (right_list m f cs l.1))

  right_here : (n : ℕ) (its : Option Node) → slice_get nodes n ≡ its → ((c : ℕ) → c < n → Right (all_at nodes rounds c)) → Right (all_at nodes rounds n)
  right_here n None at f = subst Right (sym (none_at nodes rounds n (ap binds (ap kind_of at)))) (right_none said)
  right_here n (Some node) at f = elim (cases_Bool (binds node.kind)) [
    | inl b ↦
        subst Right (sym (whole_at t nodes rounds parsed are n node at b))
        (both (said n) (all node.children) (right_own said n (said n) (declared_at_node nodes rounds n node at) refl) (right_list n f node.children (children_before nodes parsed.tree n node at)))
    | inr b ↦ subst Right (sym (none_at nodes rounds n (ap binds (ap kind_of at) ∙ b))) (right_none said)
  ]

  right_to : (m n : ℕ) → n < m → Right (all_at nodes rounds n)
  right_to zero n l = absurd (omega (arith, l))
  right_to (suc m) n l = right_here n (slice_get nodes n) refl (λ c less. right_to m c (omega (arith, l, less)))

  right_children : (n : ℕ) (node : Node) → slice_get nodes n ≡ Some node → Right (all node.children)
  right_children n node at = right_list n (λ c l. right_to n c l) node.children (children_before nodes parsed.tree n node at)

  -- ---- parameters

  abbrev params : ℕ → List ℕ → List Parameter
  params d cs = parameters_at (before d (item_at nodes)) cs

  abbrev AreNumbered : ℕ → List Parameter → ℕ → List ℕ → Type 0
  AreNumbered d all k cs = AllByRecursion (λ (x : ℕ). numbered 1 all x ≡ numbered k (params d cs) x) cs

  abbrev AreOf : List Parameter → List ℕ → Type 0
  AreOf all cs = AllByRecursion (λ (x : ℕ). parameters_round nodes (round_at rounds x).unit ≡ all) cs

  numbered_tail : (d : ℕ) (all : List Parameter) (k : ℕ) (p : Parameter) (c : ℕ) (cs xs : List ℕ) → p.node ≡ c → AllByRecursion (λ (y : ℕ). c ≡ y → ⊥) xs →
      AllByRecursion (λ (x : ℕ). numbered 1 all x ≡ numbered k (p ∷ params d cs) x) xs → AllByRecursion (λ (x : ℕ). numbered 1 all x ≡ numbered (k + length p.names) (params d cs) x) xs
  numbered_tail d all k p c cs [] is apart ns = tt
  numbered_tail d all k p c cs (x ∷ xs) is apart ns = (ns.0 ∙ numbered_later k p (params d cs) x (λ e. apart.0 (sym is ∙ e)), numbered_tail d all k p c cs xs is apart.1 ns.1)

  -- they stand in a module
  abbrev AreOfModule : List ℕ → Type 0
  AreOfModule cs = AllByRecursion (λ (x : ℕ). kind_at_parent nodes (parent_round rounds (round_at rounds x).parent) ≡ kind.Module) cs

  right_parameters : (d : ℕ) (all : List Parameter) (k : ℕ) (cs : List ℕ) → AreParts nodes (is_of kind.Parm) d cs → AreOfModule cs → AreApart cs → AreOf all cs → AreNumbered d all k cs → Right (of_parameters k (params d cs))
  right_parameters d all k [] ps ms apart us ns = right_none said
  right_parameters d all k (c ∷ cs) ps ms apart us ns =
      let its : kind_at nodes c ≡ kind.Parm = same_kind kind.Parm (kind_at nodes c) ps.0.1 in
      let th : There nodes c kind.Parm = there nodes c kind.Parm refl its in
      let p : Parameter = (before d (item_at nodes) c).parameter in
      let same : (before d (item_at nodes) c).parameter ≡ (item_at nodes c).parameter = ap (λ (i : Item). i.parameter) (before_is nodes d c ps.0.0) in
      let at : (before d (item_at nodes) c).parameter.node ≡ c = ap (λ (p : Parameter). p.node) same ∙ parameter_node nodes rounds c th.node th.at th.is in
      let number : numbered 1 all c ≡ k = ns.0 ∙ numbered_first k (before d (item_at nodes) c).parameter (params d cs) c at in
      let own : of_parameter k (before d (item_at nodes) c).parameter ≡ said c =
      ap (of_parameter k) same
      ∙ ap (λ (j : ℕ). of_parameter j (item_at nodes c).parameter) (sym (ap (λ (qs : List Parameter). numbered 1 qs c) us.0 ∙ number))
      ∙ ap (λ (b : Bool). of_parm b (numbered 1 (parameters_round nodes (round_at rounds c).unit) c) (item_at nodes c).parameter) (sym (ap₂ is_of_module its ms.0))
      ∙ sym (said_is kind.Parm c its) in
      both (of_parameter k (before d (item_at nodes) c).parameter) (of_parameters (k + length (before d (item_at nodes) c).parameter.names) (params d cs))
      (right_own said c (of_parameter k (before d (item_at nodes) c).parameter) (subst (AreAt c) (sym own) (declared_at_node nodes rounds c th.node th.at)) own)
      (right_parameters d all (k + length (before d (item_at nodes) c).parameter.names) cs ps.1 ms.1 apart.1 us.1 (numbered_tail d all k (before d (item_at nodes) c).parameter c cs cs at apart.0 ns.1))

  -- of a definition d in the module c
  same_numbers : (ps : List Parameter) (xs : List ℕ) → AllByRecursion (λ (x : ℕ). numbered 1 ps x ≡ numbered 1 ps x) xs
  same_numbers ps [] = tt
  same_numbers ps (x ∷ xs) = (refl, same_numbers ps xs)

  units_of : (c d : ℕ) (node : Node) (ps : List Parameter) → unit_in node.kind d (round_at rounds d) ≡ (round_at rounds d).unit → (round_at rounds d).unit ≡ Some c → parameters_in (item_at nodes c).module_ ≡ ps → (xs : List ℕ) → AllByRecursion (IsAround rounds d node) xs → AreOf ps xs
  units_of c d node ps k u is [] rs = tt
  units_of c d node ps k u is (x ∷ xs) rs = (ap (parameters_round nodes) (rs.0.unit ∙ k ∙ u) ∙ is, units_of c d node ps k u is xs rs.1)

  modules_of : (d c : ℕ) (node module_node : Node) → (round_at rounds d).parent ≡ Some c → slice_get nodes c ≡ Some module_node → module_node.kind ≡ kind.Module → (xs : List ℕ) → AllByRecursion (IsAround rounds d node) xs → AreOfModule xs
  modules_of d c node module_node p at is [] rs = tt
  modules_of d c node module_node p at is (x ∷ xs) rs = (ap (λ (o : Option ℕ). kind_at_parent nodes (parent_round rounds o)) rs.0.parent ∙ ap (kind_at_parent nodes) p ∙ ap kind_of at ∙ is, modules_of d c node module_node p at is xs rs.1)

  right_all_parameters : (c d : ℕ) (node module_node : Node) → (round_at rounds d).parent ≡ Some c → slice_get nodes c ≡ Some module_node → module_node.kind ≡ kind.Module → slice_get nodes d ≡ Some node → unit_in node.kind d (round_at rounds d) ≡ (round_at rounds d).unit → (round_at rounds d).unit ≡ Some c → (ps : List Parameter) → ps ≡ params d (run nodes kind.Parm node.children) → parameters_in (item_at nodes c).module_ ≡ ps → AreParts nodes (is_of kind.Parm) d (run nodes kind.Parm node.children) → Right (of_parameters 1 ps)
  right_all_parameters c d node module_node p m_at m_is at k u ps e is parts =
      subst (λ (ps : List Parameter). Right (of_parameters 1 ps)) (sym e)
      (right_parameters d (params d (run nodes kind.Parm node.children)) 1 (run nodes kind.Parm node.children) parts
      (modules_of d c node module_node p m_at m_is (run nodes kind.Parm node.children) (all_take (IsAround rounds d node) (leading nodes kind.Parm node.children) node.children (around_at t nodes rounds parsed are d node at)))
      (apart_take (leading nodes kind.Parm node.children) node.children (are_apart node.children (parsed.tree.once d node at)))
      (units_of c d node (params d (run nodes kind.Parm node.children)) k u (is ∙ e) (run nodes kind.Parm node.children) (all_take (IsAround rounds d node) (leading nodes kind.Parm node.children) node.children (around_at t nodes rounds parsed are d node at)))
      (same_numbers (params d (run nodes kind.Parm node.children)) (run nodes kind.Parm node.children)))

  -- ---- definitions

  unit_of : (c d : ℕ) (node : Node) → node.kind ≡ kind.Module → IsAround rounds c node d → (round_at rounds d).unit ≡ Some c
  unit_of c d node is r = r.unit ∙ ap (λ (k : NodeKind). unit_in k c (round_at rounds c)) is

  routine_name : (k : NodeKind) (d : ℕ) → kind_at nodes d ≡ kind.Routine → (item_at nodes d).routine.node ≡ d → outer_kind nodes rounds d ≡ k → Right (binding (item_at nodes d).routine.node (routine_meaning k) (item_at nodes d).routine.name ∷ [])
  routine_name k d its at outer =
      right_own said d (binding (item_at nodes d).routine.node (routine_meaning k) (item_at nodes d).routine.name ∷ []) (at, tt)
      (ap₂ (λ (n : ℕ) (k : NodeKind). binding n (routine_meaning k) (item_at nodes d).routine.name ∷ []) at (sym outer) ∙ sym (said_is kind.Routine d its))

  right_routines : (d : ℕ) (cs : List ℕ) → AreParts nodes (is_of kind.Routine) d cs → AllByRecursion (λ (x : ℕ). outer_kind nodes rounds x ≡ kind.Cluster) cs → Right (of_routines (routines_at (before d (item_at nodes)) cs))
  right_routines d [] ps os = right_none said
  right_routines d (c ∷ cs) ps os =
      let its : kind_at nodes c ≡ kind.Routine = same_kind kind.Routine (kind_at nodes c) ps.0.1 in
      let th : There nodes c kind.Routine = there nodes c kind.Routine refl its in
      let r : RoutineIs t nodes rounds parsed are c th.node = routine_at t nodes rounds parsed are c th.node th.at th.is in
      subst (λ (i : Item). Right (binding i.routine.node is_routine_of_cluster i.routine.name ∷ of_routine i.routine ++ of_routines (routines_at (before d (item_at nodes)) cs))) (sym (before_is nodes d c ps.0.0))
      (both (binding (item_at nodes c).routine.node is_routine_of_cluster (item_at nodes c).routine.name ∷ of_routine (item_at nodes c).routine) (of_routines (routines_at (before d (item_at nodes)) cs))
      (both (binding (item_at nodes c).routine.node is_routine_of_cluster (item_at nodes c).routine.name ∷ []) (of_routine (item_at nodes c).routine)
      (routine_name kind.Cluster c its r.itself os.0) (subst Right (sym r.bound) (right_children c th.node th.at)))
      (right_routines d cs ps.1 os.1))

  outers : (d : ℕ) (node : Node) → slice_get nodes d ≡ Some node → node.kind ≡ kind.Cluster → (xs : List ℕ) → AllByRecursion (IsAround rounds d node) xs → AllByRecursion (λ (x : ℕ). outer_kind nodes rounds x ≡ kind.Cluster) xs
  outers d node at is [] rs = tt
  outers d node at is (x ∷ xs) rs = (outer_of t nodes rounds parsed are d node kind.Cluster x at is rs.0, outers d node at is xs rs.1)

  -- ---- modules

  regroup : (x e o s : Bindings) → x ++ e ++ o ++ s ≡ x ++ (e ++ o) ++ s
  regroup x e o s = ap (λ (b : Bindings). b ++ s) (append_assoc x e o)

  module _ (c : ℕ) (node : Node) (at : slice_get nodes c ≡ Some node) (is : node.kind ≡ kind.Module) (round : IsAround rounds (top t nodes rounds parsed are) parsed.file.0 c) where
    abbrev facts : ModuleIs t nodes rounds parsed are c node
    facts = module_at t nodes rounds parsed are c node at is

    abbrev last : ℕ
    last = facts.last

    unit_there : (round_at rounds last).unit ≡ Some c
    unit_there = unit_of c last node is facts.round

    equates_right : Right (of_equates facts.equates)
    equates_right = subst Right (sym facts.bound) (right_children c node at)

    by_routine : kind_at nodes last ≡ kind.Routine → (item_at nodes c).module_ ≡ a_routine c facts.equates (item_at nodes last).routine → Right (of_module (item_at nodes c).module_)
    by_routine k e =
        let th : There nodes last kind.Routine = there nodes last kind.Routine refl k in
        let r : RoutineIs t nodes rounds parsed are last th.node = routine_at t nodes rounds parsed are last th.node th.at th.is in
        subst (λ (m : Module). Right (of_module m)) (sym e)
        (both (binding (item_at nodes last).routine.node is_module (item_at nodes last).routine.name ∷ of_equates facts.equates ++ of_parameters 1 (item_at nodes last).routine.parameters) (of_routine (item_at nodes last).routine)
        (both (binding (item_at nodes last).routine.node is_module (item_at nodes last).routine.name ∷ of_equates facts.equates) (of_parameters 1 (item_at nodes last).routine.parameters)
        (both (binding (item_at nodes last).routine.node is_module (item_at nodes last).routine.name ∷ []) (of_equates facts.equates)
        (routine_name kind.Module last k r.itself (outer_of t nodes rounds parsed are c node kind.Module last at is facts.round)) equates_right)
        (right_all_parameters c last th.node node facts.round.parent at is th.at (ap (λ (k : NodeKind). unit_in k last (round_at rounds last)) th.is) unit_there (item_at nodes last).routine.parameters r.parameters (ap parameters_in e)
        (run_kinds nodes kind.Parm last th.node.children (children_before nodes parsed.tree last th.node th.at))))
        (subst Right (sym r.bound) (right_children last th.node th.at)))

    cluster_name : kind_at nodes last ≡ kind.Cluster → (item_at nodes last).cluster.node ≡ last → Right (binding (item_at nodes last).cluster.node is_module (item_at nodes last).cluster.name ∷ [])
    cluster_name k at =
        right_own said last (binding (item_at nodes last).cluster.node is_module (item_at nodes last).cluster.name ∷ []) (at, tt)
        (ap (λ (n : ℕ). binding n is_module (item_at nodes last).cluster.name ∷ []) at ∙ sym (said_is kind.Cluster last k))

    by_cluster : kind_at nodes last ≡ kind.Cluster → (item_at nodes c).module_ ≡ a_cluster c facts.equates (item_at nodes last).cluster → Right (of_module (item_at nodes c).module_)
    by_cluster k e =
        let th : There nodes last kind.Cluster = there nodes last kind.Cluster refl k in
        let none : (round_at rounds last).routine ≡ None = no_routine t nodes rounds parsed are c last node is round facts.round in
        let r : ClusterIs t nodes rounds parsed are last th.node = cluster_at t nodes rounds parsed are last th.node th.at th.is none in
        subst (λ (m : Module). Right (of_module m)) (sym e)
        (subst Right (sym (regroup (binding (item_at nodes last).cluster.node is_module (item_at nodes last).cluster.name ∷ of_equates facts.equates ++ of_parameters 1 (item_at nodes last).cluster.parameters) (of_equates (item_at nodes last).cluster.equates) (of_owns is_own_of_cluster (item_at nodes last).cluster.owns) (of_routines (item_at nodes last).cluster.routines)))
        (both (binding (item_at nodes last).cluster.node is_module (item_at nodes last).cluster.name ∷ of_equates facts.equates ++ of_parameters 1 (item_at nodes last).cluster.parameters ++ (of_equates (item_at nodes last).cluster.equates ++ of_owns is_own_of_cluster (item_at nodes last).cluster.owns)) (of_routines (item_at nodes last).cluster.routines)
        (both (binding (item_at nodes last).cluster.node is_module (item_at nodes last).cluster.name ∷ of_equates facts.equates ++ of_parameters 1 (item_at nodes last).cluster.parameters) (of_equates (item_at nodes last).cluster.equates ++ of_owns is_own_of_cluster (item_at nodes last).cluster.owns)
        (both (binding (item_at nodes last).cluster.node is_module (item_at nodes last).cluster.name ∷ of_equates facts.equates) (of_parameters 1 (item_at nodes last).cluster.parameters)
        (both (binding (item_at nodes last).cluster.node is_module (item_at nodes last).cluster.name ∷ []) (of_equates facts.equates) (cluster_name k r.itself) equates_right)
        (right_all_parameters c last th.node node facts.round.parent at is th.at (ap (λ (k : NodeKind). unit_in k last (round_at rounds last)) th.is) unit_there (item_at nodes last).cluster.parameters r.parameters (ap parameters_in e) r.parts.parms))
        (subst Right (sym r.bound) (right_children last th.node th.at)))
        (subst (λ (rs : List Routine). Right (of_routines rs)) (sym r.routines)
        (right_routines last (cluster_routines nodes rounds last th.node.children) r.parts.routines
        (outers last th.node th.at th.is (cluster_routines nodes rounds last th.node.children) (around_routines t nodes rounds parsed are last th.node th.at))))))

    right_module : Right (of_module (item_at nodes c).module_)
    right_module = elim facts.defines [ inl d ↦ by_routine d.0 d.1 | inr d ↦ by_cluster d.0 d.1 ]

  right_modules : (cs : List ℕ) → AreParts nodes (is_of kind.Module) (top t nodes rounds parsed are) cs → AllByRecursion (IsAround rounds (top t nodes rounds parsed are) parsed.file.0) cs → Right (of_modules (modules_at (item_at nodes) cs))
  right_modules [] ps rs = right_none said
  right_modules (c ∷ cs) ps rs =
      let th : There nodes c kind.Module = there nodes c kind.Module refl (same_kind kind.Module (kind_at nodes c) ps.0.1) in
      both (of_module (item_at nodes c).module_) (of_modules (modules_at (item_at nodes) cs)) (right_module c th.node th.at th.is rs.0) (right_modules cs ps.1 rs.1)

  -- ---- type sets

  right_set : (n : ℕ) → is_type_set_node nodes n ≡ true → Right (of_type_set (variable_number nodes rounds n) (item_at nodes n).type_set)
  right_set n e =
      let k : kind_at nodes n ≡ kind.TypeSet = same_kind kind.TypeSet (kind_at nodes n) e in
      let th : There nodes n kind.TypeSet = there nodes n kind.TypeSet refl k in
      let its : (item_at nodes n).type_set ≡ type_set_of (before n (item_at nodes)) nodes n th.node kind.TypeSet =
      ap (λ (i : Item). i.type_set) (item_there nodes n th.node th.at) ∙ ap (type_set_of (before n (item_at nodes)) nodes n th.node) th.is in
      let own : binding n (is_type_parameter (variable_number nodes rounds n)) (first_name th.node.names) ∷ [] ≡ said n = sym (said_is kind.TypeSet n k ∙ ap (of_set_variable (variable_number nodes rounds n) n) its) in
      subst (λ (s : TypeSet). Right (of_type_set (variable_number nodes rounds n) s)) (sym its)
      (both (binding n (is_type_parameter (variable_number nodes rounds n)) (first_name th.node.names) ∷ []) (of_equates (equates_at (before n (item_at nodes)) (run nodes kind.Equate (after_run nodes kind.Oper th.node.children))))
      (right_own said n (binding n (is_type_parameter (variable_number nodes rounds n)) (first_name th.node.names) ∷ []) (refl, tt) own)
      (subst Right (sym (set_bound t nodes rounds parsed are n th.node th.at th.is (equates_at (before n (item_at nodes)) (run nodes kind.Equate (after_run nodes kind.Oper th.node.children))) its refl)) (right_children n th.node th.at)))

  abbrev sets_of : List ℕ → Bindings
  sets_of ns = flat_map (λ (n : ℕ). of_type_set (variable_number nodes rounds n) (item_at nodes n).type_set) ns

  right_sets : (xs : List ℕ) → Right (sets_of (filter (is_type_set_node nodes) xs))
  right_sets [] = right_none said
  right_sets (x ∷ xs) = by (is_type_set_node nodes x) refl (right_sets xs)
    where
      by : (b : Bool) → is_type_set_node nodes x ≡ b → Right (sets_of (filter (is_type_set_node nodes) xs)) → Right (sets_of (cond b (x ∷ filter (is_type_set_node nodes) xs) (filter (is_type_set_node nodes) xs)))
      by true e rest = both (of_type_set (variable_number nodes rounds x) (item_at nodes x).type_set) (sets_of (filter (is_type_set_node nodes) xs)) (right_set x e) rest
      by false e rest = rest

  -- ---- of the file

  pub right_file : Right (scope_in nodes rounds).bindings
  right_file =
      let r = root_parts t nodes rounds parsed are in
      both (of_modules (file_of nodes)) (of_type_sets nodes rounds)
      (subst (λ (ms : List Module). Right (of_modules ms)) (sym r.1) (right_modules parsed.file.0.children r.0 (around_at t nodes rounds parsed are (top t nodes rounds parsed are) parsed.file.0 parsed.file.1)))
      (right_sets (numbers nodes))
