-- The heads of a file's modules tell its specifications.
use Rattle.std.proofs.Common.{◌≡◌, ◌∙◌, ◌⊎◌, ℕ, zero, suc, ◌+◌, ◌-◌, ◌^◌, min, ◌<◌, ◌≤◌, ◌&&◌, Bool, true, false, if◌then◌else◌, List, [], ◌∷◌, ◌++◌, length, map, get_or, Option, Some, None, refl, ap, ap₂, sym, subst, inl, inr, arith, length-append}
use Rattle.std.specs.Prelude.{All, slice_get, filter}
use Rattle.std.specs.List.{AllByRecursion, AllZip}
use Rattle.std.specs.Option.{option_map}
use Rattle.std.proofs.lemmas.List.Elements.{All-cons, All-nil}
use Rattle.std.proofs.lemmas.Option.{none-some, same_Some}
use Rattle.clu_base.specs.declared.constants.Const.{Const}
use Rattle.clu_base.proofs.Lists.{front_get}
use Rattle.clu_tree.specs.declared.node.Node.{Node}
use Rattle.clu_tree.specs.declared.node.NodeKind.{NodeKind}
use Rattle.clu_tree.specs.declared.node.NodeKind.TheVariants as kind
use Rattle.clu_tree.specs.Nodes.{modules}
use Rattle.clu_parser.specs.Trees.{Text}
use Rattle.clu_types.specs.CluType.{CluType}
use Rattle.clu_types.specs.Arena.{Grows, IsArena, type_at, types_of}
use Rattle.clu_types.specs.declared.spec.ParamKind.{ParamKind}
use Rattle.clu_types.specs.declared.term.Term.{Term}
use Rattle.clu_types.specs.declared.term.TypeId.{TypeId}
use Rattle.clu_types.proofs.Carrying.{length_grows}
use Rattle.clu_syntax.specs.declared.modules.Definition.{Definition}
use Rattle.clu_syntax.specs.declared.modules.Definition.TheVariants as defines
use Rattle.clu_syntax.specs.declared.round.Round.{Round}
use Rattle.clu_syntax.specs.Items.{Item, modules_at, parameters_at, routines_at}
use Rattle.clu_syntax.specs.Kinds.{kind_at, kind_of}
use Rattle.clu_syntax.specs.Nodes.{before, cluster_of, item_at, routine_of}
use Rattle.clu_syntax.specs.Rounds.{AreRounds}
use Rattle.clu_syntax.specs.Splits.{is_of, last_child, run, type_of}
use Rattle.clu_syntax.specs.Syntax.{Cluster, Equates, Identifier, Module, Parameter, Routine, a_cluster, a_routine}
use Rattle.clu_names.specs.declared.scopes.Declared.{Declared}
use Rattle.clu_names.specs.Scopes.{declarations, next}
use Rattle.clu_meaning.specs.Scoping.{Scope, parameter_number}
use Rattle.clu_meaning.specs.Resolving.{cluster_place}
use Rattle.clu_checking.specs.Specifications.{Demand, Form, Heading, Specification, of_cluster, of_routine}
use Rattle.clu_checking.specs.Files.{File, item, parameters_in, round, scope_in}
use Rattle.clu_checking.specs.Equates.{demands_in}
use Rattle.clu_checking.specs.Headings.{heading_of, is_exported, kinds_in, listed_demands, own_specifications, place_in, routines_of, specification_of}
use Rattle.clu_checking.specs.Refusals.{refused_nodes}
use Rattle.clu_parts.proofs.Fitting.{AreBefore, AreParts, children_before}
use Rattle.clu_settle.specs.declared.value.Value.{Value}
use Rattle.clu_settle.specs.declared.value.Value.TheVariants as value
use Rattle.clu_settle.specs.Lists.{type_id, value_of}
use Rattle.clu_settle.specs.Lost.{IsLost}
use Rattle.clu_settle.specs.Meant.{meanings_of}
use Rattle.clu_settle.specs.Parameters.{counted, is_counted}
use Rattle.clu_settle.specs.Settled.{AreSettled}
use Rattle.clu_settle.specs.Values.{AreWithin, IsWithin}
use Rattle.clu_settle.proofs.Within.{value_within}
use Rattle.clu_declares.specs.Declares.{AreFew, IsParsed}
use Rattle.clu_declares.proofs.Below.{before_is, item_there, same_kind}
use Rattle.clu_declares.proofs.Facts.{ClusterIs, ModuleIs, There, root_parts, run_kinds, there, top}
use Rattle.clu_declares.proofs.Haves.{cluster_facts}
use Rattle.clu_declares.proofs.Numbered.{count_is}
use Rattle.clu_declares.proofs.Parents.{IsIn}
use Rattle.clu_head.specs.declared.asked.Asked.{Asked}
use Rattle.clu_head.specs.declared.head.Demanded.{Demanded}
use Rattle.clu_head.specs.declared.head.Head.{Head}
use Rattle.clu_head.specs.declared.head.HeadForm.{HeadForm}
use Rattle.clu_head.specs.declared.head.HeadForm.TheVariants as form
use Rattle.clu_head.specs.declared.head.RoutineHead.{RoutineHead}
use Rattle.clu_head.specs.declared.known.Known.{Known}
use Rattle.clu_head.specs.declared.routines.Named.{Named}
use Rattle.clu_head.specs.Asked.{demands_of}
use Rattle.clu_head.specs.Listed.{listed}
use Rattle.clu_head.specs.Modules as heads
use Rattle.clu_head.specs.Modules.{AreKinds, AreOfModules, IsClusterForm, IsOfCluster, IsOfDefinition, IsOfModule, IsOfRoutine, IsRoutineForm, among, definition_at, definition_of, exports_in, has_head, is_defined, routines_in}
use Rattle.clu_head.specs.Outside.{times}
use Rattle.clu_head.specs.OwnTypes.{IsOwnType}
use Rattle.clu_head.specs.ParameterKinds as parameters
use Rattle.clu_head.specs.ParameterKinds.{kinds_of}
use Rattle.clu_head.specs.Ranks.{before as comes_first, both_asked, demand_rank, same}
use Rattle.clu_head.specs.Routines.{AreListed, IsHead, name_at, once_if}
use Rattle.clu_head.specs.There.{is_there}
use Rattle.clu_operations.specs.Modules as operations
use Rattle.clu_passes.specs.Heads.{AreCounted, file_known}
use Rattle.clu_passes.specs.HeadsKnown.{AreHeadsKnown, IsTyped}
use Rattle.clu_passes.specs.ParameterKinds.{IsParm}
use Rattle.clu_passes.specs.Told.{AreHeadsOf, AreNamed, demand_told, exported_told, head_told, listed_names, routine_told}
use Rattle.clu_passes.proofs.DeclaredParameters.{facts, last_is}
use Rattle.clu_passes.proofs.FileModules.{modules_are, root}
use Rattle.clu_passes.proofs.HeadKinds.{kinds_listed}
use Rattle.clu_passes.proofs.HeadsTyped.{head_typed, no_cluster, routines_typed}
use Rattle.clu_passes.proofs.Listing.{listed_told}
use Rattle.clu_passes.proofs.OwnTypeKept.{own_below, own_kept, own_there, values_later}
use Rattle.clu_passes.proofs.OwnTypes.{own_told}
use Rattle.clu_passes.proofs.Routines.{exported_routines, own_routines}
use Rattle.clu_passes.proofs.RoutinesSaid.{AreRoutines, routine_said, routines_said}
use Rattle.clu_passes.proofs.UnitsOfClusters.{last_cluster}

-- ---- an arena that grows

module _ (many constants : ℕ) (values : List Value) (within : AreWithin many constants values) (old new : List Term) (enough : many ≤ length old) (grows : Grows old new) where
  type_kept : (v : Value) → IsWithin many constants v → parameters.kind_of_type old (type_id v) ≡ parameters.kind_of_type new (type_id v)
  type_kept value.Nothing is = refl
  type_kept value.Lost is = refl
  type_kept (value.Constant k) is = refl
  type_kept (value.Parameter k) is = refl
  type_kept (value.Type id) is =
      let less : id.0 < many = is.0 in
      ap parameters.kind_in (sym (front_get old grows.0 id.0 (omega (arith, less, enough))) ∙ ap (λ (ts : List Term). slice_get ts id.0) (sym grows.1))

  declared_kept : (o : Option ℕ) → parameters.kind_declared old values o ≡ parameters.kind_declared new values o
  declared_kept None = refl
  declared_kept (Some c) = type_kept (value_of values c) (value_within many constants values c within)

  kinds_at_kept : (nodes : List Node) (its : Option Node) → parameters.kinds_at old values nodes its ≡ parameters.kinds_at new values nodes its
  kinds_at_kept nodes None = refl
  kinds_at_kept nodes (Some node) = ap (λ (k : Option ParamKind). if is_of kind.Parm node.kind then times k node.names else []) (declared_kept (type_of nodes node.children))

  kinds_kept : (nodes : List Node) (ns : List ℕ) → kinds_of old values nodes ns ≡ kinds_of new values nodes ns
  unfolding kinds_of
  kinds_kept nodes [] = refl
  kinds_kept nodes (n ∷ ns) = ap₂ (λ (xs ys : List (Option ParamKind)). xs ++ ys) (kinds_at_kept nodes (slice_get nodes n)) (kinds_kept nodes ns)

-- no more than 32 bits count
pub counted_small : (nodes : List Node) (rounds : List Round) (ds : List Declared) (u p : ℕ) → counted nodes rounds ds u p ≤ 4294967295
unfolding counted
counted_small nodes rounds ds u zero = omega arith
counted_small nodes rounds ds u (suc p) = by (is_counted nodes rounds u (slice_get ds p)) (counted nodes rounds ds u p) (counted_small nodes rounds ds u p)
  where
    by : (b : Bool) (c : ℕ) → c ≤ 4294967295 → (if b then next c else c) ≤ 4294967295
    by true c l = omega arith
    by false c l = l

module _ (t : Text) (k : Known) (library : List Specification) (refused : List ℕ) (parsed : IsParsed t k.syntax.now) (are : AreRounds k.syntax.now k.rounds.now) (few : AreFew k.syntax.now k.rounds.now)
    (counts : AreCounted k (file_known k (scope_in k.syntax.now k.rounds.now) library refused)) (refuses : refused ≡ refused_nodes (file_known k (scope_in k.syntax.now k.rounds.now) library []))
    (asked : Asked) (old new : List Term) (arena : IsArena new) (constants : List Const)
    (within : AreWithin (length old) (length constants) k.values.now) (settled : AreSettled k.syntax.now (scope_in k.syntax.now k.rounds.now) new constants k.values.now)
    (lost : (n : ℕ) → n < length k.syntax.now → value_of k.values.now n ≡ value.Lost → IsLost k.syntax.now (meanings_of k.syntax.now k.rounds.now (declarations k.syntax.now k.rounds.now)) n)
    (its : AreHeadsKnown k (file_known k (scope_in k.syntax.now k.rounds.now) library refused) asked new) where
  abbrev nodes : List Node
  nodes = k.syntax.now

  abbrev rounds : List Round
  rounds = k.rounds.now

  abbrev scope : Scope
  scope = scope_in k.syntax.now k.rounds.now

  abbrev f : File
  f = file_known k (scope_in k.syntax.now k.rounds.now) library refused

  abbrev types : List CluType
  types = types_of new

  -- ---- kinds of parameters

  parm_there : (c : ℕ) → There nodes c kind.Parm → IsParm nodes c
  parm_there c x = record { node = x.node; there = x.at; of_kind = x.is }

  parms_there : (n : ℕ) (cs : List ℕ) → AreParts nodes (is_of kind.Parm) n cs → All (IsParm nodes) cs
  parms_there n [] ps = All-nil (IsParm nodes)
  parms_there n (c ∷ cs) ps = All-cons (IsParm nodes) c cs (parm_there c (there nodes c kind.Parm refl (same_kind kind.Parm (kind_at nodes c) ps.0.1))) (parms_there n cs ps.1)

  parms_read : (n : ℕ) (cs : List ℕ) → AreParts nodes (is_of kind.Parm) n cs → map (λ c. (item f c).parameter) cs ≡ parameters_at (before n (item_at nodes)) cs
  parms_read n [] ps = refl
  parms_read n (c ∷ cs) ps = ap₂ (λ (p : Parameter) (ps : List Parameter). p ∷ ps) (ap (λ (i : Item). i.parameter) (sym (before_is nodes n c ps.0.0))) (parms_read n cs ps.1)

  kinds_said : (n : ℕ) (cs : List ℕ) → AreParts nodes (is_of kind.Parm) n cs → (kinds : List (Option ParamKind)) → AreKinds k asked old new cs kinds → kinds ≡ kinds_in f (parameters_at (before n (item_at nodes)) cs)
  unfolding AreKinds
  kinds_said n cs ps kinds made =
      let more : length made.0 ≡ length old + length made.1.0 = ap length made.1.1 ∙ length-append old made.1.0 in
      made.3
      ∙ kinds_kept (length old) (length constants) k.values.now within made.0 new (omega (arith, more)) made.2 nodes cs
      ∙ kinds_listed f new constants k.values.now settled parsed.tree arena its.legal cs (parms_there n cs ps)
      ∙ ap (kinds_in f) (parms_read n cs ps)

  -- ---- a module that is a routine

  module _ (n : ℕ) (x : There nodes n kind.Routine) where
    routine_is : (item f n).routine ≡ routine_of (before n (item_at nodes)) nodes n x.node kind.Routine
    routine_is = ap (λ (i : Item). i.routine) (item_there nodes n x.node x.at) ∙ ap (routine_of (before n (item_at nodes)) nodes n x.node) x.is

    routine_parms : AreParts nodes (is_of kind.Parm) n (run nodes kind.Parm x.node.children)
    routine_parms = run_kinds nodes kind.Parm n x.node.children (children_before nodes parsed.tree n x.node x.at)

    routine_module : (u : ℕ) (es : Equates) (h : Head) → IsOfRoutine k asked old new n h → (round f n).cluster ≡ None → head_told types h ≡ specification_of f (a_routine u es (item f n).routine)
    unfolding IsRoutineForm
    routine_module u es h is alone =
        let r : RoutineHead = is.form.0 in
        let formed : h.form ≡ form.Routine r = is.form.1 in
        let name : h.name ≡ (item f n).routine.name = is.name ∙ ap name_at x.at ∙ sym (ap (λ (r : Routine). r.name) routine_is) in
        let kinds : h.kinds ≡ kinds_in f (item f n).routine.parameters =
        kinds_said n (run nodes kind.Parm x.node.children) routine_parms h.kinds (subst (λ (ps : List ℕ). AreKinds k asked old new ps h.kinds) (ap (heads.parameters_in nodes) x.at) is.kinds)
        ∙ ap (kinds_in f) (sym (ap (λ (r : Routine). r.parameters) routine_is)) in
        let told : routine_told types r ≡ heading_of f (place_in f None) (item f n).routine =
        routine_said k scope library refused parsed.forms parsed.tree counts asked old new arena constants settled its None None refl [] n x r is.form.2
        (head_typed k scope library refused counts refuses new constants settled lost None n x (λ none. alone) asked [] old new (length constants) within (λ id e. absurd (none-some id e)) r is.form.2) in
        ap (λ (name : Identifier). record { name = name; kinds = h.kinds; form = exported_told types h.form }) name
        ∙ ap (λ (kinds : List (Option ParamKind)). record { name = (item f n).routine.name; kinds = kinds; form = exported_told types h.form }) kinds
        ∙ ap (λ (its_form : Form). record { name = (item f n).routine.name; kinds = kinds_in f (item f n).routine.parameters; form = its_form }) (ap (exported_told types) formed ∙ ap of_routine told)

  -- ---- a cluster

  module _ (n : ℕ) (x : There nodes n kind.Cluster) where
    abbrev c : Cluster
    c = (item_at nodes n).cluster

    cluster_is : (item f n).cluster ≡ cluster_of (before n (item_at nodes)) nodes n x.node kind.Cluster
    cluster_is = ap (λ (i : Item). i.cluster) (item_there nodes n x.node x.at) ∙ ap (cluster_of (before n (item_at nodes)) nodes n x.node) x.is

    parts : ClusterIs t nodes rounds parsed are n x.node
    parts = cluster_facts t nodes rounds parsed are 0 [] n x.node x.at x.is

    own_of : (h : Head) (id : TypeId) → h.name ≡ c.name → h.kinds ≡ kinds_in f c.parameters → IsOwnType new h.name h.kinds (Some id) → IsOwnType new c.name (kinds_in f c.parameters) (Some id)
    own_of h id name kinds own = subst (λ (ks : List (Option ParamKind)). IsOwnType new c.name ks (Some id)) kinds (subst (λ (name : Identifier). IsOwnType new name h.kinds (Some id)) name own)

    owned : (h : Head) (own : Option TypeId) → h.name ≡ c.name → h.kinds ≡ kinds_in f c.parameters → parameter_number c.parameters ≤ 4294967295 → IsOwnType new h.name h.kinds own → option_map (type_at types) own ≡ (cluster_place scope c).home
    owned h None name kinds small own = absurd (own_there new h.name h.kinds None own refl)
    owned h (Some id) name kinds small own = ap Some (own_told f new arena c id small (own_of h id name kinds own))

    -- the heads of its routines, as they are listed
    record HasRoutines (h : Head) : Type 0 where
      heads_are : List RoutineHead
      formed : h.form ≡ form.Cluster (listed (comes_first demand_rank) (same demand_rank) both_asked (demands_of asked.demands.items asked.starts.items n)) heads_are
      names : List Named
      named : AreNamed f names
      all : map (λ r. (item f r.node).routine) names ≡ c.routines
      are_heads : AreHeadsOf f types c (listed_names names) heads_are

    name_said : (h : Head) → IsOfCluster k asked old new n h → h.name ≡ c.name
    name_said h is = is.name ∙ ap name_at x.at ∙ sym (ap (λ (c : Cluster). c.name) cluster_is)

    kinds_of_head : (h : Head) → IsOfCluster k asked old new n h → h.kinds ≡ kinds_in f c.parameters
    kinds_of_head h is =
        kinds_said n (run nodes kind.Parm x.node.children) parts.parts.parms h.kinds (subst (λ (ps : List ℕ). AreKinds k asked old new ps h.kinds) (ap (heads.parameters_in nodes) x.at) is.kinds)
        ∙ ap (kinds_in f) (sym parts.parameters)

    has_routines : (h : Head) → parameter_number (item f n).cluster.parameters ≤ 4294967295 → IsOfCluster k asked old new n h → HasRoutines h
    unfolding IsClusterForm
    has_routines h small is =
        let rs : List RoutineHead = is.form.0 in
        let exports : exports_in (slice_get nodes n) ≡ c.exports = ap exports_in x.at ∙ sym (ap (λ (c : Cluster). c.exports) cluster_is) in
        let exported : List (List ℕ) = exports_in (slice_get nodes n) in
        let listed_at : AreListed nodes (IsHead k asked is.own exported is.between new) (routines_in nodes (slice_get nodes n)) rs = is.form.2 in
        let owns : option_map (type_at types) is.own ≡ (cluster_place scope c).home = owned h is.own (name_said h is) (kinds_of_head h is) small (own_kept is.between new is.behind h.name h.kinds is.own is.of_own) in
        let then_within : AreWithin (length is.between) (length constants) k.values.now = values_later (length old) (length is.between) (length constants) (length_grows old is.between is.front) k.values.now within in
        let typed : AllByRecursion (IsTyped f) rs =
        routines_typed k scope library refused counts refuses new constants settled lost is.own (own_there is.between h.name h.kinds is.own is.of_own) asked exported is.between new (length constants) then_within
        (own_below is.between h.name h.kinds is.own is.of_own) (routines_in nodes (slice_get nodes n)) rs listed_at in
        let routines : AreRoutines k scope library refused parsed.forms parsed.tree counts asked is.between new arena constants settled its c is.own owns exported exports n (routines_in nodes (Some x.node)) rs =
        routines_said k scope library refused parsed.forms parsed.tree counts asked is.between new arena constants settled its c is.own owns exported exports n (routines_in nodes (Some x.node)) parts.parts.routines rs
        (subst (λ (ns : List ℕ). AreListed nodes (IsHead k asked is.own exported is.between new) ns rs) (ap (routines_in nodes) x.at) listed_at) typed in
        record { heads_are = rs; formed = is.form.1; names = routines.rs; named = routines.named; all = routines.all ∙ sym parts.routines; are_heads = routines.heads }

    -- all of them, as the text of the cluster sees them
    cluster_text : (h : Head) → HasRoutines h → map (routine_told types) (operations.routines_in h.form) ≡ routines_of f c
    cluster_text h has = ap (λ (its_form : HeadForm). map (routine_told types) (operations.routines_in its_form)) has.formed ∙ own_routines f types c has.names has.heads_are has.named has.all has.are_heads

    cluster_module : (u : ℕ) (es : Equates) (h : Head) → parameter_number (item f n).cluster.parameters ≤ 4294967295 → IsOfCluster k asked old new n h → head_told types h ≡ specification_of f (a_cluster u es (item f n).cluster)
    cluster_module u es h small is =
        let has : HasRoutines h = has_routines h small is in
        let told : map (routine_told types) (filter (λ (r : RoutineHead). r.exported) has.heads_are) ≡ filter (is_exported f c) (routines_of f c) =
        exported_routines f types c has.names has.heads_are has.named has.all has.are_heads in
        let asks : map (demand_told types) (listed (comes_first demand_rank) (same demand_rank) both_asked (demands_of asked.demands.items asked.starts.items n)) ≡ listed_demands (demands_in f c.restrictions) =
        listed_told types (demands_of asked.demands.items asked.starts.items n) ∙ ap listed_demands (its.clusters n (ap kind_of x.at ∙ x.is)) in
        ap (λ (name : Identifier). record { name = name; kinds = h.kinds; form = exported_told types h.form }) (name_said h is)
        ∙ ap (λ (kinds : List (Option ParamKind)). record { name = c.name; kinds = kinds; form = exported_told types h.form }) (kinds_of_head h is)
        ∙ ap (λ (its_form : Form). record { name = c.name; kinds = kinds_in f c.parameters; form = its_form })
        (ap (exported_told types) has.formed ∙ ap₂ (λ (ds : List Demand) (hs : List Heading). of_cluster ds hs) asks told)

  -- ---- all modules

  -- what a Module defines
  module _ (u : ℕ) (node : Node) (at : slice_get nodes u ≡ Some node) (is : node.kind ≡ kind.Module) where
    abbrev d : ModuleIs t nodes rounds parsed are u node
    d = facts t nodes rounds parsed are u node at is

    definition_is : (j : NodeKind) → kind_at nodes d.last ≡ j → definition_at nodes (slice_get nodes u) ≡ definition_of j d.last
    unfolding definition_at
    definition_is j e =
        ap (definition_at nodes) at
        ∙ ap (λ (m : ℕ). definition_of (kind_at nodes m) m) (last_is t nodes rounds parsed are u node at is)
        ∙ ap (λ (j : NodeKind). definition_of j d.last) e

    defined_so : (j : NodeKind) → kind_at nodes d.last ≡ j → is_defined nodes (definition_of j d.last) ≡ true → has_head nodes u ≡ true
    unfolding has_head
    defined_so j e so =
        ap₂ (λ (a b : Bool). a && b) (ap (is_there kind.Module) at ∙ ap (is_of kind.Module) is)
        (ap (is_defined nodes) (definition_is j e) ∙ so)

    routine_defined : (m : ℕ) → There nodes m kind.Routine → is_defined nodes (defines.Routine m) ≡ true
    unfolding is_defined
    routine_defined m x = ap (is_there kind.Routine) x.at ∙ ap (is_of kind.Routine) x.is

    cluster_defined : (m : ℕ) → There nodes m kind.Cluster → is_defined nodes (defines.Cluster m) ≡ true
    unfolding is_defined
    cluster_defined m x = ap (is_there kind.Cluster) x.at ∙ ap (is_of kind.Cluster) x.is

    module_has : has_head nodes u ≡ true
    module_has = elim d.defines [
      | inl so ↦ defined_so kind.Routine so.0 (routine_defined d.last (there nodes d.last kind.Routine refl so.0))
      | inr so ↦ defined_so kind.Cluster so.0 (cluster_defined d.last (there nodes d.last kind.Cluster refl so.0))
    ]

    by_definition : (h : Head) (o : Definition) → definition_at nodes (slice_get nodes u) ≡ o → IsOfModule k asked old new u h → IsOfDefinition k asked old new o h
    unfolding IsOfModule
    by_definition h o e so = subst (λ (o : Definition). IsOfDefinition k asked old new o h) e so

    of_routine_node : (h : Head) (m : ℕ) → IsOfDefinition k asked old new (defines.Routine m) h → IsOfRoutine k asked old new m h
    unfolding IsOfDefinition
    of_routine_node h m so = so

    of_cluster_node : (h : Head) (m : ℕ) → IsOfDefinition k asked old new (defines.Cluster m) h → IsOfCluster k asked old new m h
    unfolding IsOfDefinition
    of_cluster_node h m so = so

    -- as many parameters as 32 bits count
    parameters_small : parameter_number (parameters_in (item_at nodes u).module_) ≤ 4294967295
    parameters_small =
        let all : counted nodes rounds (declarations nodes rounds) u (length (declarations nodes rounds)) ≡ parameter_number (parameters_in (item_at nodes u).module_) = count_is t nodes rounds parsed are (omega (arith, few)) u node at is in
        let small : counted nodes rounds (declarations nodes rounds) u (length (declarations nodes rounds)) ≤ 4294967295 = counted_small nodes rounds (declarations nodes rounds) u (length (declarations nodes rounds)) in
        omega (arith, all, small)

    module_said : (h : Head) → IsOfModule k asked old new u h → head_told types h ≡ specification_of f (item_at nodes u).module_
    module_said h so = elim d.defines [
      | inl r ↦
          (let x : There nodes d.last kind.Routine = there nodes d.last kind.Routine refl r.0 in
          routine_module d.last x u d.equates h (of_routine_node h d.last (by_definition h (defines.Routine d.last) (definition_is kind.Routine r.0) so))
          (no_cluster t nodes rounds parsed are u node at is d.last d.round)
          ∙ sym (ap (specification_of f) r.1))
      | inr c ↦
          (let x : There nodes d.last kind.Cluster = there nodes d.last kind.Cluster refl c.0 in
          let small : parameter_number (item f d.last).cluster.parameters ≤ 4294967295 = subst (λ (m : Module). parameter_number (parameters_in m) ≤ 4294967295) c.1 parameters_small in
          cluster_module d.last x u d.equates h small (of_cluster_node h d.last (by_definition h (defines.Cluster d.last) (definition_is kind.Cluster c.0) so))
          ∙ sym (ap (specification_of f) c.1))
    ]

    -- a cluster with all its routines
    module_text : (h : Head) → IsOfModule k asked old new u h → kind_at nodes d.last ≡ kind.Cluster → map (routine_told types) (operations.routines_in h.form) ≡ routines_of f (item f d.last).cluster
    module_text h so is = elim d.defines [
      | inl r ↦ (let never : kind.Routine ≡ kind.Cluster = sym r.0 ∙ is in absurd (cc))
      | inr c ↦
          (let x : There nodes d.last kind.Cluster = there nodes d.last kind.Cluster refl c.0 in
          let small : parameter_number (item f d.last).cluster.parameters ≤ 4294967295 = subst (λ (m : Module). parameter_number (parameters_in m) ≤ 4294967295) c.1 parameters_small in
          cluster_text d.last x h (has_routines d.last x h small (of_cluster_node h d.last (by_definition h (defines.Cluster d.last) (definition_is kind.Cluster c.0) so))))
    ]

  all_said : (n : ℕ) (ns : List ℕ) → AreParts nodes (is_of kind.Module) n ns → (hs : List Head) → AllZip (IsOfModule k asked old new) (among (has_head nodes) ns) hs → map (head_told types) hs ≡ map (specification_of f) (modules_at (item_at nodes) ns)
  all_said n [] ps [] made = refl
  all_said n [] ps (h ∷ hs) made = absurd made
  all_said n (u ∷ ns) ps hs made =
      let x : There nodes u kind.Module = there nodes u kind.Module refl (same_kind kind.Module (kind_at nodes u) ps.0.1) in
      by x hs (subst (λ (b : Bool). AllZip (IsOfModule k asked old new) (once_if b u ++ among (has_head nodes) ns) hs) (module_has u x.node x.at x.is) made) (λ hs. all_said n ns ps.1 hs)
    where
      by : There nodes u kind.Module → (hs : List Head) → AllZip (IsOfModule k asked old new) (u ∷ among (has_head nodes) ns) hs
          → ((hs : List Head) → AllZip (IsOfModule k asked old new) (among (has_head nodes) ns) hs → map (head_told types) hs ≡ map (specification_of f) (modules_at (item_at nodes) ns))
          → map (head_told types) hs ≡ map (specification_of f) (modules_at (item_at nodes) (u ∷ ns))
      by x [] made rest = absurd made
      by x (h ∷ hs) made rest = ap₂ (λ (s : Specification) (ss : List Specification). s ∷ ss) (module_said u x.node x.at x.is h made.0) (rest hs made.1)

  pub heads_said : (hs : List Head) → AreOfModules k asked old new (modules nodes) hs → map (head_told types) hs ≡ own_specifications f
  unfolding AreOfModules
  heads_said hs made =
      let parts = root_parts t nodes rounds parsed are in
      all_said (top t nodes rounds parsed are) (root t nodes rounds parsed are).children parts.0 hs
      (subst (λ (ns : List ℕ). AllZip (IsOfModule k asked old new) (among (has_head nodes) ns) hs) (modules_are t nodes rounds parsed are) made)
      ∙ sym (ap (map (specification_of f)) parts.1)

  -- ---- the head of one

  pub record HasModule (hs : List Head) (i u : ℕ) : Type 0 where
    pub head : Head
    pub there_is : slice_get hs i ≡ Some head
    pub of_module : IsOfModule k asked old new u head

  of_place : (n : ℕ) (ns : List ℕ) → AreParts nodes (is_of kind.Module) n ns → (hs : List Head) → AllZip (IsOfModule k asked old new) (among (has_head nodes) ns) hs → (i u : ℕ) → slice_get ns i ≡ Some u → HasModule hs i u
  of_place n [] ps hs made i u at = absurd (none-some u at)
  of_place n (m ∷ ns) ps hs made i u at =
      let x : There nodes m kind.Module = there nodes m kind.Module refl (same_kind kind.Module (kind_at nodes m) ps.0.1) in
      by hs (subst (λ (b : Bool). AllZip (IsOfModule k asked old new) (once_if b m ++ among (has_head nodes) ns) hs) (module_has m x.node x.at x.is) made) i at (λ hs. of_place n ns ps.1 hs)
    where
      by : (hs : List Head) → AllZip (IsOfModule k asked old new) (m ∷ among (has_head nodes) ns) hs → (i : ℕ) → slice_get (m ∷ ns) i ≡ Some u
          → ((hs : List Head) → AllZip (IsOfModule k asked old new) (among (has_head nodes) ns) hs → (i u : ℕ) → slice_get ns i ≡ Some u → HasModule hs i u) → HasModule hs i u
      by [] made i at rest = absurd made
      by (h ∷ hs) made zero at rest = record { head = h; there_is = refl; of_module = subst (λ (m : ℕ). IsOfModule k asked old new m h) (same_Some m u at) made.0 }
      by (h ∷ hs) made (suc i) at rest = let y : HasModule hs i u = rest hs made.1 i u at in record { head = y.head; there_is = y.there_is; of_module = y.of_module }

  -- the routines of a cluster, as its text sees them, by the place of its module
  pub record HasText (hs : List Head) (i c : ℕ) : Type 0 where
    pub head : Head
    pub there_is : slice_get hs i ≡ Some head
    pub routines : map (routine_told types) (operations.routines_in head.form) ≡ routines_of f (item f c).cluster

  pub texts_said : (hs : List Head) → AreOfModules k asked old new (modules nodes) hs → (i c u : ℕ) (node : Node) → kind_at nodes c ≡ kind.Cluster → slice_get nodes u ≡ Some node → node.kind ≡ kind.Module → IsIn c node.children → slice_get (modules nodes) i ≡ Some u → HasText hs i c
  unfolding AreOfModules
  texts_said hs made i c u node cluster at is child placed =
      let parts = root_parts t nodes rounds parsed are in
      let y : HasModule hs i u =
      of_place (top t nodes rounds parsed are) (root t nodes rounds parsed are).children parts.0 hs
      (subst (λ (ns : List ℕ). AllZip (IsOfModule k asked old new) (among (has_head nodes) ns) hs) (modules_are t nodes rounds parsed are) made) i u (ap (λ (ns : List ℕ). slice_get ns i) (sym (modules_are t nodes rounds parsed are)) ∙ placed) in
      let last : (d u node at is).last ≡ c = last_cluster t nodes rounds parsed are u node (d u node at is) c cluster child in
      record {
        head = y.head;
        there_is = y.there_is;
        routines =
            subst (λ (b : ℕ). map (routine_told types) (operations.routines_in y.head.form) ≡ routines_of f (item f b).cluster) last
            (module_text u node at is y.head y.of_module (ap (kind_at nodes) last ∙ cluster));
      }
