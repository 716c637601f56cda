-- Where no fault is found on the walk over the headings, nothing of a file's specifications is missing.
use Rattle.std.proofs.Common.{◌≡◌, ◌∙◌, ◌<◌, ℕ, ◌&&◌, ◌||◌, Bool, true, false, cond, if◌then◌else◌, List, [], ◌∷◌, ◌++◌, length, map, Option, Some, None, is_some, is_none, refl, ap, sym, subst, inl, inr, arith}
use Rattle.std.specs.Prelude.{bytes_eq, filter, slice_get}
use Rattle.std.specs.List.{AllByRecursion, list_any}
use Rattle.std.proofs.lemmas.Bool.{true≢false, cases_Bool, or_parts}
use Rattle.std.proofs.lemmas.Option.{slice_get_within}
use Rattle.clu_base.specs.declared.rules.Rule.TheVariants as rule
use Rattle.clu_base.proofs.Bools.{second_true}
use Rattle.clu_tree.specs.declared.node.Node.{Node}
use Rattle.clu_tree.specs.declared.node.NodeKind.{NodeKind}
use Rattle.clu_tree.specs.declared.node.NodeKind.TheVariants as kind
use Rattle.clu_parser.specs.Trees.{Text}
use Rattle.clu_types.specs.declared.spec.ParamKind.{ParamKind}
use Rattle.clu_syntax.specs.Items.{Item, modules_at, parameters_at, restrictions_at, routines_at}
use Rattle.clu_syntax.specs.Kinds.{is_of_heading, kind_at, kind_of}
use Rattle.clu_syntax.specs.Nodes.{before, cluster_of, item_at, routine_of}
use Rattle.clu_syntax.specs.Rounds.{AreRounds}
use Rattle.clu_syntax.specs.Splits.{after_one, after_run, is_of, leading, parts, run}
use Rattle.clu_syntax.specs.Syntax.{Cluster, Equates, Identifier, Module, Parameter, Restriction, Routine, a_cluster, a_routine}
use Rattle.clu_meaning.specs.Resolving.{Place, cluster_place}
use Rattle.clu_meaning.specs.Settling.{comes_after}
use Rattle.clu_checking.specs.Specifications.{Demand, Heading}
use Rattle.clu_checking.specs.Files.{File, is_refused, item, kind_in, node_children}
use Rattle.clu_checking.specs.ConstantRules.{has_bad_actuals, is_illegal_parameter, v19}
use Rattle.clu_checking.specs.Equates.{demands_in}
use Rattle.clu_checking.specs.Headings.{comes_before, heading_of, is_exported, is_of_type, is_refused_heading, is_same, kind_of_parameter, kinds_in, listed_demands, listed_headings, outside_type, own_specifications, place_in, routines_of, specification_of, with_demand, with_heading}
use Rattle.clu_checking.specs.Refusals.{heading_refusal}
use Rattle.clu_checking.specs.Wanted.{named_at}
use Rattle.clu_parts.proofs.Fitting.{AreParts, children_before}
use Rattle.clu_settle.proofs.Shapes as shapes
use Rattle.clu_declares.specs.Declares.{IsParsed}
use Rattle.clu_declares.proofs.Below.{before_is, item_there, same_kind}
use Rattle.clu_declares.proofs.Facts.{ClusterIs, ModuleIs, There, all_drop, all_take, root_parts, run_kinds, there, top}
use Rattle.clu_declares.proofs.Haves.{cluster_facts, parent_of}
use Rattle.clu_declares.proofs.Parents.{HasParent, IsIn, of_all, round_parm}
use Rattle.clu_declares.proofs.Tops.{cluster_routines}
use Rattle.clu_head.specs.Asking.{restricts_in}
use Rattle.clu_passes.specs.CountsRefused.{RefusesAgain}
use Rattle.clu_passes.specs.Notes.{HaveParents}
use Rattle.clu_passes.specs.Trees.{IsFileOfTree}
use Rattle.clu_passes.specs.WholeTold.{IsTypedDemand, IsWholeForm, IsWholeHeading, IsWholeTold}
use Rattle.clu_passes.proofs.DeclaredParameters.{facts}
use Rattle.clu_passes.proofs.DemandsFine.{all_both, all_mapped, demands_fine, heading_not_refused, not_refused, own_fine, parts_fine, rest_fine}
use Rattle.clu_passes.proofs.FileModules.{root}
use Rattle.clu_passes.proofs.HeadingsFine.{FineOf, IsFine, fine_of_cluster, fine_of_routine, is_clustered}
use Rattle.clu_passes.proofs.LostRefused.{refused_by}
use Rattle.clu_passes.proofs.OfParents.{have_parents}
use Rattle.clu_passes.proofs.OutsideBrackets.{outside_routine}
use Rattle.clu_passes.proofs.ValuesKnown.{all_by}

-- ---- lists

module _ {X : Type 0} (P : X → Type 0) where
  all_kept : (test : X → Bool) (xs : List X) → AllByRecursion P xs → AllByRecursion P (filter test xs)
  all_kept test [] all = tt
  all_kept test (x ∷ xs) all = by (test x) (all_kept test xs all.1)
    where
      by : (b : Bool) → AllByRecursion P (filter test xs) → AllByRecursion P (cond b (x ∷ filter test xs) (filter test xs))
      by true rest = (all.0, rest)
      by false rest = rest

-- ---- what is listed in order

demand_with : (d : Demand) (es : List Demand) → IsTypedDemand d → AllByRecursion IsTypedDemand es → AllByRecursion IsTypedDemand (with_demand d es)
demand_with d [] is all = (is, tt)
demand_with d (e ∷ es) is all = by (is_same d e) (comes_before d e) (demand_with d es is all.1)
  where
    by : (a b : Bool) → AllByRecursion IsTypedDemand (with_demand d es) → AllByRecursion IsTypedDemand (if a then record d { in_set = d.in_set && e.in_set } ∷ es else if b then d ∷ e ∷ es else e ∷ with_demand d es)
    by true b rest = (is, all.1)
    by false true rest = (is, all)
    by false false rest = (all.0, rest)

demands_listed : (ds : List Demand) → AllByRecursion IsTypedDemand ds → AllByRecursion IsTypedDemand (listed_demands ds)
demands_listed [] all = tt
demands_listed (d ∷ ds) all = demand_with d (listed_demands ds) all.0 (demands_listed ds all.1)

heading_with : (h : Heading) (gs : List Heading) → IsWholeHeading h → AllByRecursion IsWholeHeading gs → AllByRecursion IsWholeHeading (with_heading h gs)
heading_with h [] is all = (is, tt)
heading_with h (g ∷ gs) is all = by (bytes_eq h.name g.name) (comes_after h.name g.name) (heading_with h gs is all.1)
  where
    by : (a b : Bool) → AllByRecursion IsWholeHeading (with_heading h gs) → AllByRecursion IsWholeHeading (if a then h ∷ gs else if b then g ∷ with_heading h gs else h ∷ g ∷ gs)
    by true b rest = (is, all.1)
    by false true rest = (all.0, rest)
    by false false rest = (is, all)

headings_listed : (hs : List Heading) → AllByRecursion IsWholeHeading hs → AllByRecursion IsWholeHeading (listed_headings hs)
headings_listed [] all = tt
headings_listed (h ∷ hs) all = heading_with h (listed_headings hs) all.0 (headings_listed hs all.1)

some_kind : (o : Option ParamKind) → is_none o ≡ false → is_some o ≡ true
some_kind (Some k) e = refl
some_kind None e = absurd (true≢false e)

-- ---- kinds

of_heading : (k : NodeKind) → is_of_type k ≡ true → is_of_heading k ≡ true
of_heading kind.Decl e = refl
of_heading kind.Results e = refl
of_heading kind.Signals e = refl
of_heading kind.File e = absurd (true≢false (sym e))
of_heading _ e = absurd (true≢false (sym e))

module _ (t : Text) (f : File) (parsed : IsParsed t f.nodes) (are : AreRounds f.nodes f.rounds) (again : RefusesAgain f) (clear : heading_refusal f ≡ None) where
  abbrev nodes : List Node
  nodes = f.nodes

  of : IsFileOfTree f
  of = record { shaped = parsed.forms; ordered = parsed.order; tree = parsed.tree; surrounded = are }

  parents : HaveParents f
  parents = have_parents t f parsed are

  abbrev its : ℕ → ℕ → Item
  its n = before n (item_at f.nodes)

  -- ---- headings

  -- the where clause among these nodes
  clauses_whole : (n : ℕ) (test : NodeKind → Bool) → test kind.Where ≡ true → (rest : List ℕ) → shapes.AreBefore n rest → AllByRecursion (FineOf f of test) rest → AllByRecursion IsTypedDemand (demands_in f (restrictions_at (its n) (restricts_in nodes rest)))
  clauses_whole n test has rest before_it fine =
      let list : List ℕ = parts nodes kind.Where rest in
      demands_fine f of parents again n (restricts_in nodes rest)
      (shapes.run_parts nodes kind.Restrict n list (shapes.all_before nodes (is_of kind.Restrict) n list (shapes.parts_of_first nodes parsed.tree parsed.forms kind.Where (is_of kind.Restrict) refl n rest before_it)))
      (all_take (IsFine f of) (leading nodes kind.Restrict list) list (parts_fine f of kind.Where test refl has rest fine))

  demands_whole : (rs : List Restriction) → AllByRecursion IsTypedDemand (demands_in f rs) → AllByRecursion IsTypedDemand (listed_demands (demands_in f rs))
  demands_whole rs all = demands_listed (demands_in f rs) all

  module _ (n : ℕ) (x : There nodes n kind.Routine) where
    abbrev r : Routine
    r = (item f n).routine

    its_routine : r ≡ routine_of (its n) nodes n x.node kind.Routine
    its_routine = ap (λ (i : Item). i.routine) (item_there nodes n x.node x.at) ∙ ap (routine_of (its n) nodes n x.node) x.is

    all_fine : AllByRecursion (FineOf f of is_of_heading) x.node.children
    all_fine = all_by (FineOf f of is_of_heading) x.node.children (fine_of_routine f of clear n x.node x.at x.is)

    abbrev IsKnown : ℕ → Type 0
    IsKnown c = is_of_type (kind_in f c) ≡ true → is_refused f c ≡ false

    part_known : (c : ℕ) → IsIn c x.node.children → IsKnown c
    part_known c i test =
        let here : n < length nodes = slice_get_within nodes n x.node x.at in
        let less : c < n = of_all (λ (c : ℕ). c < n) c x.node.children (children_before nodes parsed.tree n x.node x.at) i in
        not_refused f of parents again c (omega (arith, less, here)) (outside_routine f of parents n x.node x.at c i x.is) (fine_of_routine f of clear n x.node x.at x.is c i (of_heading (kind_at nodes c) test))

    known_heading : is_refused_heading f r ≡ false
    known_heading =
        heading_not_refused f of parents again r
        (subst (λ (m : ℕ). AllByRecursion IsKnown (node_children f (slice_get nodes m))) (sym (ap (λ (r : Routine). r.node) its_routine))
        (subst (λ (o : Option Node). AllByRecursion IsKnown (node_children f o)) (sym x.at) (all_by IsKnown x.node.children part_known)))

    abbrev behind : List ℕ
    behind = after_run nodes kind.Decl (after_run nodes kind.Parm x.node.children)

    abbrev rest : List ℕ
    rest = after_one nodes kind.Signals (after_one nodes kind.Results behind)

    rest_before : shapes.AreBefore n rest
    rest_before =
        let parms : shapes.AreBefore n (after_run nodes kind.Parm x.node.children) =
        shapes.before_dropped nodes n (leading nodes kind.Parm x.node.children) x.node.children (children_before nodes parsed.tree n x.node x.at) in
        let decls : shapes.AreBefore n behind = shapes.before_dropped nodes n (leading nodes kind.Decl (after_run nodes kind.Parm x.node.children)) (after_run nodes kind.Parm x.node.children) parms in
        shapes.before_after_one nodes kind.Signals n (after_one nodes kind.Results behind) (shapes.before_after_one nodes kind.Results n behind decls)

    behind_fine : AllByRecursion (FineOf f of is_of_heading) rest
    behind_fine =
        let parms = all_drop (FineOf f of is_of_heading) (leading nodes kind.Parm x.node.children) x.node.children all_fine in
        let decls = all_drop (FineOf f of is_of_heading) (leading nodes kind.Decl (after_run nodes kind.Parm x.node.children)) (after_run nodes kind.Parm x.node.children) parms in
        rest_fine f of kind.Signals is_of_heading (after_one nodes kind.Results behind) (rest_fine f of kind.Results is_of_heading behind decls)

    asked_whole : AllByRecursion IsTypedDemand (demands_in f r.restrictions)
    asked_whole =
        subst (λ (r : Routine). AllByRecursion IsTypedDemand (demands_in f r.restrictions)) (sym its_routine)
        (clauses_whole n is_of_heading refl rest rest_before behind_fine)

    heading_whole : (place : Place) → IsWholeHeading (heading_of f place r)
    heading_whole place = record {
      type = ap (λ (b : Bool). is_some (if b then None else Some (outside_type f place r))) known_heading;
      demands = demands_whole r.restrictions asked_whole;
    }

  headings_whole : (place : Place) (n : ℕ) (cs : List ℕ) → AreParts nodes (is_of kind.Routine) n cs → AllByRecursion IsWholeHeading (map (heading_of f place) (routines_at (its n) cs))
  headings_whole place n [] ps = tt
  headings_whole place n (c ∷ cs) ps =
      let x : There nodes c kind.Routine = there nodes c kind.Routine refl (same_kind kind.Routine (kind_at nodes c) ps.0.1) in
      (subst (λ (i : Item). IsWholeHeading (heading_of f place i.routine)) (sym (before_is nodes n c ps.0.0)) (heading_whole c x place), headings_whole place n cs ps.1)

  -- ---- parameters

  abbrev IsKind : Option ParamKind → Type 0
  IsKind k = is_some k ≡ true

  legal : (n : ℕ) → kind_in f n ≡ kind.Parm → v19 f n ≡ false
  legal n is = by (v19 f n) refl
    where
      x : There nodes n kind.Parm
      x = there nodes n kind.Parm refl is

      q : HasParent nodes n
      q = parent_of t nodes f.rounds parsed are 0 [] n kind.Parm is refl

      above : (is_of kind.Routine q.node.kind || is_of kind.Cluster q.node.kind) ≡ true
      above = round_parm nodes parsed.tree q.parent q.node q.at (parsed.forms q.parent q.node q.at) n q.child is

      fine : IsFine f of n
      fine = elim (cases_Bool (is_of kind.Routine q.node.kind)) [
        | inl r ↦ fine_of_routine f of clear q.parent q.node q.at (same_kind kind.Routine q.node.kind r) n q.child (ap is_of_heading is)
        | inr other ↦ fine_of_cluster f of clear q.parent q.node q.at (same_kind kind.Cluster q.node.kind (second_true (is_of kind.Routine q.node.kind) (is_of kind.Cluster q.node.kind) above other)) n q.child (ap is_clustered is)
      ]

      by : (b : Bool) → v19 f n ≡ b → v19 f n ≡ false
      by false e = e
      by true e = absurd (true≢false (sym (refused_by f of n 7 rule.ParameterKind refl e) ∙ own_fine f of n x.node x.at fine))

  legal_parm : (n : ℕ) → kind_in f n ≡ kind.Parm → is_some (kind_of_parameter f (item f n).parameter.type) ≡ true
  legal_parm n is =
      some_kind (kind_of_parameter f (item f n).parameter.type)
      (sym (ap (λ (k : NodeKind). is_illegal_parameter f k n) is) ∙ (or_parts (list_any (has_bad_actuals f) (named_at f n)) (is_illegal_parameter f (kind_in f n) n) (legal n is)).1)

  kinds_whole : (n : ℕ) (cs : List ℕ) → AreParts nodes (is_of kind.Parm) n cs → AllByRecursion IsKind (kinds_in f (parameters_at (its n) cs))
  kinds_whole n [] ps = tt
  kinds_whole n (c ∷ cs) ps =
      let one : is_some (kind_of_parameter f (its n c).parameter.type) ≡ true =
      ap (λ (i : Item). is_some (kind_of_parameter f i.parameter.type)) (before_is nodes n c ps.0.0) ∙ legal_parm c (same_kind kind.Parm (kind_at nodes c) ps.0.1) in
      all_both IsKind (map (λ (name : Identifier). kind_of_parameter f (its n c).parameter.type) (its n c).parameter.names) (kinds_in f (parameters_at (its n) cs))
      (all_mapped IsKind (λ (name : Identifier). kind_of_parameter f (its n c).parameter.type) (its n c).parameter.names (λ name. one))
      (kinds_whole n cs ps.1)

  -- ---- modules

  routine_whole : (u n : ℕ) (es : Equates) → There nodes n kind.Routine → IsWholeTold (specification_of f (a_routine u es (item f n).routine))
  routine_whole u n es x = record {
    kinds =
        subst (λ (r : Routine). AllByRecursion IsKind (kinds_in f r.parameters)) (sym (its_routine n x))
        (kinds_whole n (run nodes kind.Parm x.node.children) (run_kinds nodes kind.Parm n x.node.children (children_before nodes parsed.tree n x.node x.at)));
    form = heading_whole n x (place_in f None);
  }

  module _ (n : ℕ) (x : There nodes n kind.Cluster) where
    abbrev c : Cluster
    c = (item f n).cluster

    abbrev behind_parms : List ℕ
    behind_parms = after_run nodes kind.Parm x.node.children

    cluster_asks : AllByRecursion IsTypedDemand (demands_in f c.restrictions)
    cluster_asks =
        subst (λ (c : Cluster). AllByRecursion IsTypedDemand (demands_in f c.restrictions))
        (sym (ap (λ (i : Item). i.cluster) (item_there nodes n x.node x.at) ∙ ap (cluster_of (its n) nodes n x.node) x.is))
        (clauses_whole n is_clustered refl behind_parms
        (shapes.before_dropped nodes n (leading nodes kind.Parm x.node.children) x.node.children (children_before nodes parsed.tree n x.node x.at))
        (all_drop (FineOf f of is_clustered) (leading nodes kind.Parm x.node.children) x.node.children (all_by (FineOf f of is_clustered) x.node.children (fine_of_cluster f of clear n x.node x.at x.is))))

    cluster_whole : (u : ℕ) (es : Equates) → IsWholeTold (specification_of f (a_cluster u es c))
    cluster_whole u es =
        let parts_are : ClusterIs t nodes f.rounds parsed are n x.node = cluster_facts t nodes f.rounds parsed are 0 [] n x.node x.at x.is in
        let place : Place = cluster_place f.scope c in
        record {
          kinds = subst (λ (ps : List Parameter). AllByRecursion IsKind (kinds_in f ps)) (sym parts_are.parameters) (kinds_whole n (run nodes kind.Parm x.node.children) parts_are.parts.parms);
          form = (
            demands_whole c.restrictions cluster_asks,
            all_kept IsWholeHeading (is_exported f c) (routines_of f c)
                (headings_listed (map (heading_of f place) c.routines)
                (subst (λ (rs : List Routine). AllByRecursion IsWholeHeading (map (heading_of f place) rs)) (sym parts_are.routines) (headings_whole place n (cluster_routines nodes f.rounds n x.node.children) parts_are.parts.routines))),
          );
        }

  module_whole : (u : ℕ) (node : Node) → slice_get nodes u ≡ Some node → node.kind ≡ kind.Module → IsWholeTold (specification_of f (item f u).module_)
  module_whole u node at is =
      let d : ModuleIs t nodes f.rounds parsed are u node = facts t nodes f.rounds parsed are u node at is in
      elim d.defines [
        | inl r ↦ subst (λ (m : Module). IsWholeTold (specification_of f m)) (sym r.1) (routine_whole u d.last d.equates (there nodes d.last kind.Routine refl r.0))
        | inr c ↦ subst (λ (m : Module). IsWholeTold (specification_of f m)) (sym c.1) (cluster_whole d.last (there nodes d.last kind.Cluster refl c.0) u d.equates)
      ]

  all_whole : (n : ℕ) (ns : List ℕ) → AreParts nodes (is_of kind.Module) n ns → AllByRecursion IsWholeTold (map (specification_of f) (modules_at (item_at nodes) ns))
  all_whole n [] ps = tt
  all_whole n (u ∷ ns) ps =
      let x : There nodes u kind.Module = there nodes u kind.Module refl (same_kind kind.Module (kind_at nodes u) ps.0.1) in
      (module_whole u x.node x.at x.is, all_whole n ns ps.1)

  pub specifications_whole : AllByRecursion IsWholeTold (own_specifications f)
  specifications_whole =
      let parts = root_parts t nodes f.rounds parsed are in
      subst (λ (ms : List Module). AllByRecursion IsWholeTold (map (specification_of f) ms)) (sym parts.1)
      (all_whole (top t nodes f.rounds parsed are) (root t nodes f.rounds parsed are).children parts.0)
