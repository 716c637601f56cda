-- The heads of routines tell the headings that the definitions give them.
use Rattle.std.proofs.Common.{◌≡◌, ◌∙◌, ℕ, ◌<◌, ◌≤◌, Bool, true, false, if◌then◌else◌, List, [], ◌∷◌, ◌++◌, length, map, Option, Some, None, refl, ap, ap₂, sym, subst, arith}
use Rattle.std.specs.Prelude.{All, slice_get, bytes_eq}
use Rattle.std.specs.List.{AllByRecursion, list_any}
use Rattle.std.specs.Option.{option_map}
use Rattle.std.proofs.lemmas.List.Elements.{All-cons, All-head, All-nil, All-tail}
use Rattle.clu_base.specs.declared.constants.Const.{Const}
use Rattle.clu_tree.specs.declared.node.Node.{Node}
use Rattle.clu_tree.specs.declared.node.NodeKind.{NodeKind}
use Rattle.clu_tree.specs.declared.node.NodeKind.TheVariants as kind
use Rattle.clu_tree.specs.Nodes.{IsTree}
use Rattle.clu_parser.specs.Shape.{HaveForms}
use Rattle.clu_types.specs.CluType.{CluType}
use Rattle.clu_types.specs.Arena.{IsArena, type_at, types_of}
use Rattle.clu_types.specs.declared.term.Term.{Term}
use Rattle.clu_types.specs.declared.term.TypeId.{TypeId}
use Rattle.clu_syntax.specs.Items.{Item, routines_at}
use Rattle.clu_syntax.specs.Kinds.{kind_at, kind_of}
use Rattle.clu_syntax.specs.Nodes.{before, item_at, routine_of}
use Rattle.clu_syntax.specs.Splits.{is_of, first_name}
use Rattle.clu_syntax.specs.Syntax.{Cluster, Identifier, Routine}
use Rattle.clu_meaning.specs.Scoping.{Scope}
use Rattle.clu_meaning.specs.Resolving.{Place, cluster_place}
use Rattle.clu_checking.specs.Specifications.{Demand, Heading, Specification}
use Rattle.clu_checking.specs.Files.{File, item}
use Rattle.clu_checking.specs.Equates.{demands_in}
use Rattle.clu_checking.specs.Headings.{heading_of, is_exported, is_refused_heading, listed_demands, outside_type}
use Rattle.clu_parts.proofs.Fitting.{AreParts}
use Rattle.clu_declares.proofs.Below.{before_is, item_there, same_kind}
use Rattle.clu_declares.proofs.Facts.{There, there}
use Rattle.clu_settle.specs.Settled.{AreSettled}
use Rattle.clu_head.specs.declared.asked.Asked.{Asked}
use Rattle.clu_head.specs.declared.head.Demanded.{Demanded}
use Rattle.clu_head.specs.declared.head.RoutineHead.{RoutineHead}
use Rattle.clu_head.specs.declared.known.Known.{Known}
use Rattle.clu_head.specs.declared.routines.Named.{Named}
use Rattle.clu_head.specs.Asked.{demands_of}
use Rattle.clu_head.specs.Named.{name_rank}
use Rattle.clu_head.specs.Routines.{AreHeads, AreListed, IsHead, is_routine, listed_nodes, name_at, named_at, named_told, once_if, routines_among, routines_named, term_at}
use Rattle.clu_head.specs.Terms.{IsNumbered}
use Rattle.clu_head.specs.There.{is_there}
use Rattle.clu_passes.specs.Heads.{AreCounted, file_known}
use Rattle.clu_passes.specs.HeadsKnown.{AreHeadsKnown, IsTyped}
use Rattle.clu_passes.specs.Told.{AreHeadsOf, AreNamed, IsHeadOf, demand_told, listed_names, routine_told}
use Rattle.clu_passes.proofs.HeadTypes.{head_there}
use Rattle.clu_passes.proofs.Listing.{listed_told}
use Rattle.clu_passes.proofs.Routines.{listed_all}

-- ---- lists

module _ (k : Known) (scope : Scope) (library : List Specification) (refused : List ℕ) (shaped : HaveForms k.syntax.now) (tree : IsTree k.syntax.now) (counted : AreCounted k (file_known k scope library refused))
    (asked : Asked) (old new : List Term) (arena : IsArena new) (constants : List Const) (settled : AreSettled k.syntax.now scope new constants k.values.now) (its : AreHeadsKnown k (file_known k scope library refused) asked new) where
  abbrev pub f : File
  f = file_known k scope library refused

  abbrev nodes : List Node
  nodes = k.syntax.now

  abbrev types : List CluType
  types = types_of new

  -- ---- one routine

  abbrev place_with : Option CluType → Place
  place_with home = record { scope = scope; home = home }

  name_is : (n : ℕ) (x : There nodes n kind.Routine) → name_at (slice_get nodes n) ≡ (item f n).routine.name
  name_is n x =
      ap name_at x.at
      ∙ sym (ap (λ (i : Item). i.routine.name) (item_there nodes n x.node x.at) ∙ ap (λ (j : NodeKind). (routine_of (before n (item_at nodes)) nodes n x.node j).name) x.is)

  module _ (own : Option TypeId) (home : Option CluType) (owns : option_map (type_at types) own ≡ home) (exports : List (List ℕ)) (n : ℕ) (x : There nodes n kind.Routine) (r : RoutineHead) (is : IsHead k asked own exports old new n r) where
    abbrev rt : Routine
    rt = (item_at nodes n).routine

    type_said : IsTyped f r → (o : Option TypeId) → r.of_type ≡ o → option_map (type_at types) o ≡ (heading_of f (place_with home) rt).type
    type_said typed None e =
        let refused_there : is_refused_heading f rt ≡ true = sym (ap (λ (m : ℕ). is_refused_heading f (item f m).routine) is.node) ∙ typed e in
        sym (ap (λ (b : Bool). if b then None else Some (outside_type f (place_with home) rt)) refused_there)
    type_said typed (Some id) e =
        head_there k scope library refused shaped tree counted n x.node x.at x.is (place_with home) old new arena constants settled own owns id
        (subst (IsNumbered old new (term_at k own n (slice_get nodes n))) e is.of_type)

    demands_said : map (demand_told types) r.demands ≡ listed_demands (demands_in f rt.restrictions)
    demands_said =
        ap (map (demand_told types)) is.demands
        ∙ listed_told types (demands_of asked.demands.items asked.starts.items n)
        ∙ ap listed_demands (its.routines n (ap kind_of x.at ∙ x.is))

    -- its head tells its heading
    pub routine_said : IsTyped f r → routine_told types r ≡ heading_of f (place_with home) rt
    routine_said typed =
        ap (λ (name : Identifier). record { name = name; type = option_map (type_at types) r.of_type; demands = map (demand_told types) r.demands }) (is.name ∙ name_is n x)
        ∙ ap (λ (t : Option CluType). record { name = rt.name; type = t; demands = map (demand_told types) r.demands }) (type_said typed r.of_type refl)
        ∙ ap (λ (ds : List Demand). record { name = rt.name; type = (heading_of f (place_with home) rt).type; demands = ds }) demands_said

  -- ---- those of a cluster

  abbrev IsThere : Named → Type 0
  IsThere r = is_routine nodes r.node ≡ true

  abbrev IsCalled : Named → Type 0
  IsCalled r = name_rank r ≡ (item f r.node).routine.name

  -- the routines of these nodes, by their names
  record AreThese (n : ℕ) (ns : List ℕ) (rs : List Named) : Type 0 where
    there_are : All IsThere rs
    named : AreNamed f rs
    all : map (λ r. (item f r.node).routine) rs ≡ routines_at (before n (item_at nodes)) ns

  none_named : (rs : List Named) → map named_told rs ≡ routines_named nodes [] → rs ≡ []
  unfolding routines_named
  none_named [] e = refl
  none_named (r ∷ rs) e = absurd (cc)

  record IsNext (c : ℕ) (cs : List ℕ) (rs : List Named) : Type 0 where
    first : Named
    rest : List Named
    are : rs ≡ first ∷ rest
    node : first.node ≡ c
    name : name_rank first ≡ name_at (slice_get nodes c)
    more : map named_told rest ≡ routines_named nodes cs

  next_told : (rs : List Named) (c : ℕ) (name : List ℕ) (ps : List (ℕ × List ℕ)) → map named_told rs ≡ (c, name) ∷ ps → (first : Named) × (rest : List Named) × (rs ≡ first ∷ rest) × (named_told first ≡ (c, name)) × (map named_told rest ≡ ps)
  next_told [] c name ps e = absurd (cc)
  next_told (r ∷ rs) c name ps e = (r, rs, refl, cc, cc)

  next_named : (c : ℕ) (cs : List ℕ) (rs : List Named) → There nodes c kind.Routine → map named_told rs ≡ routines_named nodes (c ∷ cs) → IsNext c cs rs
  unfolding routines_named
  next_named c cs rs x e =
      let is : named_at c (slice_get nodes c) ≡ (c, name_at (slice_get nodes c)) ∷ [] =
      ap (λ (b : Bool). if b then (c, name_at (slice_get nodes c)) ∷ [] else []) (ap (is_there kind.Routine) x.at ∙ ap (is_of kind.Routine) x.is) in
      let so = next_told rs c (name_at (slice_get nodes c)) (routines_named nodes cs) (e ∙ ap (λ (ps : List (ℕ × List ℕ)). ps ++ routines_named nodes cs) is) in
      record { first = so.0; rest = so.1; are = so.2; node = ap (λ (p : ℕ × List ℕ). p.0) so.3; name = ap (λ (p : ℕ × List ℕ). p.1) so.3; more = so.4 }

  these : (n : ℕ) (ns : List ℕ) → AreParts nodes (is_of kind.Routine) n ns → (rs : List Named) → map named_told rs ≡ routines_named nodes ns → AreThese n ns rs
  these n [] ps rs e =
      subst (AreThese n []) (sym (none_named rs e))
      (record { there_are = All-nil IsThere; named = All-nil IsCalled; all = refl })
  these n (c ∷ cs) ps rs e =
      let x : There nodes c kind.Routine = there nodes c kind.Routine refl (same_kind kind.Routine (kind_at nodes c) ps.0.1) in
      let next : IsNext c cs rs = next_named c cs rs x e in
      let more : AreThese n cs next.rest = these n cs ps.1 next.rest next.more in
      let here : IsThere next.first = ap (is_routine nodes) next.node ∙ ap (is_there kind.Routine) x.at ∙ ap (is_of kind.Routine) x.is in
      let called : IsCalled next.first = next.name ∙ name_is c x ∙ ap (λ (m : ℕ). (item f m).routine.name) (sym next.node) in
      subst (AreThese n (c ∷ cs)) (sym next.are)
      (record {
        there_are = All-cons IsThere next.first next.rest here more.there_are;
        named = All-cons IsCalled next.first next.rest called more.named;
        all = ap₂ (λ (r : Routine) (rs : List Routine). r ∷ rs) (ap (λ (m : ℕ). (item f m).routine) next.node ∙ ap (λ (i : Item). i.routine) (sym (before_is nodes n c ps.0.0))) more.all;
      })

  module _ (c : Cluster) (own : Option TypeId) (owns : option_map (type_at types) own ≡ (cluster_place scope c).home) (exports : List (List ℕ)) (exported : exports ≡ c.exports) where
    one_head : (r : Named) (h : RoutineHead) → IsThere r → IsHead k asked own exports old new r.node h → IsTyped f h → IsHeadOf f types c r h
    one_head r h here is typed =
        let x : There nodes r.node kind.Routine = by (slice_get nodes r.node) refl here in
        record {
          told = routine_said own (cluster_place scope c).home owns exports r.node x h is typed;
          exported = is.exported ∙ ap (λ (name : List ℕ). list_any (bytes_eq name) exports) (is.name ∙ name_is r.node x) ∙ ap (list_any (bytes_eq (item f r.node).routine.name)) exported;
        }
      where
        by : (o : Option Node) → slice_get nodes r.node ≡ o → is_there kind.Routine o ≡ true → There nodes r.node kind.Routine
        by None at there_is = absurd (cc)
        by (Some node) at there_is = record { node = node; at = at; is = same_kind kind.Routine node.kind there_is }

    all_heads : (rs : List Named) (hs : List RoutineHead) → AllByRecursion IsThere rs → AreHeads (IsHead k asked own exports old new) (routines_among nodes (map (λ r. r.node) rs)) hs → AllByRecursion (IsTyped f) hs → AreHeadsOf f types c rs hs
    all_heads [] [] here are typed = tt
    all_heads [] (h ∷ hs) here are typed = absurd are
    all_heads (r ∷ rs) hs here are typed =
        by hs (subst (λ (b : Bool). AreHeads (IsHead k asked own exports old new) (once_if b r.node ++ routines_among nodes (map (λ r. r.node) rs)) hs) here.0 are) typed (λ hs. all_heads rs hs here.1)
      where
        by : (hs : List RoutineHead) → AreHeads (IsHead k asked own exports old new) (r.node ∷ routines_among nodes (map (λ r. r.node) rs)) hs → AllByRecursion (IsTyped f) hs
            → ((hs : List RoutineHead) → AreHeads (IsHead k asked own exports old new) (routines_among nodes (map (λ r. r.node) rs)) hs → AllByRecursion (IsTyped f) hs → AreHeadsOf f types c rs hs) → AreHeadsOf f types c (r ∷ rs) hs
        by [] are typed rest = absurd are
        by (h ∷ hs) are typed rest = (one_head r h here.0 are.0 typed.0, rest hs are.1 typed.1)

    as_recursion : (rs : List Named) → All IsThere rs → AllByRecursion IsThere rs
    as_recursion [] all = tt
    as_recursion (r ∷ rs) all = (All-head IsThere r rs all, as_recursion rs (All-tail IsThere r rs all))

    -- the heads of the routines of the cluster n
    pub record AreRoutines (n : ℕ) (ns : List ℕ) (hs : List RoutineHead) : Type 0 where
      pub rs : List Named
      pub named : AreNamed f rs
      pub all : map (λ r. (item f r.node).routine) rs ≡ routines_at (before n (item_at nodes)) ns
      pub heads : AreHeadsOf f types c (listed_names rs) hs

    pub routines_said : (n : ℕ) (ns : List ℕ) → AreParts nodes (is_of kind.Routine) n ns → (hs : List RoutineHead) → AreListed nodes (IsHead k asked own exports old new) ns hs → AllByRecursion (IsTyped f) hs → AreRoutines n ns hs
    unfolding AreListed
    routines_said n ns ps hs are typed =
        let so : AreThese n ns are.0 = these n ns ps are.0 are.1 in
        record {
          rs = are.0;
          named = so.named;
          all = so.all;
          heads = all_heads (listed_names are.0) hs (as_recursion (listed_names are.0) (listed_all IsThere name_rank are.0 so.there_are)) are.2 typed;
        }
