-- A head has no type only where its heading is refused.
use Rattle.std.proofs.Common.{◌≡◌, ◌∙◌, ℕ, ◌<◌, Bool, true, false, if◌then◌else◌, List, [], ◌∷◌, ◌++◌, length, Option, Some, None, refl, sym, ap, subst}
use Rattle.std.specs.Prelude.{slice_get}
use Rattle.std.specs.List.{AllByRecursion}
use Rattle.std.proofs.lemmas.Option.{none-some}
use Rattle.clu_base.specs.declared.constants.Const.{Const}
use Rattle.clu_tree.specs.declared.node.Node.{Node}
use Rattle.clu_tree.specs.declared.node.NodeKind.{NodeKind}
use Rattle.clu_tree.specs.declared.node.NodeKind.TheVariants as kind
use Rattle.clu_parser.specs.Trees.{Text}
use Rattle.clu_types.specs.declared.term.Heading.{Heading}
use Rattle.clu_types.specs.declared.term.Term.{Term}
use Rattle.clu_types.specs.declared.term.TypeId.{TypeId}
use Rattle.clu_syntax.specs.declared.round.Round.{Round}
use Rattle.clu_syntax.specs.Kinds.{kind_at}
use Rattle.clu_syntax.specs.Nodes.{item_at}
use Rattle.clu_syntax.specs.Rounds.{AreRounds, cluster_in, round_at}
use Rattle.clu_syntax.specs.Syntax.{Routine}
use Rattle.clu_meaning.specs.Scoping.{Scope}
use Rattle.clu_checking.specs.Specifications.{Specification}
use Rattle.clu_checking.specs.Files.{File, item, round}
use Rattle.clu_checking.specs.Headings.{is_refused_heading}
use Rattle.clu_checking.specs.Refusals.{refused_nodes}
use Rattle.clu_declares.specs.Declares.{IsParsed}
use Rattle.clu_declares.proofs.Around.{IsAround}
use Rattle.clu_declares.proofs.Below.{same_kind}
use Rattle.clu_declares.proofs.Facts.{There, around_at, there, top, top_alone}
use Rattle.clu_declares.proofs.Parents.{of_all}
use Rattle.clu_settle.specs.declared.value.Value.TheVariants as value
use Rattle.clu_settle.specs.Lists.{value_of}
use Rattle.clu_settle.specs.Lost.{IsLost}
use Rattle.clu_settle.specs.Meant.{meanings_of}
use Rattle.clu_settle.specs.Settled.{AreSettled}
use Rattle.clu_settle.specs.Values.{AreWithin}
use Rattle.clu_head.specs.declared.asked.Asked.{Asked}
use Rattle.clu_head.specs.declared.head.RoutineHead.{RoutineHead}
use Rattle.clu_head.specs.declared.known.Known.{Known}
use Rattle.clu_head.specs.Outside.{heading_outside}
use Rattle.clu_head.specs.Routines.{AreHeads, AreListed, IsHead, arguments_in, exceptions_in, is_routine, kind_in, listed_nodes, once_if, results_in, routines_among, term_at}
use Rattle.clu_head.specs.Terms as terms
use Rattle.clu_head.specs.Terms.{IsNumbered, routine_term, term_of}
use Rattle.clu_head.specs.There.{is_there}
use Rattle.clu_passes.specs.Heads.{AreCounted, file_known}
use Rattle.clu_passes.specs.HeadsKnown.{IsTyped}
use Rattle.clu_passes.specs.Trees.{IsFileOfTree}
use Rattle.clu_passes.proofs.FileModules.{of_root, root}
use Rattle.clu_passes.proofs.HeadParts.{parts_below}
use Rattle.clu_passes.proofs.HeadTypes.{refused_same}
use Rattle.clu_passes.proofs.HeadingsLost.{heading_lost}
use Rattle.clu_passes.proofs.OwnPlaces.{there_is}

module _ (k : Known) (scope : Scope) (library : List Specification) (refused : List ℕ) (counts : AreCounted k (file_known k scope library refused)) (refuses : refused ≡ refused_nodes (file_known k scope library []))
    (types : List Term) (constants : List Const) (settled : AreSettled k.syntax.now scope types constants k.values.now)
    (lost : (n : ℕ) → n < length k.syntax.now → value_of k.values.now n ≡ value.Lost → IsLost k.syntax.now (meanings_of k.syntax.now k.rounds.now scope.declarations) n) where
  abbrev f : File
  f = file_known k scope library refused

  abbrev nodes : List Node
  nodes = k.syntax.now

  -- of the same nodes, where nothing is refused
  plain_tree : IsFileOfTree (file_known k scope library [])
  plain_tree = record { shaped = counts.of_tree.shaped; ordered = counts.of_tree.ordered; tree = counts.of_tree.tree; surrounded = counts.of_tree.surrounded }

  module _ (own : Option TypeId) (n : ℕ) (x : There k.syntax.now n kind.Routine) (alone : own ≡ None → (round (file_known k scope library refused) n).cluster ≡ None) where
    abbrev r : Routine
    r = (item_at nodes n).routine

    abbrev outside : Option Heading
    outside = heading_outside own nodes k.values.now (arguments_in nodes x.node) (results_in nodes x.node) (exceptions_in nodes x.node)

    abbrev is_refused_here : Bool
    is_refused_here = terms.is_refused_heading nodes k.refused.now k.rounds.now n

    no_term : term_at k own n (slice_get nodes n) ≡ None → is_refused_heading f r ≡ true
    unfolding term_at
    no_term e = by is_refused_here refl outside refl (sym (ap (term_at k own n) x.at) ∙ e)
      where
        by : (b : Bool) → is_refused_here ≡ b → (o : Option Heading) → outside ≡ o → routine_term b (kind_in x.node) o ≡ None → is_refused_heading f r ≡ true
        by true is o so e = refused_same k scope library refused counts.of_tree.shaped counts.of_tree.tree counts n x ∙ is
        by false is (Some h) so e = absurd (none-some (term_of (kind_in x.node) h) (sym e))
        by false is None so e =
            subst (λ (rs : List ℕ). is_refused_heading (file_known k scope library rs) r ≡ true) (sym refuses)
            (heading_lost (file_known k scope library []) plain_tree types constants k.values.now settled lost own n x alone so)

    pub head_typed : (asked : Asked) (exports : List (List ℕ)) (old new : List Term) (many : ℕ) → AreWithin (length old) many k.values.now → ((id : TypeId) → own ≡ Some id → id.0 < length old) → (h : RoutineHead) → IsHead k asked own exports old new n h → IsTyped f h
    head_typed asked exports old new many within below h is none =
        ap (λ (m : ℕ). is_refused_heading f (item f m).routine) is.node
        ∙ by (term_at k own n (slice_get nodes n)) refl (subst (IsNumbered old new (term_at k own n (slice_get nodes n))) none is.of_type)
      where
        by : (o : Option Term) → term_at k own n (slice_get nodes n) ≡ o → IsNumbered old new o None → is_refused_heading f r ≡ true
        by (Some t) e never = absurd (never (parts_below k (length old) many within own below n (slice_get nodes n) t e))
        by None e never = no_term e

  -- ---- those of a cluster, which has a type

  module _ (own : Option TypeId) (has : own ≡ None → ⊥) (asked : Asked) (exports : List (List ℕ)) (old new : List Term) (many : ℕ) (within : AreWithin (length old) many k.values.now) (below : (id : TypeId) → own ≡ Some id → id.0 < length old) where
    abbrev is_head : ℕ → RoutineHead → Type 0
    is_head n h = IsHead k asked own exports old new n h

    there_routine : (n : ℕ) → is_there kind.Routine (slice_get nodes n) ≡ true → There nodes n kind.Routine
    there_routine n is = there nodes n kind.Routine refl (same_kind kind.Routine (kind_at nodes n) (there_is kind.Routine refl (slice_get nodes n) ∙ is))

    one_typed : (n : ℕ) (h : RoutineHead) → is_there kind.Routine (slice_get nodes n) ≡ true → is_head n h → IsTyped f h
    one_typed n h is head = head_typed own n (there_routine n is) (λ none. absurd (has none)) asked exports old new many within below h head

    among_there : (ns : List ℕ) → AllByRecursion (λ (n : ℕ). is_there kind.Routine (slice_get nodes n) ≡ true) (routines_among nodes ns)
    among_there [] = tt
    among_there (n ∷ ns) = by (is_routine nodes n) refl (among_there ns)
      where
        by : (b : Bool) → is_routine nodes n ≡ b → AllByRecursion (λ (n : ℕ). is_there kind.Routine (slice_get nodes n) ≡ true) (routines_among nodes ns) →
            AllByRecursion (λ (n : ℕ). is_there kind.Routine (slice_get nodes n) ≡ true) (once_if b n ++ routines_among nodes ns)
        by true is rest = (is, rest)
        by false is rest = rest

    all_typed : (ns : List ℕ) (hs : List RoutineHead) → AllByRecursion (λ (n : ℕ). is_there kind.Routine (slice_get nodes n) ≡ true) ns → AreHeads is_head ns hs → AllByRecursion (IsTyped f) hs
    all_typed [] [] is are = tt
    all_typed [] (h ∷ hs) is are = absurd are
    all_typed (n ∷ ns) [] is are = absurd are
    all_typed (n ∷ ns) (h ∷ hs) is are = (one_typed n h is.0 are.0, all_typed ns hs is.1 are.1)

    pub routines_typed : (routines : List ℕ) (hs : List RoutineHead) → AreListed nodes is_head routines hs → AllByRecursion (IsTyped f) hs
    unfolding AreListed
    routines_typed routines hs are = all_typed (routines_among nodes (listed_nodes are.0)) hs (among_there (listed_nodes are.0)) are.2

-- ---- a module stands in no cluster

module _ (t : Text) (nodes : List Node) (rounds : List Round) (parsed : IsParsed t nodes) (are : AreRounds nodes rounds) where
  pub no_cluster : (u : ℕ) (node : Node) → slice_get nodes u ≡ Some node → node.kind ≡ kind.Module → (d : ℕ) → IsAround rounds u node d → (round_at rounds d).cluster ≡ None
  no_cluster u node at is d a =
      let outer : IsAround rounds (top t nodes rounds parsed are) (root t nodes rounds parsed are) u =
      of_all (IsAround rounds (top t nodes rounds parsed are) (root t nodes rounds parsed are)) u (root t nodes rounds parsed are).children
      (around_at t nodes rounds parsed are (top t nodes rounds parsed are) (root t nodes rounds parsed are) parsed.file.1) (of_root t nodes rounds parsed are u node at is) in
      a.cluster ∙ ap (λ (k : NodeKind). cluster_in k u (round_at rounds u)) is
      ∙ outer.cluster ∙ ap (λ (k : NodeKind). cluster_in k (top t nodes rounds parsed are) (round_at rounds (top t nodes rounds parsed are))) parsed.file.2
      ∙ ap (λ (r : Round). r.cluster) (are.roots_are (top t nodes rounds parsed are) (top_alone t nodes rounds parsed are))
