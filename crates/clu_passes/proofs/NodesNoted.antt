-- The types that are noted of the nodes of a file are those of the definitions, where nothing is lost: by induction on the nodes, as
-- children stand before their parent.
use Rattle.std.proofs.Common.{◌≡◌, ◌∙◌, ◌<◌, ◌≤◌, ◌⊎◌, inl, inr, ◌+◌, ◌-◌, ◌++◌, ◌==◌, ◌&&◌, nat_le, ℕ, zero, suc, Bool, true, false, if◌then◌else◌, List, [], ◌∷◌, length, map, take, drop, slice_get, vec_items, Option, Some, None, refl, sym, ap, subst, arith}
use Rattle.std.specs.List.{AllByRecursion}
use Rattle.std.proofs.lemmas.Bool.{cases_lt, eq-eqb, ne_eqb}
use Rattle.std.proofs.lemmas.List.{length-append}
use Rattle.std.proofs.lemmas.Option.{slice_get_past}
use Rattle.clu_base.proofs.Lists.{get_before}
use Rattle.clu_tree.specs.declared.node.Node.{Node}
use Rattle.clu_tree.specs.declared.node.NodeKind.{NodeKind}
use Rattle.clu_tree.specs.declared.node.NodeKind.TheVariants as kind
use Rattle.clu_parser.specs.Trees.{Text}
use Rattle.clu_types.specs.CluType.{CluType}
use Rattle.clu_types.specs.Arena.{Grows, IsArena, types_of}
use Rattle.clu_types.specs.declared.term.Term.{Term}
use Rattle.clu_types.specs.declared.term.TypeId.{TypeId}
use Rattle.clu_types.proofs.Carrying.{grows_on, length_grows}
use Rattle.clu_syntax.specs.Items.{Item}
use Rattle.clu_syntax.specs.Kinds.{is_expression, kind_of}
use Rattle.clu_names.specs.Denotes.{end_in, end_of}
use Rattle.clu_parts.proofs.Fitting.{AreBefore, children_before}
use Rattle.clu_meaning.specs.Scoping.{Scope}
use Rattle.clu_settle.specs.Lists.{type_id}
use Rattle.clu_declares.specs.Declares.{IsParsed}
use Rattle.clu_declares.proofs.Facts.{there}
use Rattle.clu_checking.specs.Specifications.{Specification}
use Rattle.clu_checking.specs.Files.{File, children, item, kind_in, node_children}
use Rattle.clu_checking.specs.Typing as typing
use Rattle.clu_checking.specs.Invocations as invoking
use Rattle.clu_checking.specs.Wanted.{wanted}
use Rattle.clu_bindings.specs.declared.file.Headed.{Headed}
use Rattle.clu_bindings.specs.Readers.{children_in, value_in, wanted_in}
use Rattle.clu_bindings.specs.Tables.{optional, between, items_at, joined_to, table_to}
use Rattle.clu_operations.specs.declared.found.Found.{Found as Kept}
use Rattle.clu_operations.specs.Finding.{AreWithin, Extends, Follows, IsBelowIf}
use Rattle.clu_operations.proofs.Bundling.{option_more}
use Rattle.clu_operations.proofs.Lasting.{follows_on}
use Rattle.clu_operations.proofs.Naming.{length_extends}
use Rattle.clu_typing.specs.declared.applied.Applied.{Applied}
use Rattle.clu_typing.specs.declared.facts.Facts.{Facts}
use Rattle.clu_typing.specs.declared.facts.Invocation.{Invocation}
use Rattle.clu_typing.specs.declared.facts.Invocations.{Invocations}
use Rattle.clu_typing.specs.declared.facts.Operation.{Operation}
use Rattle.clu_typing.specs.Facts as tables
use Rattle.clu_typing.specs.Facts.{type_of}
use Rattle.clu_typing.specs.Found.{FindsMore, IsAppliedTold}
use Rattle.clu_typing.specs.Invoking.{Lists, lists_of, begun, noted as noted_behind}
use Rattle.clu_typing.specs.Pass.{AreKnown, HaveTypes, IsNoted, IsSound}
use Rattle.clu_typing.specs.Stands.{stands_at, stands_by}
use Rattle.clu_typing.specs.Typing.{IsNodeTypeIf}
use Rattle.clu_typing.proofs.Below.{arena_before, instance_there}
use Rattle.clu_typing.proofs.Growing.{grows_refl}
use Rattle.clu_typing.proofs.Passing.{known_grows, known_sound, noted_grows, operands, row_follows}
use Rattle.clu_passes.specs.Ascending.{SpecificationsAscend}
use Rattle.clu_passes.specs.ConstantTables.{file_with, wanted_told}
use Rattle.clu_passes.specs.FactTables.{AreFacts, AreInvocations, IsType, typed}
use Rattle.clu_passes.specs.FoundTold.{TellHeads}
use Rattle.clu_passes.specs.NamesKnown.{HasTypes}
use Rattle.clu_passes.specs.NotedLists.{Noted, AreNoted, AreWhollyFound, operations_at, spans_at, node_noted, nothing_noted, types_given}
use Rattle.clu_passes.specs.StandsFor.{AreOperands, NodeStandsFor}
use Rattle.clu_passes.proofs.AtNodes.{kids_are}
use Rattle.clu_passes.proofs.NodeSaid.{found_alone, node_read}
use Rattle.clu_passes.proofs.NodeStands.{node_given, node_stands, node_told, operands_at}
use Rattle.clu_passes.proofs.NodeTyped.{type_grown}
use Rattle.clu_passes.proofs.NotedCore.{noted_more, noted_still}
use Rattle.clu_passes.proofs.OperandsGiven.{Typed, operands_given}
use Rattle.clu_passes.proofs.Shells.{number_at, typed_at_node}
use Rattle.clu_passes.proofs.StandsLater.{AreThere, applied_there, node_later, operands_later, there_later}
use Rattle.clu_passes.proofs.TypesNoted.{type_noted}

-- ---- lists with one item more

pub item_behind : {A : Type 0} (xs : List A) (y : A) (k : ℕ) → k ≡ length xs → slice_get (xs ++ y ∷ []) k ≡ Some y
item_behind [] y k e = ap (λ (j : ℕ). slice_get (y ∷ []) j) e
item_behind (x ∷ xs) y zero e = absurd (omega (arith, e))
item_behind (x ∷ xs) y (suc k) e = item_behind xs y k (omega (arith, e))

table_length : {A : Type 0} (of : ℕ → A) (m : ℕ) → length (table_to of m) ≡ m
unfolding table_to
table_length of zero = refl
table_length of (suc m) = length-append (table_to of m) (of m ∷ []) ∙ omega (arith, table_length of m)

-- of a number behind the last nothing stands in a table
past_none : {A : Type 0} (table : List A) (starts : List ℕ) (n : ℕ) → length starts ≤ n → items_at table starts n ≡ []
unfolding items_at
past_none table starts n past =
    ap (λ (o : Option ℕ). between table (end_in o (length table)) (end_of starts (length table) n)) (slice_get_past starts n past)
    ∙ ap (λ (o : Option ℕ). between table (length table) (end_in o (length table))) (slice_get_past starts (n + 1) (omega (arith, past)))
    ∙ by (nat_le (length table) (length table) && nat_le (length table) (length table))
  where
    by : (b : Bool) → (if b then take (length table - length table) (drop (length table) table) else []) ≡ []
    by true = ap (λ (k : ℕ). take k (drop (length table) table)) (let none : length table - length table ≡ 0 = omega arith in none)
    by false = refl

module _ (t : Text) (h : Headed) (scope : Scope) (library : List Specification) (refused : List ℕ) (parsed : IsParsed t h.file.syntax.now) (up : SpecificationsAscend library) (items : ℕ → Item) (first : List Term) (have : HaveTypes h (length first))
    (tells : (terms : List Term) → Grows first terms → TellHeads h (file_with h.file scope library refused) (types_of terms)) (lost : ℕ → Bool) (below : (n : ℕ) → lost n ≡ false → AllByRecursion (λ c. lost c ≡ false) (children (file_with h.file scope library refused) n))
    (known_types : (n : ℕ) → lost n ≡ false → is_expression (kind_in (file_with h.file scope library refused) n) ≡ true → (terms : List Term) → Grows first terms → HasTypes (file_with h.file scope library refused) h items terms n (item (file_with h.file scope library refused) n).expression) where
  abbrev f : File
  f = file_with h.file scope library refused

  abbrev nodes : List Node
  nodes = h.file.syntax.now

  -- the nodes before this one have their types
  abbrev pub AreTyped : ℕ → List Term → Facts → Type 0
  AreTyped n terms facts = (m : ℕ) → m < n → lost m ≡ false → IsType terms (type_of facts m) (typed f m)

  typed_as : (n : ℕ) (b : Bool) → is_expression (kind_in f n) ≡ b → typed f n ≡ if◌then◌else◌ {A = Option CluType} b (typing.type_of f (item f n).expression) None
  typed_as n b e = ap (λ (b : Bool). if◌then◌else◌ {A = Option CluType} b (typing.type_of f (item f n).expression) None) e

  children_typed : (n : ℕ) (terms : List Term) (facts : Facts) → AreTyped n terms facts → (cs : List ℕ) → AreBefore n cs → AllByRecursion (λ c. lost c ≡ false) cs → (later : List Term) → Grows terms later → Typed f n later facts.types.items cs
  children_typed n terms facts before [] l here later grows = tt
  children_typed n terms facts before (c ∷ cs) l here later grows = (type_grown terms later grows (type_of facts c) (typed f c) (before c l.0 here.0), children_typed n terms facts before cs l.1 here.1 later grows)

  kids_before : (n : ℕ) → AreBefore n (children f n)
  kids_before n = by (slice_get nodes n) refl
    where
      by : (o : Option Node) → slice_get nodes n ≡ o → AreBefore n (node_children f o)
      by None at = tt
      by (Some node) at = children_before nodes parsed.tree n node at

  -- ---- one node more

  module _ (n : ℕ) (old new : List Term) (before noted : Facts) (its : Applied) (what : IsNoted h items n old new before noted its) (grows : Grows first old) (arena : IsArena new) (sound : IsSound h old before) where
    abbrev to_applied : Grows first what.applied_terms
    to_applied = grows_on first old what.applied_terms grows what.applied_grows

    abbrev to_typed : Grows first what.typed_terms
    to_typed = grows_on first what.applied_terms what.typed_terms to_applied what.typed_grows

    typed_arena : IsArena what.typed_terms
    typed_arena = arena_before what.typed_terms new what.grows arena

    applied_arena : IsArena what.applied_terms
    applied_arena = arena_before what.applied_terms what.typed_terms what.typed_grows typed_arena

    values_there : (terms : List Term) → Grows first terms → (k : ℕ) → IsBelowIf (length terms) (type_id (value_in h.file k))
    values_there terms more k = option_more (length first) (length terms) (length_grows first terms more) (type_id (value_in h.file k)) (have.values k)

    pub looked : FindsMore h what.applied_terms before.finding what.applied_finding × IsAppliedTold h what.applied_terms what.applied_finding n (stands_at h.file before.types.items n items) its
    looked =
        what.applied_found
        (operands h old before (values_there old grows) (λ k. option_more (length first) (length old) (length_grows first old grows) _ (have.own k)) sound) sound.finding

    pub finds : FindsMore h what.typed_terms what.applied_finding what.typed_finding
    finds = what.typed_found (values_there what.applied_terms to_applied n) looked.0.finding

    pub modules : FindsMore h new what.typed_finding noted.finding
    modules = what.module_found (instance_there h.file what.typed_terms (length what.typed_terms) (values_there what.typed_terms to_typed) n) finds.finding

    pub applied_follows : Follows what.applied_finding noted.finding
    applied_follows = follows_on what.applied_finding what.typed_finding noted.finding finds.follows modules.follows

    pub follows : Follows before.finding noted.finding
    follows = follows_on before.finding what.applied_finding noted.finding looked.0.follows applied_follows

    abbrev applied_facts : Facts
    applied_facts = record before { finding = what.applied_finding }

    module _ (typed_before : AreTyped n old before) (here : lost n ≡ false) where
      kids : Typed f n what.applied_terms before.types.items (children f n)
      kids = children_typed n old before typed_before (children f n) (kids_before n) (below n here) what.applied_terms what.applied_grows

      pub its_types : is_expression (kind_in f n) ≡ true → HasTypes f h items what.applied_terms n (item f n).expression
      its_types e = known_types n here e what.applied_terms to_applied

      given : AreOperands f what.applied_terms (types_given before.types.items (children_in h.file n)) (kind_in f n) n
      given = node_given t h scope library refused parsed up items what.applied_terms applied_arena (tells what.applied_terms to_applied) applied_facts looked.0.finding.within before.types.items n its looked.1 kids its_types

      pub told : is_expression (kind_in f n) ≡ true → IsAppliedTold h what.applied_terms what.applied_finding n (stands_by h.file before.types.items n (item f n).expression) its
      told = node_told t h scope library refused parsed up items what.applied_terms applied_arena (tells what.applied_terms to_applied) applied_facts looked.0.finding.within before.types.items n its looked.1 kids its_types

      pub stands_then : NodeStandsFor f what.applied_terms applied_facts (kind_in f n) n its
      stands_then = node_stands t h scope library refused parsed up items what.applied_terms applied_arena (tells what.applied_terms to_applied) applied_facts looked.0.finding.within before.types.items n its looked.1 kids its_types

      node_typed : IsType new what.of (typed f n)
      node_typed = by (is_expression (kind_in f n)) refl what.typed
        where
          by : (b : Bool) → is_expression (kind_in f n) ≡ b → IsNodeTypeIf what.applied_terms what.typed_terms what.applied_finding what.typed_finding h n its before.types.items b items what.of → IsType new what.of (typed f n)
          by false e is = subst (λ (o : Option TypeId). IsType new o (typed f n)) (sym is) (subst (λ (t : Option CluType). IsType new None t) (sym (typed_as n false e)) tt)
          by true e is =
              subst (λ (t : Option CluType). IsType new what.of t) (sym (typed_as n true e))
              (type_grown what.typed_terms new what.grows what.of (typing.type_of f (item f n).expression)
              (type_noted h scope library refused up what.applied_terms what.typed_terms what.typed_grows applied_arena typed_arena (tells what.applied_terms to_applied) (tells what.typed_terms to_typed) applied_facts looked.0.finding.within what.typed_finding finds.finding.within looked.0.finding n its before.types.items items
              (values_there what.applied_terms to_applied n) (item f n).expression (number_at nodes n e) (operands_at f what.applied_terms (types_given before.types.items (children_in h.file n)) n (kind_in f n) e given)
              (known_types n here e what.applied_terms to_applied) (told e) what.of
              (typed_at_node what.applied_terms what.typed_terms what.applied_finding what.typed_finding h n its before.types.items items what.of nodes e is)))

  -- ---- all nodes

  pub sized : (n : ℕ) (terms : List Term) (facts : Facts) → AreKnown h items first n terms facts → length facts.types.items ≡ n
  sized zero terms facts known = ap (λ (l : List (Option TypeId)). length l) known.types
  sized (suc n) terms facts known =
      let same : facts.types.items ≡ known.1.types.items ++ known.3.2.of ∷ [] = ap vec_items known.3.3.types ∙ known.3.2.types in
      let count : length known.1.types.items ≡ n = sized n known.0 known.1 known.2 in
      ap (λ (l : List (Option TypeId)). length l) same ∙ (omega (arith, length-append known.1.types.items (known.3.2.of ∷ []), count))

  pub all_typed : (n : ℕ) (terms : List Term) (facts : Facts) → IsArena terms → AreKnown h items first n terms facts → AreTyped n terms facts
  all_typed zero terms facts arena known m lt here = absurd (omega (arith, lt))
  all_typed (suc n) terms facts arena known m lt here = by (all_typed n known.0 known.1 (arena_before known.0 terms grown arena) known.2) (cases_lt m n)
    where
      same : facts.types.items ≡ known.1.types.items ++ known.3.2.of ∷ []
      same = ap vec_items known.3.3.types ∙ known.3.2.types

      count : length known.1.types.items ≡ n
      count = sized n known.0 known.1 known.2

      grown : Grows known.0 terms
      grown = noted_grows h items n known.0 terms known.1 known.3.1 known.3.0 known.3.2

      by : AreTyped n known.0 known.1 → (m < n) ⊎ (n ≤ m) → IsType terms (type_of facts m) (typed f m)
      by before (inl less) =
          subst (λ (o : Option TypeId). IsType terms o (typed f m)) (sym (ap (λ (l : List (Option TypeId)). optional (slice_get l m)) same ∙ ap optional (get_before known.1.types.items known.3.2.of m (omega (arith, less, count)))))
          (type_grown known.0 terms grown (type_of known.1 m) (typed f m) (before m less here))
      by before (inr ge) =
          let at : m ≡ n = omega (arith, ge, lt) in
          subst (λ (o : Option TypeId). IsType terms o (typed f m)) (sym (ap (λ (l : List (Option TypeId)). optional (slice_get l m)) same ∙ ap optional (item_behind known.1.types.items known.3.2.of m (omega (arith, at, count)))))
          (subst (λ (k : ℕ). IsType terms known.3.2.of (typed f k)) (sym at)
          (node_typed n known.0 terms known.1 known.3.1 known.3.0 known.3.2 (known_grows h items first n known.0 known.1 known.2) arena (known_sound h items first n known.0 known.1 known.2 (arena_before known.0 terms grown arena) have) before
          (subst (λ (k : ℕ). lost k ≡ false) at here)))

  -- what is no node has no type
  pub types_told : (terms : List Term) (facts : Facts) → IsArena terms → AreKnown h items first (length nodes) terms facts → (n : ℕ) → lost n ≡ false → IsType terms (type_of facts n) (typed f n)
  types_told terms facts arena known n here = by (cases_lt n (length nodes))
    where
      by : (n < length nodes) ⊎ (length nodes ≤ n) → IsType terms (type_of facts n) (typed f n)
      by (inl less) = all_typed (length nodes) terms facts arena known n less here
      by (inr past) =
          subst (λ (o : Option TypeId). IsType terms o (typed f n)) (sym (ap optional (slice_get_past facts.types.items n (omega (arith, past, sized (length nodes) terms facts known)))))
          (subst (λ (t : Option CluType). IsType terms None t) (sym (typed_as n false (ap (λ (o : Option Node). is_expression (kind_of o)) (slice_get_past nodes n past)))) tt)

  -- ---- what is invoked and named

  -- of each of these nodes is noted what its lists say
  abbrev pub FollowAll : (ℕ → Noted) → (n : ℕ) (terms : List Term) (facts : Facts) → AreKnown h items first n terms facts → Type 0
  FollowAll of zero terms facts known = Unit {0}
  FollowAll of (suc n) terms facts known = (of n ≡ node_noted known.3.1.types.items h.file known.3.0 n) × FollowAll of n known.0 known.1 known.2

  pub lists_noted : (of : ℕ → Noted) (n : ℕ) (terms : List Term) (facts : Facts) (known : AreKnown h items first n terms facts) → FollowAll of n terms facts known → AreNoted of (lists_of facts.invocations) n
  unfolding joined_to table_to
  lists_noted of zero terms facts known all = subst (λ (l : Lists). AreNoted of l 0) (sym known.lists) (record { all = refl; arguments = refl; operations = refl; starts = refl; operation_starts = refl })
  lists_noted of (suc n) terms facts known all =
      let noted_here : AreNoted of (noted_behind h.file known.3.1.types.items known.3.2.typed_finding known.3.0 n (begun (lists_of known.1.invocations))) (suc n) =
      noted_more of h.file known.3.1.types.items known.3.2.typed_finding known.3.0 (lists_of known.1.invocations) n (lists_noted of n known.0 known.1 known.2 all.1) all.0 in
      let asked : AreNoted of (lists_of known.3.1.invocations) (suc n) =
      subst (λ (l : Lists). AreNoted of l (suc n)) (sym known.3.2.lists.lists)
      (noted_still of known.3.1.finding known.3.2.lists.its (noted_behind h.file known.3.1.types.items known.3.2.typed_finding known.3.0 n (begun (lists_of known.1.invocations))) (suc n) noted_here) in
      subst (λ (i : Invocations). AreNoted of (lists_of i) (suc n)) (sym known.3.3.invocations) asked

  -- what is noted of each node
  abbrev pub noted_at : (n : ℕ) (terms : List Term) (facts : Facts) → AreKnown h items first n terms facts → ℕ → Noted
  noted_at zero terms facts known m = nothing_noted
  noted_at (suc n) terms facts known m = if m == n then node_noted known.3.1.types.items h.file known.3.0 n else noted_at n known.0 known.1 known.2 m

  pub follow_at : (of : ℕ → Noted) (n : ℕ) (terms : List Term) (facts : Facts) (known : AreKnown h items first n terms facts) → ((m : ℕ) → m < n → of m ≡ noted_at n terms facts known m) → FollowAll of n terms facts known
  follow_at of zero terms facts known agree = tt
  follow_at of (suc n) terms facts known agree = (
    agree n (omega arith) ∙ ap (λ (b : Bool). if b then node_noted known.3.1.types.items h.file known.3.0 n else noted_at n known.0 known.1 known.2 n) (eq-eqb n n refl),
    follow_at of n known.0 known.1 known.2 (λ m lt. agree m (omega (arith, lt)) ∙ ap (λ (b : Bool). if b then node_noted known.3.1.types.items h.file known.3.0 n else noted_at n known.0 known.1 known.2 m) (apart m lt)),
  )
    where
      apart : (m : ℕ) → m < n → (m == n) ≡ false
      apart m lt = ne_eqb m n (λ e. absurd (omega (arith, lt, e)))

  -- what a node stands for, by all that is known then
  pub record IsNodeNoted (of : ℕ → Noted) (terms : List Term) (facts : Facts) (m : ℕ) : Type 0 where
    pub its : Applied
    pub ids : List (Option TypeId)
    pub noted : of m ≡ node_noted ids h.file its m
    pub there : AreThere (length facts.finding.founds.items) its
    pub stands : lost m ≡ false → NodeStandsFor f terms facts (kind_in f m) m its
    pub given : lost m ≡ false → AreOperands f terms (types_given ids (children_in h.file m)) (kind_in f m) m

  longer : (one other : List Kept) → Extends one other → (k : ℕ) → k < length one → k < length other
  longer one other more k lt = omega (arith, lt, length_extends one other more)

  pub node_later_noted : (of : ℕ → Noted) (old new : List Term) (before now : Facts) (m : ℕ) → Grows old new → AreWithin (length old) before.finding → Follows before.finding now.finding → IsNodeNoted of old before m → IsNodeNoted of new now m
  node_later_noted of old new before now m grows within follows was = record {
    its = was.its;
    ids = was.ids;
    noted = was.noted;
    there = there_later (length before.finding.founds.items) (length now.finding.founds.items) (longer before.finding.founds.items now.finding.founds.items follows.founds) was.its was.there;
    stands = λ here. node_later f old new grows before now within follows (kind_in f m) m was.its was.there (was.stands here);
    given = λ here. operands_later f old new grows (types_given was.ids (children_in h.file m)) (kind_in f m) m (was.given here);
  }

  pub all_noted : (of : ℕ → Noted) (n : ℕ) (terms : List Term) (facts : Facts) → IsArena terms → (known : AreKnown h items first n terms facts) → FollowAll of n terms facts known → (m : ℕ) → m < n → IsNodeNoted of terms facts m
  all_noted of zero terms facts arena known all m lt = absurd (omega (arith, lt))
  all_noted of (suc n) terms facts arena known all m lt = by (all_noted of n known.0 known.1 early known.2 all.1) (cases_lt m n)
    where
      grown : Grows known.0 terms
      grown = noted_grows h items n known.0 terms known.1 known.3.1 known.3.0 known.3.2

      early : IsArena known.0
      early = arena_before known.0 terms grown arena

      sound : IsSound h known.0 known.1
      sound = known_sound h items first n known.0 known.1 known.2 early have

      started : Grows first known.0
      started = known_grows h items first n known.0 known.1 known.2

      named_more : Follows known.3.1.finding facts.finding
      named_more =
          row_follows h items n known.0 terms known.1 known.3.1 facts known.3.0 known.3.2 known.3.3 arena
          (λ k. option_more (length first) (length known.0) (length_grows first known.0 started) (type_id (value_in h.file k)) (have.values k)) (λ k. option_more (length first) (length known.0) (length_grows first known.0 started) _ (have.own k)) sound

      after_all : Follows known.1.finding facts.finding
      after_all = follows_on known.1.finding known.3.1.finding facts.finding (follows n known.0 terms known.1 known.3.1 known.3.0 known.3.2 started arena sound) named_more

      after_applied : Follows known.3.2.applied_finding facts.finding
      after_applied = follows_on known.3.2.applied_finding known.3.1.finding facts.finding (applied_follows n known.0 terms known.1 known.3.1 known.3.0 known.3.2 started arena sound) named_more

      applied_grown : Grows known.3.2.applied_terms terms
      applied_grown = grows_on known.3.2.applied_terms known.3.2.typed_terms terms known.3.2.typed_grows known.3.2.grows

      typed_before : AreTyped n known.0 known.1
      typed_before = all_typed n known.0 known.1 early known.2

      there_then : AreThere (length known.3.2.applied_finding.founds.items) known.3.0
      there_then =
          applied_there h known.3.2.applied_terms known.3.2.applied_finding n (stands_at h.file known.1.types.items n items) known.3.0
          (looked n known.0 terms known.1 known.3.1 known.3.0 known.3.2 started arena sound).1

      all_types : AreTyped (suc n) terms facts
      all_types = all_typed (suc n) terms facts arena known

      children_then : lost n ≡ false → Typed f n terms known.3.1.types.items (children f n)
      children_then here =
          subst (λ (l : List (Option TypeId)). Typed f n terms l (children f n)) (ap vec_items known.3.3.types)
          (children_typed n terms facts (λ k less. all_types k (omega (arith, less))) (children f n) (kids_before n) (below n here) terms (grows_refl terms))

      this : IsNodeNoted of terms facts n
      this = record {
        its = known.3.0;
        ids = known.3.1.types.items;
        noted = all.0;
        there = there_later (length known.3.2.applied_finding.founds.items) (length facts.finding.founds.items) (longer known.3.2.applied_finding.founds.items facts.finding.founds.items after_applied.founds) known.3.0 there_then;
        stands = λ here.
            node_later f known.3.2.applied_terms terms applied_grown (applied_facts n known.0 terms known.1 known.3.1 known.3.0 known.3.2 started arena sound) facts (looked n known.0 terms known.1 known.3.1 known.3.0 known.3.2 started arena sound).0.finding.within after_applied (kind_in f n) n known.3.0 there_then
            (stands_then n known.0 terms known.1 known.3.1 known.3.0 known.3.2 started arena sound typed_before here);
        given = λ here.
            subst (λ (cs : List ℕ). AreOperands f terms (types_given known.3.1.types.items cs) (kind_in f n) n) (sym (kids_are f n)) (operands_given f n terms known.3.1.types.items t parsed (children_then here));
      }

      by : ((k : ℕ) → k < n → IsNodeNoted of known.0 known.1 k) → (m < n) ⊎ (n ≤ m) → IsNodeNoted of terms facts m
      by was (inl less) = node_later_noted of known.0 terms known.1 facts m grown sound.finding.within after_all (was m less)
      by was (inr ge) = let at : n ≡ m = omega (arith, ge, lt) in subst (IsNodeNoted of terms facts) at this

  -- ---- all fields

  module _ (wants : (n : ℕ) → lost n ≡ false → wanted_told (wanted_in h.file n) ≡ wanted f n) (terms : List Term) (facts : Facts) (arena : IsArena terms) (known : AreKnown h items first (length nodes) terms facts) where
    abbrev pub of_all : ℕ → Noted
    of_all = noted_at (length nodes) terms facts known

    pub follows_all : FollowAll of_all (length nodes) terms facts known
    follows_all = follow_at of_all (length nodes) terms facts known (λ m lt. refl)

    pub read_at : (n : ℕ) → n < length nodes → lost n ≡ false → AreInvocations terms facts (tables.invocations facts n) (invoking.invocations f n) × AreWhollyFound terms facts (tables.operations_at facts n) (invoking.operations_at f n)
    read_at n lt here =
        let one : IsNodeNoted of_all terms facts n = all_noted of_all (length nodes) terms facts arena known follows_all n lt in
        node_read h.file scope library refused terms facts one.ids n one.its (wants n here) of_all (length nodes) (lists_noted of_all (length nodes) terms facts known follows_all) lt one.noted (one.stands here) (one.given here)

    -- what is no node invokes nothing
    pub none_read : (n : ℕ) → length nodes ≤ n → (tables.invocations facts n ≡ []) × (tables.operations_at facts n ≡ [])
    none_read n past =
        let all : AreNoted of_all (lists_of facts.invocations) (length nodes) = lists_noted of_all (length nodes) terms facts known follows_all in (
          past_none facts.invocations.all.items facts.invocations.starts.items n (omega (arith, past, ap (λ (l : List ℕ). length l) all.starts, table_length (λ (k : ℕ). length (joined_to (spans_at of_all) k)) (length nodes))),
          past_none facts.invocations.operations.items facts.invocations.operation_starts.items n (omega (arith, past, ap (λ (l : List ℕ). length l) all.operation_starts, table_length (λ (k : ℕ). length (joined_to (operations_at of_all) k)) (length nodes))),
        )

    pub both : (n : ℕ) → lost n ≡ false → (n < length nodes) ⊎ (length nodes ≤ n) → AreInvocations terms facts (tables.invocations facts n) (invoking.invocations f n) × AreWhollyFound terms facts (tables.operations_at facts n) (invoking.operations_at f n)
    both n here (inl lt) = read_at n lt here
    both n here (inr past) =
        let none = none_read n past in
        let no_node : kind.File ≡ kind_in f n = sym (ap kind_of (slice_get_past nodes n past)) in (
          subst (λ (xs : List Invocation). AreInvocations terms facts xs (invoking.invocations f n)) (sym none.0) (subst (λ (k : NodeKind). AreInvocations terms facts [] (invoking.invocations_by f k n)) no_node tt),
          subst (λ (xs : List Operation). AreWhollyFound terms facts xs (invoking.operations_at f n)) (sym none.1) (subst (λ (k : NodeKind). AreWhollyFound terms facts [] (map (λ (i : invoking.Invocation). i.invoked) (invoking.invocations_by f k n) ++ invoking.operations_by f k n)) no_node tt),
        )

    pub facts_told : AreFacts f terms facts lost
    facts_told = record {
      below = below;
      types = types_told terms facts arena known;
      invoked = λ n here. (both n here (cases_lt n (length nodes))).0;
      operations = λ n here. found_alone terms facts (tables.operations_at facts n) (invoking.operations_at f n) (both n here (cases_lt n (length nodes))).1;
    }
