-- What asks something of types is noted of each node, one after the other, and what it asks in the end is what the definitions say there.
use Rattle.std.proofs.Common.{◌≡◌, ◌∙◌, ◌<◌, ◌≤◌, ◌⊎◌, inl, inr, ◌++◌, ◌==◌, ℕ, zero, suc, Bool, false, if◌then◌else◌, List, [], ◌∷◌, Contains, length, map, flat_map, get_or, Option, Some, None, refl, sym, ap, ap₂, subst, arith}
use Rattle.std.specs.List.{AllByRecursion}
use Rattle.std.proofs.lemmas.Bool.{cases_lt, eq-eqb, ne_eqb}
use Rattle.std.proofs.lemmas.Option.{slice_get_past}
use Rattle.clu_tree.specs.declared.node.Node.{Node}
use Rattle.clu_tree.specs.declared.node.NodeKind.{NodeKind}
use Rattle.clu_tree.specs.declared.node.NodeKind.TheVariants as kind
use Rattle.clu_parser.specs.Trees.{Text}
use Rattle.clu_types.specs.Arena.{Grows, IsArena}
use Rattle.clu_types.specs.declared.term.Term.{Term}
use Rattle.clu_types.specs.declared.term.TypeId.{TypeId}
use Rattle.clu_types.proofs.Carrying.{grows_on, length_grows}
use Rattle.clu_syntax.specs.Items.{Item}
use Rattle.clu_syntax.specs.Kinds.{kind_at, kind_of}
use Rattle.clu_meaning.specs.Scoping.{Scope}
use Rattle.clu_settle.specs.Lists.{type_id}
use Rattle.clu_checking.specs.Specifications.{Specification}
use Rattle.clu_checking.specs.Files.{File, kind_in}
use Rattle.clu_checking.specs.Invocations as invoking
use Rattle.clu_checking.specs.Operations.{Asked}
use Rattle.clu_checking.specs.Wanted as wants
use Rattle.clu_bindings.specs.declared.file.Headed.{Headed}
use Rattle.clu_bindings.specs.Named.{named_in}
use Rattle.clu_bindings.specs.Inside.{own_type}
use Rattle.clu_bindings.specs.Readers.{value_in}
use Rattle.clu_name_rules.specs.declared.tables.Tables.{Tables}
use Rattle.clu_operations.specs.declared.found.Asked.{Asked as KeptAsked}
use Rattle.clu_operations.specs.declared.found.FoundId.{FoundId}
use Rattle.clu_operations.specs.declared.found.Found.{Found as Kept}
use Rattle.clu_operations.specs.declared.finding.Finding.{Finding}
use Rattle.clu_operations.specs.Wished.{told_seen}
use Rattle.clu_operations.specs.Finding.{Extends, Follows, asked_by}
use Rattle.clu_operations.proofs.Bundling.{option_more}
use Rattle.clu_operations.proofs.Lasting.{follows_on}
use Rattle.clu_operations.proofs.Naming.{length_extends}
use Rattle.clu_typing.specs.declared.applied.Applied.{Applied}
use Rattle.clu_typing.specs.declared.facts.Facts.{Facts}
use Rattle.clu_typing.specs.declared.facts.Invocations.{Invocations}
use Rattle.clu_typing.specs.declared.facts.Operation.{Operation}
use Rattle.clu_typing.specs.declared.facts.Operation.TheVariants as operation
use Rattle.clu_typing.specs.Facts as reading
use Rattle.clu_typing.specs.Facts.{askers_at}
use Rattle.clu_typing.specs.Found.{FindsMore, IsAppliedTold, IsModuleTold}
use Rattle.clu_typing.specs.Invoking.{Lists, lists_of, begun, module_at, noted as noted_behind, with_asker}
use Rattle.clu_typing.specs.Pass.{AreKnown, IsNoted, IsSound}
use Rattle.clu_typing.specs.Stands.{stands_at}
use Rattle.clu_typing.proofs.Below.{arena_before, instance_there}
use Rattle.clu_typing.proofs.Growing.{grows_refl}
use Rattle.clu_typing.proofs.Passing.{known_grows, known_sound, noted_grows, row_follows}
use Rattle.clu_type_rules.specs.Askers.{AreAskers, asks_by_all}
use Rattle.clu_type_rules.specs.Needs.{World, world}
use Rattle.clu_passes.specs.Bound.{TellModules, TellTypeModules}
use Rattle.clu_passes.specs.ConstantTables.{AreTables, file_with}
use Rattle.clu_passes.specs.FactTables.{asks_noted}
use Rattle.clu_passes.specs.Met.{asked_told}
use Rattle.clu_passes.specs.NamesKnown.{AreActualsKnown}
use Rattle.clu_passes.specs.NotedLists.{Noted, node_noted, operations_of, asker_if, asker_of, askers_of, HaveAskers}
use Rattle.clu_passes.specs.PassNoted.{IsKnownFile}
use Rattle.clu_passes.specs.Settings.{AreAskedAt}
use Rattle.clu_passes.proofs.AsksFound.{AllThere, all_ask, asks_defined, asks_joined, node_there, one_asks}
use Rattle.clu_passes.proofs.ModulesAsk.{AskSo, named_ask}
use Rattle.clu_passes.proofs.NamedModules.{named_so}
use Rattle.clu_passes.proofs.NodesNoted as pass
use Rattle.clu_passes.proofs.NotedAskers.{askers_more, askers_read, no_askers, none_read}
use Rattle.clu_passes.proofs.NotedRead.{operations_read}
use Rattle.clu_passes.proofs.StandsLater.{IsThere, applied_there, asking_later, there_later, told_there}

-- ---- numbers of what asks

each_in : {X : Type 0} (P : X → Type 0) (xs : List X) (x : X) → AllByRecursion P xs → Contains xs x → P x
each_in {X} P xs x all h = by xs all h.0 h.1 h.2
  where
    by : (xs : List X) → AllByRecursion P xs → (k : ℕ) → k < length xs → get_or xs k x ≡ x → P x
    by [] all k lt is = absurd (omega (arith, lt))
    by (y ∷ xs) all zero lt is = subst P is all.0
    by (y ∷ xs) all (suc k) lt is = by xs all.1 k (omega (arith, lt)) is

module _ (founds : ℕ) where
  abbrev AreBelow : List FoundId → Type 0
  AreBelow ids = AllByRecursion (λ id. id.0 < founds) ids

  below_joined : (ids more : List FoundId) → AreBelow ids → AreBelow more → AreBelow (ids ++ more)
  below_joined [] more all rest = rest
  below_joined (id ∷ ids) more all rest = (all.0, below_joined ids more all.1 rest)

  asker_below : (g : Finding) (its : Operation) → IsThere founds its → AreBelow (asker_of g its)
  asker_below g operation.Missing there = tt
  asker_below g (operation.Object of) there = tt
  asker_below g (operation.Found id) there = by (asked_by g id)
    where
      by : (xs : List KeptAsked) → AreBelow (asker_if xs id)
      by [] = tt
      by (x ∷ xs) = (there, tt)

  askers_below : (g : Finding) (os : List Operation) → AllThere founds os → AreBelow (askers_of g os)
  askers_below g [] there = tt
  askers_below g (o ∷ os) there = below_joined (asker_of g o) (askers_of g os) (asker_below g o there.0) (askers_below g os there.1)

below_more : (few many : ℕ) → few ≤ many → (ids : List FoundId) → AreBelow few ids → AreBelow many ids
below_more few many le [] all = tt
below_more few many le (id ∷ ids) all = (omega (arith, le, all.0), below_more few many le ids all.1)

longer : (one other : List Kept) → Extends one other → length one ≤ length other
longer one other more = omega (arith, length_extends one other more)

module _ (t : Text) (h : Headed) (scope : Scope) (library : List Specification) (refused : List ℕ) (items : ℕ → Item) (first : List Term) (lost : ℕ → Bool) (file : IsKnownFile t h (file_with h.file scope library refused) items first lost) where
  abbrev f : File
  f = file_with h.file scope library refused

  abbrev nodes : List Node
  nodes = h.file.syntax.now

  -- ---- of each node what was noted there

  abbrev asked_then : (n : ℕ) (old new : List Term) (before noted : Facts) (its : Applied) → IsNoted h items n old new before noted its → List FoundId
  asked_then n old new before noted its what = askers_of what.typed_finding (operations_of (node_noted noted.types.items h.file its n)) ++ asker_of noted.finding what.lists.its

  abbrev FollowAll : (of : ℕ → Noted) (n : ℕ) (terms : List Term) (facts : Facts) → AreKnown h items first n terms facts → Type 0
  FollowAll of n terms facts known = pass.FollowAll t h scope library refused file.parsed file.library items first file.types file.heads lost file.below file.names of n terms facts known

  abbrev AskAll : (ℕ → List FoundId) → (n : ℕ) (terms : List Term) (facts : Facts) → AreKnown h items first n terms facts → Type 0
  AskAll askers zero terms facts known = Unit {0}
  AskAll askers (suc n) terms facts known = (askers n ≡ asked_then n known.0 terms known.1 known.3.1 known.3.0 known.3.2) × AskAll askers n known.0 known.1 known.2

  askers_noted : (askers : ℕ → List FoundId) (n : ℕ) (terms : List Term) (facts : Facts) (known : AreKnown h items first n terms facts) → AskAll askers n terms facts known → HaveAskers askers (lists_of facts.invocations) n
  askers_noted askers zero terms facts known all = no_askers askers (lists_of facts.invocations) (ap (λ (l : Lists). l.askers) known.lists) (ap (λ (l : Lists). l.asker_starts) known.lists)
  askers_noted askers (suc n) terms facts known all =
      let here : HaveAskers askers (with_asker known.3.1.finding known.3.2.lists.its (noted_behind h.file known.3.1.types.items known.3.2.typed_finding known.3.0 n (begun (lists_of known.1.invocations)))) (suc n) =
      askers_more askers h.file known.3.1.types.items known.3.2.typed_finding known.3.1.finding known.3.0 known.3.2.lists.its (lists_of known.1.invocations) n (askers_noted askers n known.0 known.1 known.2 all.1) all.0 in
      let asked : HaveAskers askers (lists_of known.3.1.invocations) (suc n) = subst (λ (l : Lists). HaveAskers askers l (suc n)) (sym known.3.2.lists.lists) here in
      subst (λ (i : Invocations). HaveAskers askers (lists_of i) (suc n)) (sym known.3.3.invocations) asked

  abbrev asked_to : (n : ℕ) (terms : List Term) (facts : Facts) → AreKnown h items first n terms facts → ℕ → List FoundId
  asked_to zero terms facts known m = []
  asked_to (suc n) terms facts known m = if m == n then asked_then n known.0 terms known.1 known.3.1 known.3.0 known.3.2 else asked_to n known.0 known.1 known.2 m

  ask_at : (askers : ℕ → List FoundId) (n : ℕ) (terms : List Term) (facts : Facts) (known : AreKnown h items first n terms facts) → ((m : ℕ) → m < n → askers m ≡ asked_to n terms facts known m) → AskAll askers n terms facts known
  ask_at askers zero terms facts known agree = tt
  ask_at askers (suc n) terms facts known agree = (
    agree n (omega arith) ∙ ap (λ (b : Bool). if b then asked_then n known.0 terms known.1 known.3.1 known.3.0 known.3.2 else asked_to n known.0 known.1 known.2 n) (eq-eqb n n refl),
    ask_at askers n known.0 known.1 known.2
        (λ m lt. agree m (omega (arith, lt)) ∙ ap (λ (b : Bool). if b then asked_then n known.0 terms known.1 known.3.1 known.3.0 known.3.2 else asked_to n known.0 known.1 known.2 m) (apart m lt)),
  )
    where
      apart : (m : ℕ) → m < n → (m == n) ≡ false
      apart m lt = ne_eqb m n (λ e. absurd (omega (arith, lt, e)))

  -- what was known when the node was noted, and that all was kept since
  record Past (of : ℕ → Noted) (askers : ℕ → List FoundId) (terms : List Term) (facts : Facts) (m : ℕ) : Type 0 where
    old : List Term
    made : List Term
    before : Facts
    noted : Facts
    its : Applied
    what : IsNoted h items m old made before noted its
    started : Grows first old
    arena : IsArena made
    sound : IsSound h old before
    grows : Grows made terms
    kept : Follows noted.finding facts.finding
    noted_is : of m ≡ node_noted noted.types.items h.file its m
    askers_are : askers m ≡ asked_then m old made before noted its what

  past : (of : ℕ → Noted) (askers : ℕ → List FoundId) (n : ℕ) (terms : List Term) (facts : Facts) → IsArena terms → (known : AreKnown h items first n terms facts) → FollowAll of n terms facts known → AskAll askers n terms facts known → (m : ℕ) → m < n → Past of askers terms facts m
  past of askers zero terms facts arena known follow all m lt = absurd (omega (arith, lt))
  past of askers (suc n) terms facts arena known follow all m lt = by (past of askers n known.0 known.1 early known.2 follow.1 all.1) (cases_lt m n)
    where
      grown : Grows known.0 terms
      grown = noted_grows h items n known.0 terms known.1 known.3.1 known.3.0 known.3.2

      early : IsArena known.0
      early = arena_before known.0 terms grown arena

      sound : IsSound h known.0 known.1
      sound = known_sound h items first n known.0 known.1 known.2 early file.types

      started : Grows first known.0
      started = known_grows h items first n known.0 known.1 known.2

      named_more : Follows known.3.1.finding facts.finding
      named_more =
          row_follows h items n known.0 terms known.1 known.3.1 facts known.3.0 known.3.2 known.3.3 arena
          (λ k. option_more (length first) (length known.0) (length_grows first known.0 started) (type_id (value_in h.file k)) (file.types.values k)) (λ k. option_more (length first) (length known.0) (length_grows first known.0 started) (own_type h.file k) (file.types.own k)) sound

      to_last : Follows known.1.finding facts.finding
      to_last =
          follows_on known.1.finding known.3.1.finding facts.finding
          (pass.follows t h scope library refused file.parsed file.library items first file.types file.heads lost file.below file.names n known.0 terms known.1 known.3.1 known.3.0 known.3.2 started arena sound) named_more

      this : Past of askers terms facts n
      this = record {
        old = known.0;
        made = terms;
        before = known.1;
        noted = known.3.1;
        its = known.3.0;
        what = known.3.2;
        started = started;
        arena = arena;
        sound = sound;
        grows = grows_refl terms;
        kept = named_more;
        noted_is = follow.0;
        askers_are = all.0;
      }

      by : ((k : ℕ) → k < n → Past of askers known.0 known.1 k) → (m < n) ⊎ (n ≤ m) → Past of askers terms facts m
      by was (inl less) =
          let p : Past of askers known.0 known.1 m = was m less in
          record {
            old = p.old;
            made = p.made;
            before = p.before;
            noted = p.noted;
            its = p.its;
            what = p.what;
            started = p.started;
            arena = p.arena;
            sound = p.sound;
            grows = grows_on p.made known.0 terms p.grows grown;
            kept = follows_on p.noted.finding known.1.finding facts.finding p.kept to_last;
            noted_is = p.noted_is;
            askers_are = p.askers_are;
          }
      by was (inr ge) = let at : n ≡ m = omega (arith, ge, lt) in subst (Past of askers terms facts) at this

  -- ---- one node

  module _ (of : ℕ → Noted) (askers : ℕ → List FoundId) (terms : List Term) (facts : Facts) (m : ℕ) (p : Past of askers terms facts m) where
    abbrev last : World
    last = world terms facts.finding

    abbrev typed : List Term
    typed = p.what.typed_terms

    abbrev operations : List Operation
    operations = operations_of (node_noted p.noted.types.items h.file p.its m)

    abbrev named : Operation
    named = p.what.lists.its

    looked_then : FindsMore h p.what.applied_terms p.before.finding p.what.applied_finding × IsAppliedTold h p.what.applied_terms p.what.applied_finding m (stands_at h.file p.before.types.items m items) p.its
    looked_then = pass.looked t h scope library refused file.parsed file.library items first file.types file.heads lost file.below file.names m p.old p.made p.before p.noted p.its p.what p.started p.arena p.sound

    finds_then : FindsMore h typed p.what.applied_finding p.what.typed_finding
    finds_then = pass.finds t h scope library refused file.parsed file.library items first file.types file.heads lost file.below file.names m p.old p.made p.before p.noted p.its p.what p.started p.arena p.sound

    modules_then : FindsMore h p.made p.what.typed_finding p.noted.finding
    modules_then = pass.modules t h scope library refused file.parsed file.library items first file.types file.heads lost file.below file.names m p.old p.made p.before p.noted p.its p.what p.started p.arena p.sound

    to_typed : Grows first typed
    to_typed = grows_on first p.what.applied_terms typed (grows_on first p.old p.what.applied_terms p.started p.what.applied_grows) p.what.typed_grows

    to_made : Grows first p.made
    to_made = grows_on first typed p.made to_typed p.what.grows

    typed_kept : Follows p.what.typed_finding facts.finding
    typed_kept = follows_on p.what.typed_finding p.noted.finding facts.finding modules_then.follows p.kept

    -- ---- what its operations ask

    operations_there : AllThere (length p.what.typed_finding.founds.items) operations
    operations_there =
        node_there (length p.what.typed_finding.founds.items) p.noted.types.items h.file p.its m
        (there_later (length p.what.applied_finding.founds.items) (length p.what.typed_finding.founds.items)
        (λ k lt. (let more : length p.what.applied_finding.founds.items ≤ length p.what.typed_finding.founds.items = longer p.what.applied_finding.founds.items p.what.typed_finding.founds.items finds_then.follows.founds in omega (arith, lt, more))) p.its
        (applied_there h p.what.applied_terms p.what.applied_finding m (stands_at h.file p.before.types.items m items) p.its looked_then.1))

    operations_ask : map asked_told (asks_by_all last (askers_of p.what.typed_finding operations)) ≡ flat_map (asks_noted terms facts) operations
    operations_ask = all_ask typed terms (grows_on typed p.made terms p.what.grows p.grows) p.what.typed_finding facts finds_then.finding.within typed_kept operations operations_there

    -- ---- what a module asks that it names

    module_told : IsModuleTold h p.made p.noted.finding (module_at h.file typed m) named
    module_told =
        p.what.lists.told (instance_there h.file typed (length typed) (λ k. option_more (length first) (length typed) (length_grows first typed to_typed) (type_id (value_in h.file k)) (file.types.values k)) m) finds_then.finding

    module_there : IsThere (length p.noted.finding.founds.items) named
    module_there = by (module_at h.file typed m) module_told
      where
        by : (of : Option TypeId) → IsModuleTold h p.made p.noted.finding of named → IsThere (length p.noted.finding.founds.items) named
        by (Some id) told = told_there h p.made p.noted.finding m id (told_seen h p.made p.noted.finding.words None id None) named told
        by None missing = subst (IsThere (length p.noted.finding.founds.items)) (sym missing) tt

    module_asks : map asked_told (asks_by_all last (asker_of p.noted.finding named)) ≡ asks_noted terms facts named
    module_asks = one_asks p.made terms p.grows p.noted.finding facts modules_then.finding.within p.kept named module_there

    -- ---- both

    both_ask : map asked_told (asks_by_all last (askers m)) ≡ flat_map (asks_noted terms facts) operations ++ asks_noted terms facts named
    both_ask =
        ap (λ (ids : List FoundId). map asked_told (asks_by_all last ids)) p.askers_are
        ∙ asks_joined last (askers_of p.what.typed_finding operations) (asker_of p.noted.finding named)
        ∙ ap₂ (λ (xs ys : List Asked). xs ++ ys) operations_ask module_asks

    its_below : AllByRecursion (λ id. id.0 < length facts.finding.founds.items) (askers m)
    its_below =
        subst (λ (ids : List FoundId). AllByRecursion (λ id. id.0 < length facts.finding.founds.items) ids) (sym p.askers_are)
        (below_joined (length facts.finding.founds.items) (askers_of p.what.typed_finding operations) (asker_of p.noted.finding named)
        (below_more (length p.what.typed_finding.founds.items) (length facts.finding.founds.items) (longer p.what.typed_finding.founds.items facts.finding.founds.items typed_kept.founds) (askers_of p.what.typed_finding operations)
        (askers_below (length p.what.typed_finding.founds.items) p.what.typed_finding operations operations_there))
        (below_more (length p.noted.finding.founds.items) (length facts.finding.founds.items) (longer p.noted.finding.founds.items facts.finding.founds.items p.kept.founds) (asker_of p.noted.finding named) (asker_below (length p.noted.finding.founds.items) p.noted.finding named module_there)))

    module _ (tables : Tables) (are : AreTables f (record tables { file = h.file })) (from_first : Grows first tables.types.now) (names : TellModules f h.file) (types : TellTypeModules f h.file) (actuals : AreActualsKnown h.file lost) (here : lost m ≡ false) where
      asked_so : AskSo h scope library refused file.library typed p.made p.what.grows (arena_before typed p.made p.what.grows p.arena) p.arena (file.heads typed to_typed) (file.heads p.made to_made) (record p.noted { finding = p.what.typed_finding }) finds_then.finding.within p.noted modules_then.finding.within finds_then.finding
          named (wants.named_at f m)
      asked_so =
          named_ask h scope library refused file.library typed p.made p.what.grows (arena_before typed p.made p.what.grows p.arena) p.arena (file.heads typed to_typed) (file.heads p.made to_made) (record p.noted { finding = p.what.typed_finding }) finds_then.finding.within p.noted modules_then.finding.within finds_then.finding
          names types tables m (wants.named_at f m) (named_in h.file m)
          (named_so h tables scope library refused file.parsed.forms file.parsed.tree are first from_first file.types.values typed p.made to_typed to_made items m (λ e. file.names m here e p.made to_made) (kind_at nodes m) refl (file.wanted m here) (actuals.index m here) (actuals.type m here))
          named module_told

      module_defined : asks_noted terms facts named ≡ flat_map (invoking.asks_of_name f) (wants.named_at f m)
      module_defined = asking_later f p.made terms p.grows p.noted facts modules_then.finding.within p.kept named asked_so.found module_there asked_so.asking ∙ asked_so.asks

  -- ---- all nodes

  module _ (terms : List Term) (facts : Facts) (arena : IsArena terms) (known : AreKnown h items first (length nodes) terms facts) where
    abbrev of_all : ℕ → Noted
    of_all = pass.noted_at t h scope library refused file.parsed file.library items first file.types file.heads lost file.below file.names (length nodes) terms facts known

    abbrev askers_all : ℕ → List FoundId
    askers_all = asked_to (length nodes) terms facts known

    follow_all : FollowAll of_all (length nodes) terms facts known
    follow_all = pass.follow_at t h scope library refused file.parsed file.library items first file.types file.heads lost file.below file.names of_all (length nodes) terms facts known (λ m lt. refl)

    ask_all : AskAll askers_all (length nodes) terms facts known
    ask_all = ask_at askers_all (length nodes) terms facts known (λ m lt. refl)

    have_askers : HaveAskers askers_all (lists_of facts.invocations) (length nodes)
    have_askers = askers_noted askers_all (length nodes) terms facts known ask_all

    past_at : (n : ℕ) → n < length nodes → Past of_all askers_all terms facts n
    past_at n lt = past of_all askers_all (length nodes) terms facts arena known follow_all ask_all n lt

    -- what asks was found
    pub askers_there : (n : ℕ) → AreAskers (world terms facts.finding) (askers_at facts.invocations n)
    askers_there n id h_in = by (cases_lt n (length nodes))
      where
        by : (n < length nodes) ⊎ (length nodes ≤ n) → id.0 < length facts.finding.founds.items
        by (inl less) =
            each_in (λ (id : FoundId). id.0 < length facts.finding.founds.items) (askers_all n) id (its_below of_all askers_all terms facts n (past_at n less))
            (subst (λ (ids : List FoundId). Contains ids id) (askers_read askers_all (lists_of facts.invocations) (length nodes) have_askers n less) h_in)
        by (inr past) = let none : Contains [] id = subst (λ (ids : List FoundId). Contains ids id) (none_read askers_all (lists_of facts.invocations) (length nodes) have_askers n past) h_in in absurd (omega (arith, none.1))

    module _ (tables : Tables) (are : AreTables f (record tables { file = h.file })) (from_first : Grows first tables.types.now) (names : TellModules f h.file) (types : TellTypeModules f h.file) (actuals : AreActualsKnown h.file lost) where
      node_asks : (n : ℕ) → lost n ≡ false → n < length nodes → map asked_told (asks_by_all (world terms facts.finding) (askers_at facts.invocations n)) ≡ invoking.asks_at f n
      node_asks n here less =
          let p : Past of_all askers_all terms facts n = past_at n less in
          let operations_same : reading.operations_at facts n ≡ operations_of (node_noted p.noted.types.items h.file p.its n) =
          operations_read facts of_all (length nodes)
          (pass.lists_noted t h scope library refused file.parsed file.library items first file.types file.heads lost file.below file.names of_all (length nodes) terms facts known follow_all) n less
          ∙ ap operations_of p.noted_is in
          let found = pass.both t h scope library refused file.parsed file.library items first file.types file.heads lost file.below file.names file.wanted terms facts arena known n here (inl less) in
          ap (λ (ids : List FoundId). map asked_told (asks_by_all (world terms facts.finding) ids)) (askers_read askers_all (lists_of facts.invocations) (length nodes) have_askers n less)
          ∙ both_ask of_all askers_all terms facts n p
          ∙ ap₂ (λ (xs ys : List Asked). xs ++ ys)
          (ap (flat_map (asks_noted terms facts)) (sym operations_same) ∙ asks_defined f terms facts (reading.operations_at facts n) (invoking.operations_at f n) found.1)
          (module_defined of_all askers_all terms facts n p tables are from_first names types actuals here)

      -- what is no node asks nothing
      none_asks : (n : ℕ) → length nodes ≤ n → map asked_told (asks_by_all (world terms facts.finding) (askers_at facts.invocations n)) ≡ invoking.asks_at f n
      none_asks n past =
          ap (λ (ids : List FoundId). map asked_told (asks_by_all (world terms facts.finding) ids)) (none_read askers_all (lists_of facts.invocations) (length nodes) have_askers n past)
          ∙ ap (λ (k : NodeKind). flat_map (invoking.asks_of f) (map (λ (i : invoking.Invocation). i.invoked) (invoking.invocations_by f k n) ++ invoking.operations_by f k n) ++ flat_map (invoking.asks_of_name f) (wants.named_as f k (wants.wanted f n) n)) no_node
        where
          no_node : kind.File ≡ kind_in f n
          no_node = sym (ap kind_of (slice_get_past nodes n past))

      pub asked_noted : AreAskedAt f terms facts.finding facts.invocations lost
      asked_noted n here = by (cases_lt n (length nodes))
        where
          by : (n < length nodes) ⊎ (length nodes ≤ n) → map asked_told (asks_by_all (world terms facts.finding) (askers_at facts.invocations n)) ≡ invoking.asks_at f n
          by (inl less) = node_asks n here less
          by (inr past) = none_asks n past
