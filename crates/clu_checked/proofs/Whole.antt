-- The tables of which a check answers are those of the file of a text and a library, whole: before types are refused, and when the
-- rules are asked.
use Rattle.std.proofs.Common.{◌≡◌, ◌∙◌, ◌+◌, ◌-◌, ◌^◌, ◌<◌, ◌↔◌, ℕ, true, Bool, List, [], All, length, map, nat_lt, slice_get, Option, Some, sym, ap, subst, arith, append-nil}
use Rattle.std.proofs.lemmas.List.{length-map}
use Rattle.clu_base.specs.declared.constants.Const.{Const}
use Rattle.clu_base.specs.declared.rules.Refused.{Refused}
use Rattle.clu_tree.specs.declared.node.Node.{Node}
use Rattle.clu_tree.specs.Nodes.{modules}
use Rattle.clu_parser.specs.Trees.{Text}
use Rattle.clu_syntax.specs.declared.round.Round.{Round}
use Rattle.clu_syntax.specs.Rounds.{AreRounds}
use Rattle.clu_syntax.specs.Syntax.{Identifier}
use Rattle.clu_names.specs.declared.binding.Names.{Names}
use Rattle.clu_names.specs.declared.scopes.Declared.{Declared}
use Rattle.clu_names.specs.Denotes.{bound_to, starts_to}
use Rattle.clu_names.specs.Scopes.{declarations}
use Rattle.clu_types.specs.declared.spec.Spec.{Spec}
use Rattle.clu_types.specs.declared.term.Term.{Term}
use Rattle.clu_types.specs.Arena.{Grows, IsArena}
use Rattle.clu_types.proofs.Carrying.{grows_on}
use Rattle.clu_checking.specs.Specifications.{Specification, specification_told}
use Rattle.clu_checking.specs.Files.{scope_in}
use Rattle.clu_declares.specs.Declares.{AreFew, IsParsed}
use Rattle.clu_declares.proofs.Each.{are_meanings}
use Rattle.clu_settle.specs.declared.meanings.Meaning.{Meaning}
use Rattle.clu_settle.specs.declared.value.Value.{Value}
use Rattle.clu_settle.specs.declared.value.Value.TheVariants as value
use Rattle.clu_settle.specs.Circular.{is_circular}
use Rattle.clu_settle.specs.Lists.{value_of}
use Rattle.clu_settle.specs.Lost.{AreRead, IsLost}
use Rattle.clu_settle.specs.Meant.{meanings_of}
use Rattle.clu_settle.specs.Names.{AreMeanings}
use Rattle.clu_settle.specs.Settled.{AreSettled}
use Rattle.clu_settle.specs.Values.{TypeWithin}
use Rattle.clu_bindings.specs.declared.bindings.ModuleKnown.{ModuleKnown}
use Rattle.clu_bindings.specs.declared.file.File.{File}
use Rattle.clu_bindings.specs.Bindings.{AreBindings}
use Rattle.clu_bindings.specs.Modules.{AreModules, modules_in}
use Rattle.clu_typing.proofs.Below.{arena_before}
use Rattle.clu_name_rules.specs.declared.tables.Tables.{Tables}
use Rattle.clu_name_rules.specs.Lengths.{constant_length}
use Rattle.clu_name_rules.specs.Own.{own_places}
use Rattle.clu_name_rules.specs.Repeated.{AreNoted, notes_of}
use Rattle.clu_name_rules.specs.Words.{words_to}
use Rattle.clu_passes.specs.ConstantTables.{file_with}
use Rattle.clu_passes.specs.Made.{AreMade, IsMade, IsWhole}
use Rattle.clu_passes.specs.Tables.{AreNames}
use Rattle.clu_check_mod.specs.Answered.{AreTables, IsFirst}
use Rattle.clu_check_mod.specs.declared.walk.Extent.{Extent}
use Rattle.clu_checked.specs.Checked.{known, tables}
use Rattle.clu_checked.proofs.Later.{modules_fewer, modules_later, settled_later}

module _ (t : Text) (nodes : List Node) (parsed : IsParsed t nodes) (library : List Spec) (asked : Extent) (first : Option Refused) (is : IsFirst nodes library asked first)
    (few : AreFew nodes is.rounds) (few_modules : length (modules nodes) + length library < 2 ^ 32 - 1) where
  -- the library, as the definitions have it
  abbrev specs : List Specification
  specs = map specification_told library

  abbrev f : File
  f = is.is.file

  abbrev ns : List Node
  ns = f.syntax.now

  abbrev rs : List Round
  rs = f.rounds.now

  -- ---- one arena grows out of the other

  -- when texts are measured and types are refused
  abbrev first_types : List Term
  first_types = is.is.types

  abbrev last_types : List Term
  last_types = is.is.is.is.is.known.tables.types.now

  first_grown : Grows is.settled.types first_types
  first_grown = is.is.grows

  pub last_grown : Grows first_types last_types
  last_grown = grows_on first_types is.is.is.terms last_types is.is.is.grows (grows_on is.is.is.terms is.is.is.is.terms last_types is.is.is.is.grows is.is.is.is.is.asks.grows)

  pub last_arena : IsArena last_types
  last_arena = is.is.is.is.is.arena

  pub first_arena : IsArena first_types
  first_arena = arena_before first_types last_types last_grown last_arena

  -- the arenas between: with the types of heads, and with those of all nodes
  pub headed_arena : IsArena is.is.is.terms
  headed_arena = arena_before is.is.is.terms last_types (grows_on is.is.is.terms is.is.is.is.terms last_types is.is.is.is.grows is.is.is.is.is.asks.grows) last_arena

  pub typed_arena : IsArena is.is.is.is.terms
  typed_arena = arena_before is.is.is.is.terms last_types is.is.is.is.is.asks.grows last_arena

  -- ---- the file

  declared_same : declarations ns rs ≡ declarations nodes is.rounds
  declared_same = ap (λ (xs : List Node). declarations xs rs) is.is.nodes_are ∙ ap (declarations nodes) is.is.rounds_are

  pub file_declared : f.names.now.declared.items ≡ declarations ns rs
  file_declared = ap (λ (names : Names). names.declared.items) is.is.names_are ∙ is.names_are.declared ∙ sym declared_same

  pub file_parsed : IsParsed t ns
  file_parsed = subst (IsParsed t) (sym is.is.nodes_are) parsed

  pub file_surrounded : AreRounds ns rs
  file_surrounded = subst (λ (xs : List Node). AreRounds xs rs) (sym is.is.nodes_are) (subst (AreRounds nodes) (sym is.is.rounds_are) is.surrounded)

  file_few : AreFew ns rs
  file_few = subst (λ (xs : List Node). AreFew xs rs) (sym is.is.nodes_are) (subst (AreFew nodes) (sym is.is.rounds_are) few)

  named_so : is.names.declared.items ≡ declarations ns rs
  named_so = is.names_are.declared ∙ sym declared_same

  file_names : (refused : List ℕ) → AreNames (file_with f (scope_in ns rs) specs refused) f.names.now
  file_names refused = record {
    declared = file_declared;
    bound =
        ap (λ (names : Names). names.bound.items) is.is.names_are
        ∙ is.names_are.bound
        ∙ ap (λ (ds : List Declared). bound_to nodes ds (length nodes)) named_so
        ∙ ap (λ (xs : List Node). bound_to xs (declarations ns rs) (length xs)) (sym is.is.nodes_are);
    starts =
        ap (λ (names : Names). names.starts.items) is.is.names_are
        ∙ is.names_are.starts
        ∙ ap (λ (ds : List Declared). starts_to nodes ds (length nodes)) named_so
        ∙ ap (λ (xs : List Node). starts_to xs (declarations ns rs) (length xs)) (sym is.is.nodes_are);
  }

  -- ---- its values

  meanings_said : is.settled.meanings.items ≡ meanings_of nodes is.rounds (declarations nodes is.rounds)
  meanings_said = is.values.meanings ∙ ap (meanings_of nodes is.rounds) is.names_are.declared

  settled_first : AreSettled nodes (scope_in nodes is.rounds) is.settled.types is.settled.constants is.settled.values.items
  settled_first =
      is.values.known (scope_in nodes is.rounds)
      (subst (AreMeanings nodes (scope_in nodes is.rounds)) (sym meanings_said) (are_meanings t nodes is.rounds parsed is.surrounded few))

  module _ (types : List Term) (grows : Grows is.settled.types types) where
    settled_there : AreSettled nodes (scope_in nodes is.rounds) types is.settled.constants is.settled.values.items
    settled_there = settled_later is.settled.types types grows nodes (scope_in nodes is.rounds) is.settled.constants is.settled.values.items settled_first

    file_settled : AreSettled ns (scope_in ns rs) types f.constants.now f.values.now
    file_settled =
        subst (λ (xs : List Node). AreSettled xs (scope_in xs rs) types f.constants.now f.values.now) (sym is.is.nodes_are)
        (subst (λ (rounds : List Round). AreSettled nodes (scope_in nodes rounds) types f.constants.now f.values.now) (sym is.is.rounds_are)
        (subst (λ (cs : List Const). AreSettled nodes (scope_in nodes is.rounds) types cs f.values.now) (sym is.is.constants)
        (subst (AreSettled nodes (scope_in nodes is.rounds) types is.settled.constants) (sym is.is.values) settled_there)))

    file_modules : AreModules f.bindings.now.modules (modules_in types f.values.now ns f.library.now)
    file_modules =
        subst (λ (xs : List Spec). AreModules f.bindings.now.modules (modules_in types f.values.now ns xs)) (sym is.is.library_is)
        (subst (λ (xs : List Node). AreModules f.bindings.now.modules (modules_in types f.values.now xs library)) (sym is.is.nodes_are)
        (subst (λ (vs : List Value). AreModules f.bindings.now.modules (modules_in types vs nodes library)) (sym is.is.values)
        (subst (AreModules f.bindings.now.modules) (sym (modules_later is.settled.types types grows is.settled.values.items settled_first.within.0 nodes library)) is.is.modules)))

  file_read : AreRead ns (meanings_of ns rs f.names.now.declared.items) f.values.now
  file_read =
      subst (λ (xs : List Node). AreRead xs (meanings_of xs rs f.names.now.declared.items) f.values.now) (sym is.is.nodes_are)
      (subst (λ (rounds : List Round). AreRead nodes (meanings_of nodes rounds f.names.now.declared.items) f.values.now) (sym is.is.rounds_are)
      (subst (λ (names : Names). AreRead nodes (meanings_of nodes is.rounds names.declared.items) f.values.now) (sym is.is.names_are)
      (subst (λ (vs : List Value). AreRead nodes (meanings_of nodes is.rounds is.names.declared.items) vs) (sym is.is.values)
      (subst (λ (ms : List Meaning). AreRead nodes ms is.settled.values.items) is.values.meanings is.values.read))))

  file_bindings : AreBindings ns rs f.names.now f.values.now f.bindings.now
  file_bindings =
      subst (λ (xs : List Node). AreBindings xs rs f.names.now f.values.now f.bindings.now) (sym is.is.nodes_are)
      (subst (λ (rounds : List Round). AreBindings nodes rounds f.names.now f.values.now f.bindings.now) (sym is.is.rounds_are)
      (subst (λ (names : Names). AreBindings nodes is.rounds names f.values.now f.bindings.now) (sym is.is.names_are)
      (subst (λ (vs : List Value). AreBindings nodes is.rounds is.names vs f.bindings.now) (sym is.is.values) is.is.bindings)))

  few_known : length f.bindings.now.modules.known.items < 2 ^ 32 - 1
  few_known =
      let all : List (Identifier × ModuleKnown) = modules_in is.settled.types is.settled.values.items nodes library in
      let size : length f.bindings.now.modules.known.items ≡ length all = ap (λ (ms : List ModuleKnown). length ms) is.is.modules.known ∙ length-map all (λ (m : Identifier × ModuleKnown). m.1) in
      let fewer = modules_fewer is.settled.types is.settled.values.items nodes library in
      omega (arith, size, fewer, few_modules)

  -- ---- as the calls make it

  pub file_made : (types : List Term) → Grows is.settled.types types → IsArena types → (refused : List ℕ) → IsMade t f specs refused types
  file_made types grows arena refused = record {
    parsed = file_parsed;
    rounds = file_surrounded;
    few = file_few;
    names = file_names refused;
    arena = arena;
    values = file_settled types grows;
    read = file_read;
    bindings = file_bindings;
    kept = ap (map specification_told) (sym is.is.library_is);
    modules = file_modules types grows;
    few_modules = few_known;
  }

  -- ---- the tables, with the types of this arena

  module _ (its : Tables) (of : AreTables its f is.is.lists is.is.is.long) (types_are : Grows first_types its.types.now) (arena : IsArena its.types.now) where
    -- a fact of the file is one of theirs
    of_its : (P : File → Type 0) → P f → P its.file
    of_its P = subst P (sym of.file_is)

    marks : length rs ≡ length ns → (k : ℕ) → k < length f.names.now.declared.items → (slice_get its.circular.now k ≡ Some true) ↔ (is_circular ns rs f.names.now.declared.items k ≡ true)
    marks =
        subst (λ (bits : List Bool). length rs ≡ length ns → (k : ℕ) → k < length f.names.now.declared.items → (slice_get bits k ≡ Some true) ↔ (is_circular ns rs f.names.now.declared.items k ≡ true)) (sym of.circular)
        (subst (λ (xs : List Node). length rs ≡ length xs → (k : ℕ) → k < length f.names.now.declared.items → (slice_get is.is.lists.circles.circular.items k ≡ Some true) ↔ (is_circular xs rs f.names.now.declared.items k ≡ true)) (sym is.is.nodes_are)
        (subst (λ (rounds : List Round). length rounds ≡ length nodes → (k : ℕ) → k < length f.names.now.declared.items → (slice_get is.is.lists.circles.circular.items k ≡ Some true) ↔ (is_circular nodes rounds f.names.now.declared.items k ≡ true)) (sym is.is.rounds_are)
        (subst (λ (names : Names). length is.rounds ≡ length nodes → (k : ℕ) → k < length names.declared.items → (slice_get is.is.lists.circles.circular.items k ≡ Some true) ↔ (is_circular nodes is.rounds names.declared.items k ≡ true)) (sym is.is.names_are) is.is.lists_are.circular)))

    pub tables_made : (refused : List ℕ) → AreMade t its specs refused
    tables_made refused = record {
      file = of_its (λ g. IsMade t g specs refused its.types.now) (file_made its.types.now (grows_on is.settled.types first_types its.types.now first_grown types_are) arena refused);
      circular =
          of_its
          (λ g. length g.rounds.now ≡ length g.syntax.now → (k : ℕ) → k < length g.names.now.declared.items → (slice_get its.circular.now k ≡ Some true) ↔ (is_circular g.syntax.now g.rounds.now g.names.now.declared.items k ≡ true))
          marks;
      measured = first_types;
      grows = types_are;
      within = of_its (λ g. All (TypeWithin (length first_types)) g.values.now) (file_settled first_types first_grown).within.0;
      long_types = of.long_types ∙ is.is.is.long_are.types;
      long_constants = of.long_constants ∙ is.is.is.long_are.constants ∙ ap (λ (g : File). map (λ c. nat_lt 65536 (constant_length c)) g.constants.now) (sym of.file_is);
    }

    lost_there : (n : ℕ) → n < length ns → value_of f.values.now n ≡ value.Lost → IsLost ns (meanings_of ns rs (declarations ns rs)) n
    lost_there =
        subst (λ (ds : List Declared). (n : ℕ) → n < length ns → value_of f.values.now n ≡ value.Lost → IsLost ns (meanings_of ns rs ds) n) named_so
        (subst (λ (xs : List Node). (n : ℕ) → n < length xs → value_of f.values.now n ≡ value.Lost → IsLost xs (meanings_of xs rs is.names.declared.items) n) (sym is.is.nodes_are)
        (subst (λ (rounds : List Round). (n : ℕ) → n < length nodes → value_of f.values.now n ≡ value.Lost → IsLost nodes (meanings_of nodes rounds is.names.declared.items) n) (sym is.is.rounds_are)
        (subst (λ (vs : List Value). (n : ℕ) → n < length nodes → value_of vs n ≡ value.Lost → IsLost nodes (meanings_of nodes is.rounds is.names.declared.items) n) (sym is.is.values)
        (subst (λ (ms : List Meaning). (n : ℕ) → n < length nodes → value_of is.settled.values.items n ≡ value.Lost → IsLost nodes ms n) is.values.meanings is.values.lost))))

    words_there : its.words.now ≡ words_to ns (length ns)
    words_there = of.words ∙ is.is.lists_are.words ∙ ap (λ (xs : List Node). words_to xs (length xs)) (sym is.is.nodes_are)

    own_there : its.own.now ≡ own_places (declarations ns rs) (length ns)
    own_there = of.own ∙ is.is.lists_are.own ∙ ap (λ (ds : List Declared). own_places ds (length nodes)) named_so ∙ ap (λ (xs : List Node). own_places (declarations ns rs) (length xs)) (sym is.is.nodes_are)

    noted_there : AreNoted (length ns) (notes_of (words_to ns (length ns)) ns (declarations ns rs)) its.items.now
    noted_there =
        subst (AreNoted (length ns) (notes_of (words_to ns (length ns)) ns (declarations ns rs))) (sym of.items)
        (subst (λ (ds : List Declared). AreNoted (length ns) (notes_of (words_to ns (length ns)) ns ds) is.is.lists.items.value) named_so
        (subst (λ (xs : List Node). AreNoted (length xs) (notes_of (words_to xs (length xs)) xs is.names.declared.items) is.is.lists.items.value) (sym is.is.nodes_are)
        (subst (λ (ws : List (List ℕ)). AreNoted (length nodes) (notes_of ws nodes is.names.declared.items) is.is.lists.items.value) is.is.lists_are.words is.is.lists_are.items)))

    pub tables_whole : (refused : List ℕ) → IsWhole t its specs refused
    tables_whole refused = record {
      made = tables_made refused;
      lost = of_its (λ g. (n : ℕ) → n < length g.syntax.now → value_of g.values.now n ≡ value.Lost → IsLost g.syntax.now (meanings_of g.syntax.now g.rounds.now (declarations g.syntax.now g.rounds.now)) n) lost_there;
      own = of_its (λ g. its.own.now ≡ own_places (declarations g.syntax.now g.rounds.now) (length g.syntax.now)) own_there;
      words = of_its (λ g. its.words.now ≡ words_to g.syntax.now (length g.syntax.now)) words_there;
      noted = of_its (λ g. AreNoted (length g.syntax.now) (notes_of (words_to g.syntax.now (length g.syntax.now)) g.syntax.now (declarations g.syntax.now g.rounds.now)) its.items.now) noted_there;
    }

  -- ---- before types are refused, and when the rules are asked

  pub types_whole : (refused : List ℕ) → IsWhole t (tables nodes library asked first is) specs refused
  types_whole =
      tables_whole (tables nodes library asked first is) is.is.is.tables
      ([], is.is.is.types_are ∙ sym (append-nil first_types))
      (subst IsArena (sym is.is.is.types_are) first_arena)

  headed_file : is.is.is.headed.file ≡ f
  headed_file = is.is.is.file_is

  pub whole : (refused : List ℕ) → IsWhole t (known nodes library asked first is).tables specs refused
  whole =
      tables_whole (known nodes library asked first is).tables
      (subst (λ (g : File). AreTables (known nodes library asked first is).tables g is.is.lists is.is.is.long) headed_file is.is.is.is.is.tables)
      last_grown last_arena
