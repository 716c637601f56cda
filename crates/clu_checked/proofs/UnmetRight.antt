-- The bits of what is not met, by which a check answers V18 and V20, are what the definitions ask at nodes at which nothing is lost; and
-- its tables tell which names are those of modules.
use Rattle.std.proofs.Common.{◌≡◌, ◌+◌, ◌-◌, ◌^◌, ◌<◌, ℕ, Bool, List, length, map, Option, refl, sym, subst}
use Rattle.clu_base.specs.declared.rules.Refused.{Refused}
use Rattle.clu_tree.specs.declared.node.Node.{Node}
use Rattle.clu_tree.specs.Nodes.{modules}
use Rattle.clu_parser.specs.Trees.{Text}
use Rattle.clu_types.specs.declared.spec.Spec.{Spec}
use Rattle.clu_types.specs.declared.term.Term.{Term}
use Rattle.clu_types.specs.Arena.{Grows, IsArena}
use Rattle.clu_types.proofs.Carrying.{grows_on}
use Rattle.clu_syntax.specs.Items.{Item}
use Rattle.clu_meaning.specs.Scoping.{Scope}
use Rattle.clu_checking.specs.Specifications.{Specification, specification_told}
use Rattle.clu_checking.specs.Files.{File, scope_in}
use Rattle.clu_declares.specs.Declares.{AreFew, IsParsed}
use Rattle.clu_bindings.specs.declared.file.File.{File as Read}
use Rattle.clu_bindings.specs.declared.file.Headed.{Headed}
use Rattle.clu_name_rules.specs.declared.tables.Tables.{Tables}
use Rattle.clu_operations.specs.Wished.{IsFinding}
use Rattle.clu_typing.specs.declared.facts.Facts.{Facts}
use Rattle.clu_typing.specs.Facts.{askers_at}
use Rattle.clu_typing.specs.Pass.{AreKnown}
use Rattle.clu_type_rules.specs.declared.known.Known.{Known}
use Rattle.clu_type_rules.specs.Askers.{AreAskers, AreFoundAt, FindsOn}
use Rattle.clu_type_rules.specs.Needs.{world}
use Rattle.clu_passes.specs.Bound.{TellModules, TellTypeModules}
use Rattle.clu_passes.specs.ConstantTables.{AreTables, file_with}
use Rattle.clu_passes.specs.FactTables.{AreFacts}
use Rattle.clu_passes.specs.Lost.{lost}
use Rattle.clu_passes.specs.Made.{AreMade, IsMade}
use Rattle.clu_passes.specs.NamesKnown.{AreActualsKnown}
use Rattle.clu_passes.specs.PassNoted.{IsKnownFile}
use Rattle.clu_passes.specs.RulesKnown.{AreUnmetBits}
use Rattle.clu_passes.specs.Settings.{AreInSets, setting_of}
use Rattle.clu_passes.proofs.ActualsKnown.{actuals_known}
use Rattle.clu_passes.proofs.AsksNoted.{askers_there}
use Rattle.clu_passes.proofs.FactsLater.{facts_later}
use Rattle.clu_passes.proofs.FoundUnder.{setting_looks}
use Rattle.clu_passes.proofs.ModulesTold.{modules_told, type_modules_told}
use Rattle.clu_passes.proofs.SetClauses.{in_sets}
use Rattle.clu_passes.proofs.TablesMade.{tables_are}
use Rattle.clu_passes.proofs.UnmetNoted.{noted_has, noted_in}
use Rattle.clu_check_mod.specs.Answered as answered
use Rattle.clu_check_mod.specs.Answered.{IsFirst}
use Rattle.clu_check_mod.specs.declared.walk.Extent.{Extent}
use Rattle.clu_checked.specs.Checked.{known}
use Rattle.clu_checked.proofs.Whole.{file_made, first_arena, last_arena, last_grown, tables_made, tables_whole, typed_arena}

-- ---- names of modules

module _ (t : Text) (r : Read) (specs : List Specification) (refused : List ℕ) (types : List Term) (made : IsMade t r specs refused types) where
  names_told : TellModules (file_with r (scope_in r.syntax.now r.rounds.now) specs refused) r
  names_told = modules_told t r specs refused types made.arena made.values made.parsed made.rounds made.few made.names made.bindings made.kept made.modules made.few_modules

  types_told : TellTypeModules (file_with r (scope_in r.syntax.now r.rounds.now) specs refused) r
  types_told = type_modules_told t r specs refused types made.arena made.values made.parsed made.rounds made.few made.names made.bindings made.kept made.modules made.few_modules

module _ (t : Text) (nodes : List Node) (parsed : IsParsed t nodes) (library : List Spec) (asked : Extent) (first : Option Refused) (is : IsFirst nodes library asked first)
    (few : AreFew nodes is.rounds) (few_modules : length (modules nodes) + length library < 2 ^ 32 - 1) where
  abbrev specs : List Specification
  specs = map specification_told library

  abbrev k : Known
  k = known nodes library asked first is

  -- the file with its headings, and the types that were known then
  abbrev h : Headed
  h = is.is.is.headed

  abbrev before : List Term
  before = is.is.is.terms

  abbrev terms : List Term
  terms = is.is.is.is.terms

  abbrev facts : Facts
  facts = is.is.is.is.facts

  abbrev of_file : Read → List ℕ → File
  of_file r refused = file_with r (scope_in r.syntax.now r.rounds.now) specs refused

  -- of the same file are the tables
  pub tables_file : k.tables.file ≡ h.file
  tables_file = is.is.is.is.is.tables.file_is

  headed_made : (refused : List ℕ) → IsMade t h.file specs refused is.is.types
  headed_made refused =
      subst (λ (r : Read). IsMade t r specs refused is.is.types) (sym is.is.is.file_is)
      (file_made t nodes parsed library asked first is few few_modules is.is.types is.is.grows (first_arena t nodes parsed library asked first is few few_modules) refused)

  pub modules_right : (refused : List ℕ) → TellModules (of_file k.tables.file refused) k.tables.file
  modules_right refused = subst (λ (r : Read). TellModules (of_file r refused) r) (sym tables_file) (names_told t h.file specs refused is.is.types (headed_made refused))

  -- ---- the tables with which the rules are asked, beside the file with its headings

  abbrev its : Tables
  its = record k.tables { file = h.file }

  its_are : answered.AreTables its is.is.file is.is.lists is.is.is.long
  its_are = record {
    file_is = is.is.is.file_is;
    long_types = is.is.is.is.is.tables.long_types;
    long_constants = is.is.is.is.is.tables.long_constants;
    circular = is.is.is.is.is.tables.circular;
    own = is.is.is.is.is.tables.own;
    words = is.is.is.is.is.tables.words;
    items = is.is.is.is.is.tables.items;
  }

  its_made : (refused : List ℕ) → AreMade t its specs refused
  its_made refused =
      tables_made t nodes parsed library asked first is few few_modules its its_are (last_grown t nodes parsed library asked first is few few_modules) (last_arena t nodes parsed library asked first is few few_modules) refused

  grown_last : Grows before k.tables.types.now
  grown_last = grows_on before terms k.tables.types.now is.is.is.is.grows is.is.is.is.is.asks.grows

  arena : IsArena terms
  arena = typed_arena t nodes parsed library asked first is few few_modules

  -- ---- V18 and V20, where names, types and heads are told

  module _ (items : ℕ → Item) (refused : List ℕ) (is_lost : ℕ → Bool) (file : IsKnownFile t h (file_with h.file (scope_in h.file.syntax.now h.file.rounds.now) (map specification_told library) refused) items before is_lost) (actuals : AreActualsKnown h.file is_lost) where
    abbrev scope : Scope
    scope = scope_in h.file.syntax.now h.file.rounds.now

    noted : AreKnown h items before (length h.file.syntax.now) terms facts
    noted = is.is.is.is.noted items

    finding : IsFinding h terms facts.finding
    finding = (is.is.is.is.sound file.types arena).finding

    sets : AreInSets h
    sets = in_sets h file.parsed.forms file.parsed.order file.parsed.tree (headed_made refused).rounds

    there : (n : ℕ) → AreAskers (world terms facts.finding) (askers_at facts.invocations n)
    there n = askers_there t h scope specs refused items before is_lost file terms facts arena noted n

    found : AreFoundAt h (setting_of h terms facts.finding) (world terms facts.finding) facts.invocations k.unmet.now
    found = is.is.is.is.is.asks.unmet (setting_of h terms facts.finding) (setting_looks h terms facts.finding sets finding) refl finding there

    -- what was found by then, and what is known of nodes with it

    pub more : FindsOn h (world terms facts.finding) (world k.tables.types.now k.facts.now.finding)
    more = is.is.is.is.is.asks.later (setting_of h terms facts.finding) (setting_looks h terms facts.finding sets finding) refl finding there

    pub facts_kept : AreFacts (of_file h.file refused) k.tables.types.now k.facts.now is_lost
    facts_kept =
        subst (λ (its : Facts). AreFacts (of_file h.file refused) k.tables.types.now its is_lost) (sym is.is.is.is.is.asks.same)
        (facts_later t h scope specs refused items before is_lost file terms facts arena noted k.tables.types.now is.is.is.is.is.asks.grows k.facts.now.finding more.later.1)

    pub facts_right : AreFacts (of_file k.tables.file refused) k.tables.types.now k.facts.now is_lost
    facts_right = subst (λ (r : Read). AreFacts (of_file r refused) k.tables.types.now k.facts.now is_lost) (sym tables_file) facts_kept

    -- the bits

    tables : AreTables (of_file h.file refused) its
    tables = tables_are t its specs refused (its_made refused)

    sized : (n : ℕ) → n < length h.file.syntax.now → n < length k.unmet.now
    sized n less = subst (λ (size : ℕ). n < size) (sym is.is.is.is.is.asks.size) less

    bits : AreUnmetBits (of_file h.file refused) k is_lost
    bits = record {
      by_has = λ n inside here.
          noted_has t h scope specs refused items before is_lost file terms facts arena noted its tables grown_last
          (names_told t h.file specs refused is.is.types (headed_made refused)) (types_told t h.file specs refused is.is.types (headed_made refused)) actuals (headed_made refused).rounds k.unmet.now found n here (sized n inside);
      by_in = λ n inside here.
          noted_in t h scope specs refused items before is_lost file terms facts arena noted its tables grown_last
          (names_told t h.file specs refused is.is.types (headed_made refused)) (types_told t h.file specs refused is.is.types (headed_made refused)) actuals (headed_made refused).rounds k.unmet.now found n here (sized n inside);
    }

    -- of the file whose tables the rules read
    pub unmet_right : AreUnmetBits (of_file k.tables.file refused) k is_lost
    unmet_right = subst (λ (r : Read). AreUnmetBits (of_file r refused) k is_lost) (sym tables_file) bits

  -- where lost is what is refused

  pub actuals_right : (refused : List ℕ) → AreActualsKnown h.file (lost (of_file h.file refused))
  actuals_right refused =
      actuals_known t its specs refused
      (tables_whole t nodes parsed library asked first is few few_modules its its_are (last_grown t nodes parsed library asked first is few few_modules) (last_arena t nodes parsed library asked first is few few_modules) refused)

  pub unmet_known : (items : ℕ → Item) (refused : List ℕ) → IsKnownFile t h (of_file h.file refused) items before (lost (of_file h.file refused)) → AreUnmetBits (of_file k.tables.file refused) k (lost (of_file k.tables.file refused))
  unmet_known items refused file =
      subst (λ (r : Read). AreUnmetBits (of_file k.tables.file refused) k (lost (of_file r refused))) (sym tables_file) (unmet_right items refused (lost (of_file h.file refused)) file (actuals_right refused))
