-- The tables that the rules on names, constants and types read, as the calls before the rules make them, are those of the file.
use Rattle.std.proofs.Common.{◌≡◌, ◌∙◌, ◌<◌, ◌&&◌, ℕ, List, length, ap, subst, sym}
use Rattle.std.specs.Prelude.{slice_get}
use Rattle.clu_tree.specs.declared.node.NodeKind.TheVariants as kind
use Rattle.clu_parser.specs.Trees.{Text}
use Rattle.clu_types.specs.declared.term.Term.{Term}
use Rattle.clu_types.specs.declared.term.TypeId.{TypeId}
use Rattle.clu_types.specs.Arena.{type_at, types_of}
use Rattle.clu_types.specs.CluType.{CluType}
use Rattle.clu_types.proofs.Arenas.{types_grown}
use Rattle.clu_meaning.specs.Scoping.{Scope}
use Rattle.clu_checking.specs.Specifications.{Specification}
use Rattle.clu_checking.specs.ConstantRules.{is_long_text}
use Rattle.clu_checking.specs.Files.{File, is_kind, scope_in}
use Rattle.clu_checking.specs.Typing as typing
use Rattle.clu_checking.specs.Wanted.{first_name_at}
use Rattle.clu_names.specs.declared.scopes.Declared.{Declared}
use Rattle.clu_settle.specs.Lost.{AreRead}
use Rattle.clu_settle.specs.Meant.{meanings_of}
use Rattle.clu_settle.specs.Values.{TypeWithin}
use Rattle.clu_settle.specs.declared.value.Value.TheVariants as value
use Rattle.clu_head.specs.Refused.{is_set}
use Rattle.clu_specs.specs.Texts.{type_text}
use Rattle.clu_bindings.specs.declared.file.File.{File as Read}
use Rattle.clu_bindings.specs.Readers as read
use Rattle.clu_bindings.specs.Readers.{meaning_in, value_in}
use Rattle.clu_name_rules.specs.declared.tables.Tables.{Tables}
use Rattle.clu_passes.specs.ConstantTables.{AreTables, IsEquateKnown, file_with}
use Rattle.clu_declares.proofs.Each.{are_meanings}
use Rattle.clu_passes.specs.Legal.{AreLegalKnown}
use Rattle.clu_passes.specs.Made.{AreMade, IsMade}
use Rattle.clu_passes.specs.Trees.{IsFileOfTree}
use Rattle.clu_passes.proofs.ConstantNodes.{within_at}
use Rattle.clu_passes.proofs.DeclaredParameters.{parameters_declared}
use Rattle.clu_passes.proofs.EquatesSaid.{equates_said}
use Rattle.clu_passes.proofs.LegalTypes.{legal_known}
use Rattle.clu_passes.proofs.LongTexts.{long_constants_told, long_types_told}
use Rattle.clu_passes.proofs.ModuleMeant.{named_said, named_types_said, reps_said, restricted_said}
use Rattle.clu_passes.proofs.PlacesSaid.{places_said}
use Rattle.clu_passes.proofs.SetsSaid.{sets_said}
use Rattle.clu_passes.proofs.Sides.{right_sides}
use Rattle.clu_passes.proofs.Strings.{value_same}
use Rattle.clu_passes.proofs.TableFields.{marks_told}
use Rattle.clu_passes.proofs.TakersSaid.{takers_said}
use Rattle.clu_passes.proofs.WantedSaid.{wanted_said}

module _ (t : Text) (its : Tables) (library : List Specification) (refused : List ℕ) (all : AreMade t its library refused) where
  abbrev r : Read
  r = its.file

  abbrev scope : Scope
  scope = scope_in its.file.syntax.now its.file.rounds.now

  abbrev f : File
  f = file_with its.file (scope_in its.file.syntax.now its.file.rounds.now) library refused

  abbrev types : List Term
  types = its.types.now

  abbrev made : IsMade t its.file library refused its.types.now
  made = all.file

  takers : (n : ℕ) → IsEquateKnown r (meaning_in r n) → read.takes_actuals r n ≡ (is_kind f kind.Name n && typing.takes_actuals f n (first_name_at f n))
  takers = takers_said t r library refused types made.values made.parsed made.rounds made.few made.names made.bindings (sets_said t r library refused made.parsed made.names made.bindings)

  of : IsFileOfTree f
  of = record { shaped = made.parsed.forms; ordered = made.parsed.order; tree = made.parsed.tree; surrounded = made.rounds }

  legal : AreLegalKnown f r.values.now
  legal = legal_known f of r.values.now (are_meanings t r.syntax.now r.rounds.now made.parsed made.rounds made.few)
      (subst (λ (ds : List Declared). AreRead r.syntax.now (meanings_of r.syntax.now r.rounds.now ds) r.values.now) made.names.declared made.read)

  long_types : (n : ℕ) (id : TypeId) → value_in r n ≡ value.Type id → is_set (slice_get its.long_types.now id.0) ≡ is_long_text (type_text (type_at (types_of types) id))
  long_types n id is =
      let inside : id.0 < length all.measured = subst (TypeWithin (length all.measured)) is (within_at (TypeWithin (length all.measured)) r.values.now n all.within tt) in
      long_types_told all.measured its.long_types.now all.long_types id inside
      ∙ ap (λ (T : CluType). is_long_text (type_text T)) (sym (types_grown all.measured types all.grows id inside))

  pub tables_are : AreTables f its
  tables_are = record {
    names = made.names;
    marks = marks_told f made.rounds r.names.now made.names its.circular.now all.circular;
    arena = made.arena;
    values = made.values;
    cvt = λ n typed word. value_same r.values.now n ∙ made.read.cvt n typed word;
    legal = legal;
    named = named_said t r library refused types made.arena made.values made.parsed made.rounds made.few made.names made.bindings made.kept made.modules made.few_modules;
    named_types = named_types_said t r library refused types made.arena made.values made.parsed made.rounds made.few made.names made.bindings made.kept made.modules made.few_modules;
    restricted = restricted_said t r library refused types made.arena made.values made.parsed made.rounds made.few made.names made.bindings made.kept made.modules made.few_modules;
    reps = reps_said t r library refused types made.arena made.values made.parsed made.rounds made.few made.names made.bindings made.kept made.modules made.few_modules;
    equates = equates_said t r library refused made.parsed made.rounds made.few made.names made.bindings;
    sets = sets_said t r library refused made.parsed made.names made.bindings;
    takers = takers;
    wanted = wanted_said r scope library refused takers made.rounds made.bindings;
    places = places_said t r made.parsed made.rounds made.bindings scope library refused;
    parameters = parameters_declared t r made.parsed made.rounds made.bindings scope library refused;
    sides = right_sides t f made.parsed made.rounds;
    long_types = long_types;
    long_constants = long_constants_told r.constants.now its.long_constants.now all.long_constants;
  }
