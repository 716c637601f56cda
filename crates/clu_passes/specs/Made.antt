-- A file as the calls before the rules make it: what is known of it is so.
use Rattle.std.specs.Prelude.{◌≡◌, ◌↔◌, ◌<◌, ◌-◌, ◌^◌, ℕ, true, All, List, length, map, nat_lt, slice_get, Some}
use Rattle.clu_parser.specs.Trees.{Text}
use Rattle.clu_types.specs.declared.term.Term.{Term}
use Rattle.clu_types.specs.Arena.{Grows, IsArena}
use Rattle.clu_syntax.specs.Rounds.{AreRounds}
use Rattle.clu_names.specs.Scopes.{declarations}
use Rattle.clu_checking.specs.Specifications.{Specification, specification_told}
use Rattle.clu_checking.specs.Files.{scope_in}
use Rattle.clu_settle.specs.Circular.{is_circular}
use Rattle.clu_settle.specs.declared.value.Value.TheVariants as value
use Rattle.clu_settle.specs.Lists.{value_of}
use Rattle.clu_settle.specs.Lost.{IsLost}
use Rattle.clu_settle.specs.Lost.{AreRead}
use Rattle.clu_settle.specs.Meant.{meanings_of}
use Rattle.clu_settle.specs.Settled.{AreSettled}
use Rattle.clu_settle.specs.Values.{TypeWithin}
use Rattle.clu_declares.specs.Declares.{AreFew, IsParsed}
use Rattle.clu_bindings.specs.declared.file.File.{File as Read}
use Rattle.clu_bindings.specs.Bindings.{AreBindings}
use Rattle.clu_bindings.specs.Modules.{AreModules, modules_in}
use Rattle.clu_name_rules.specs.declared.tables.Tables.{Tables}
use Rattle.clu_name_rules.specs.Lengths.{constant_length, lengths_of}
use Rattle.clu_name_rules.specs.Own.{own_places}
use Rattle.clu_name_rules.specs.Repeated.{AreNoted, notes_of}
use Rattle.clu_name_rules.specs.Words.{words_to}
use Rattle.clu_passes.specs.ConstantTables.{file_with}
use Rattle.clu_passes.specs.Tables.{AreNames}

-- the file of a text and a library, whose values are of this arena, where these nodes are refused
pub record IsMade (t : Text) (r : Read) (library : List Specification) (refused : List ℕ) (types : List Term) : Type 0 where
  pub parsed : IsParsed t r.syntax.now
  pub rounds : AreRounds r.syntax.now r.rounds.now
  pub few : AreFew r.syntax.now r.rounds.now
  pub names : AreNames (file_with r (scope_in r.syntax.now r.rounds.now) library refused) r.names.now
  pub arena : IsArena types
  pub values : AreSettled r.syntax.now (scope_in r.syntax.now r.rounds.now) types r.constants.now r.values.now
  pub read : AreRead r.syntax.now (meanings_of r.syntax.now r.rounds.now r.names.now.declared.items) r.values.now
  pub bindings : AreBindings r.syntax.now r.rounds.now r.names.now r.values.now r.bindings.now
  pub kept : library ≡ map specification_told r.library.now
  pub modules : AreModules r.bindings.now.modules (modules_in types r.values.now r.syntax.now r.library.now)
  -- as many modules as 32 bits count
  pub few_modules : length r.bindings.now.modules.known.items < 2 ^ 32 - 1

-- the same of all that the rules on names, constants and types read
pub record AreMade (t : Text) (its : Tables) (library : List Specification) (refused : List ℕ) : Type 0 where
  pub file : IsMade t its.file library refused its.types.now
  pub circular : length its.file.rounds.now ≡ length its.file.syntax.now → (k : ℕ) → k < length its.file.names.now.declared.items → (slice_get its.circular.now k ≡ Some true) ↔ (is_circular its.file.syntax.now its.file.rounds.now its.file.names.now.declared.items k ≡ true)
  -- texts are measured of the types that were in the arena by then, as all values were
  pub measured : List Term
  pub grows : Grows measured its.types.now
  pub within : All (TypeWithin (length measured)) its.file.values.now
  pub long_types : its.long_types.now ≡ map (nat_lt 65536) (lengths_of measured)
  pub long_constants : its.long_constants.now ≡ map (λ c. nat_lt 65536 (constant_length c)) its.file.constants.now

-- and of what is read beside it: what is lost is so however many steps are taken, declarations have their places, and names are noted
-- by their lists
pub record IsWhole (t : Text) (its : Tables) (library : List Specification) (refused : List ℕ) : Type 0 where
  pub made : AreMade t its library refused
  pub lost : (n : ℕ) → n < length its.file.syntax.now → value_of its.file.values.now n ≡ value.Lost → IsLost its.file.syntax.now (meanings_of its.file.syntax.now its.file.rounds.now (declarations its.file.syntax.now its.file.rounds.now)) n
  pub own : its.own.now ≡ own_places (declarations its.file.syntax.now its.file.rounds.now) (length its.file.syntax.now)
  pub words : its.words.now ≡ words_to its.file.syntax.now (length its.file.syntax.now)
  pub noted : AreNoted (length its.file.syntax.now) (notes_of (words_to its.file.syntax.now (length its.file.syntax.now)) its.file.syntax.now (declarations its.file.syntax.now its.file.rounds.now)) its.items.now
