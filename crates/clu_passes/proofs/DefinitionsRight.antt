-- At the file, modules, routines and clusters the rules over tables say what the definitions say, whatever is lost.
use Rattle.std.proofs.Common.{◌≡◌, ◌∙◌, ℕ, ◌+◌, ◌^◌, ◌<◌, ◌||◌, Bool, true, false, List, length, refl, sym, ap, arith}
use Rattle.std.proofs.lemmas.Bool.{true≢false}
use Rattle.clu_base.specs.declared.rules.Rule.{Rule}
use Rattle.clu_base.specs.declared.rules.Rule.TheVariants as rule
use Rattle.clu_tree.specs.declared.node.NodeKind.{NodeKind}
use Rattle.clu_tree.specs.declared.node.NodeKind.TheVariants as kind
use Rattle.clu_parser.specs.Trees.{Text}
use Rattle.clu_syntax.specs.Items.{Item}
use Rattle.clu_names.specs.Scopes.{declarations}
use Rattle.clu_meaning.specs.Scoping.{Scope}
use Rattle.clu_checking.specs.Specifications.{Specification}
use Rattle.clu_checking.specs.Files.{File, kind_in, scope_in}
use Rattle.clu_checking.specs.NameRules.{disagrees_at, is_defined_twice}
use Rattle.clu_checking.specs.Rules as definition
use Rattle.clu_bindings.specs.declared.file.File.{File as Read}
use Rattle.clu_name_rules.specs.ModuleRules.{lacks_export}
use Rattle.clu_name_rules.specs.NameRules as tables
use Rattle.clu_type_rules.specs.declared.known.Known.{Known}
use Rattle.clu_type_rules.specs.Asked.{is_asked}
use Rattle.clu_type_rules.specs.Rules.{violates}
use Rattle.clu_passes.specs.ConstantTables.{file_with}
use Rattle.clu_passes.specs.Losing.{is_plain}
use Rattle.clu_passes.specs.Made.{IsWhole}
use Rattle.clu_passes.specs.Tables.{TellStrings}
use Rattle.clu_passes.proofs.ClusterRoutines.{have_routines}
use Rattle.clu_passes.proofs.DefinedTwice.{defined_told}
use Rattle.clu_passes.proofs.Exports.{v33_is}
use Rattle.clu_passes.proofs.FoundStrings.{found_strings}
use Rattle.clu_passes.proofs.Literals.{v4_is}
use Rattle.clu_passes.proofs.Modules.{v34_is, v35_is}
use Rattle.clu_passes.proofs.Strings.{strings_told}
use Rattle.clu_passes.proofs.Words.{v31_is}

module _ (t : Text) (k : Known) (library : List Specification) (refused : List ℕ) (all : IsWhole t k.tables library refused) (items : ℕ → Item) (bits : List Bool) (bad : ℕ → Bool) (n : ℕ) where
  abbrev r : Read
  r = k.tables.file

  abbrev scope : Scope
  scope = scope_in k.tables.file.syntax.now k.tables.file.rounds.now

  abbrev f : File
  f = file_with k.tables.file (scope_in k.tables.file.syntax.now k.tables.file.rounds.now) library refused

  abbrev Same : Rule → Type 0
  Same x = violates k bits items n x ≡ definition.violates f bad n x

  strings : TellStrings f r.values.now
  strings = strings_told f k.tables.types.now r.constants.now r.values.now all.made.file.values (found_strings f all.made.file.parsed.forms all.made.file.parsed.tree r.values.now all.lost)

  same_range : Same rule.LiteralRange
  same_range = sym (v4_is f r.values.now strings items n)

  same_place : Same rule.CvtPlace
  same_place = sym (v31_is r scope library refused all.made.file.parsed.forms all.made.file.parsed.tree items n)

  same_export : Same rule.ExportMissing
  same_export =
      ap (λ (words : List (List ℕ)). lacks_export k.tables.items.now words r.syntax.now n) all.words
      ∙ sym (v33_is f all.made.file.parsed.forms (have_routines f t all.made.file.parsed all.made.file.rounds) k.tables.items.now all.noted n)

  same_end : Same rule.EndName
  same_end = sym (v34_is f n)

  same_size : Same rule.RoutineTooLarge
  same_size = sym (v35_is f n)

  few : length r.syntax.now < 2 ^ 32
  few = let both : length r.syntax.now + length (declarations r.syntax.now r.rounds.now) < 2 ^ 32 = all.made.file.few in omega (arith, both)

  twice : tables.is_defined_twice items r.syntax.now r.rounds.now r.names.now k.tables.items.now.repeated.items k.tables.own.now n ≡ is_defined_twice f n
  twice =
      ap (λ (own : List ℕ). tables.is_defined_twice items r.syntax.now r.rounds.now r.names.now k.tables.items.now.repeated.items own n) all.own
      ∙ sym (defined_told t f all.made.file.parsed all.made.file.rounds refl few r.names.now all.made.file.names k.tables.items.now.repeated.items all.noted.repeated items n)

  abbrev disagrees : NodeKind → Bool
  disagrees other = tables.disagrees_by r.syntax.now r.names.now k.tables.circular.now bits k.disagrees.now other n

  same_defined : (other : NodeKind) → kind_in f n ≡ other → disagrees other ≡ false → disagrees_at f bad other n ≡ false → Same rule.DefinedTwice
  same_defined other is neither nor =
      ap (λ (b : Bool). tables.is_defined_twice items r.syntax.now r.rounds.now r.names.now k.tables.items.now.repeated.items k.tables.own.now n || b) (ap disagrees is ∙ neither)
      ∙ ap (λ (b : Bool). b || false) twice
      ∙ ap (λ (b : Bool). is_defined_twice f n || b) (sym (ap (λ (j : NodeKind). disagrees_at f bad j n) is ∙ nor))

  at_file : (x : Rule) → is_asked kind.File x ≡ true → Same x
  at_file rule.LiteralRange asked = same_range
  at_file rule.UnknownName asked = absurd (true≢false (sym asked))
  at_file _ asked = absurd (true≢false (sym asked))

  at_module : (x : Rule) → is_asked kind.Module x ≡ true → Same x
  at_module rule.LiteralRange asked = same_range
  at_module rule.UnknownName asked = absurd (true≢false (sym asked))
  at_module _ asked = absurd (true≢false (sym asked))

  at_routine : kind_in f n ≡ kind.Routine → (x : Rule) → is_asked kind.Routine x ≡ true → Same x
  at_routine is rule.LiteralRange asked = same_range
  at_routine is rule.DefinedTwice asked = same_defined kind.Routine is refl refl
  at_routine is rule.EndName asked = same_end
  at_routine is rule.RoutineTooLarge asked = same_size
  at_routine is rule.UnknownName asked = absurd (true≢false (sym asked))
  at_routine is _ asked = absurd (true≢false (sym asked))

  at_cluster : kind_in f n ≡ kind.Cluster → (x : Rule) → is_asked kind.Cluster x ≡ true → Same x
  at_cluster is rule.LiteralRange asked = same_range
  at_cluster is rule.DefinedTwice asked = same_defined kind.Cluster is refl refl
  at_cluster is rule.CvtPlace asked = same_place
  at_cluster is rule.ExportMissing asked = same_export
  at_cluster is rule.EndName asked = same_end
  at_cluster is rule.RoutineTooLarge asked = same_size
  at_cluster is rule.UnknownName asked = absurd (true≢false (sym asked))
  at_cluster is _ asked = absurd (true≢false (sym asked))

  by_kind : (other : NodeKind) → is_plain other ≡ false → kind_in f n ≡ other → (x : Rule) → is_asked other x ≡ true → Same x
  by_kind kind.File apart is x asked = at_file x asked
  by_kind kind.Module apart is x asked = at_module x asked
  by_kind kind.Routine apart is x asked = at_routine is x asked
  by_kind kind.Cluster apart is x asked = at_cluster is x asked
  by_kind kind.Name apart is x asked = absurd (true≢false apart)
  by_kind _ apart is x asked = absurd (true≢false apart)

  pub definitions_same : is_plain (kind_in f n) ≡ false → (x : Rule) → is_asked (kind_in f n) x ≡ true → Same x
  definitions_same apart x asked = by_kind (kind_in f n) apart refl x asked
