-- V18 and V20 are the bits of what is not met of what was noted of nodes.
use Rattle.std.proofs.Common.{◌≡◌, ◌<◌, ℕ, Bool, false, List, length}
use Rattle.clu_parser.specs.Trees.{Text}
use Rattle.clu_types.specs.Arena.{Grows, IsArena, types_of}
use Rattle.clu_types.specs.declared.term.Term.{Term}
use Rattle.clu_syntax.specs.Items.{Item}
use Rattle.clu_syntax.specs.Rounds.{AreRounds}
use Rattle.clu_meaning.specs.Scoping.{Scope}
use Rattle.clu_checking.specs.ExpressionRules.{v18, v20}
use Rattle.clu_checking.specs.Files.{File}
use Rattle.clu_checking.specs.Specifications.{Specification}
use Rattle.clu_bindings.specs.declared.file.Headed.{Headed}
use Rattle.clu_name_rules.specs.declared.tables.Tables.{Tables}
use Rattle.clu_typing.specs.declared.facts.Facts.{Facts}
use Rattle.clu_typing.specs.Pass.{AreKnown}
use Rattle.clu_typing.proofs.Passing.{known_grows}
use Rattle.clu_type_rules.specs.Askers.{AreFoundAt}
use Rattle.clu_type_rules.specs.Needs.{world}
use Rattle.clu_type_rules.specs.Unmet.{unmet_at}
use Rattle.clu_type_rules.specs.declared.unmet.Unmet.{Unmet}
use Rattle.clu_passes.specs.Bound.{TellModules, TellTypeModules}
use Rattle.clu_passes.specs.ConstantTables.{AreTables, file_with}
use Rattle.clu_passes.specs.FoundTold.{TellFile}
use Rattle.clu_passes.specs.NamesKnown.{AreActualsKnown}
use Rattle.clu_passes.specs.PassNoted.{IsKnownFile}
use Rattle.clu_passes.specs.Settings.{AreAskedAt, AreInSets, setting_of}
use Rattle.clu_passes.proofs.AsksNoted.{asked_noted}
use Rattle.clu_passes.proofs.CountedTold.{by_has, by_in}
use Rattle.clu_passes.proofs.SetClauses.{in_sets}

module _ (t : Text) (h : Headed) (scope : Scope) (library : List Specification) (refused : List ℕ) (items : ℕ → Item) (first : List Term) (lost : ℕ → Bool) (file : IsKnownFile t h (file_with h.file scope library refused) items first lost)
    (terms : List Term) (facts : Facts) (arena : IsArena terms) (known : AreKnown h items first (length h.file.syntax.now) terms facts) (its : Tables) (are : AreTables (file_with h.file scope library refused) (record its { file = h.file })) (from_first : Grows first its.types.now)
    (names : TellModules (file_with h.file scope library refused) h.file) (types : TellTypeModules (file_with h.file scope library refused) h.file) (actuals : AreActualsKnown h.file lost) (rounds : AreRounds h.file.syntax.now h.file.rounds.now)
    (made : List Unmet) (found : AreFoundAt h (setting_of h terms facts.finding) (world terms facts.finding) facts.invocations made) (n : ℕ) (here : lost n ≡ false) (there : n < length made) where
  abbrev f : File
  f = file_with h.file scope library refused

  sets : AreInSets h
  sets = in_sets h file.parsed.forms file.parsed.order file.parsed.tree rounds

  tells : TellFile h scope library refused (types_of terms)
  tells = file.heads terms (known_grows h items first (length h.file.syntax.now) terms facts known)

  asked : AreAskedAt f terms facts.finding facts.invocations lost
  asked = asked_noted t h scope library refused items first lost file terms facts arena known its are from_first names types actuals

  pub noted_has : v18 f n ≡ (unmet_at made n).by_has
  noted_has = by_has h scope library refused terms facts.finding facts.invocations lost sets tells asked file.library made found n here there

  pub noted_in : v20 f n ≡ (unmet_at made n).by_in
  noted_in = by_in h scope library refused terms facts.finding facts.invocations lost sets tells asked file.library made found n here there
