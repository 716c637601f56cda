-- At a node at which nothing is lost the rules on facts say by tables what the definitions say.
use Rattle.std.proofs.Common.{◌≡◌, ℕ, ◌<◌, Bool, false, List, length, sym}
use Rattle.clu_base.specs.declared.rules.Rule.{Rule}
use Rattle.clu_base.specs.declared.rules.Rule.TheVariants as rule
use Rattle.clu_tree.specs.Nodes.{IsTree}
use Rattle.clu_parser.specs.Shape.{HaveForms}
use Rattle.clu_parser.specs.Trees.{Text}
use Rattle.clu_syntax.specs.Items.{Item}
use Rattle.clu_meaning.specs.Scoping.{Scope}
use Rattle.clu_checking.specs.Specifications.{Specification}
use Rattle.clu_checking.specs.Files.{File, scope_in}
use Rattle.clu_checking.specs.Rules as definition
use Rattle.clu_bindings.specs.declared.file.File.{File as Read}
use Rattle.clu_type_rules.specs.declared.known.Known.{Known}
use Rattle.clu_type_rules.specs.Known as known
use Rattle.clu_type_rules.specs.Rules.{violates}
use Rattle.clu_passes.specs.Bound.{AreTargets, IsNameKnown}
use Rattle.clu_passes.specs.ConstantsKnown.{AreConstantsKnown, file_of}
use Rattle.clu_passes.specs.ConstantTables.{AreBracketsKnown, AreTables}
use Rattle.clu_passes.specs.Constructed.{IsTyped}
use Rattle.clu_passes.specs.Lost.{lost}
use Rattle.clu_passes.proofs.Conditions.{v16_is}
use Rattle.clu_passes.proofs.Invoked.{v11_is, v12_is}
use Rattle.clu_passes.proofs.Loops.{v36_is}
use Rattle.clu_passes.proofs.Misfits.{v13_is}
use Rattle.clu_passes.proofs.ResultNumbers.{v14_is}
use Rattle.clu_passes.proofs.TablesMade.{tables_are}
use Rattle.clu_passes.proofs.TargetsMean.{targets_mean}
use Rattle.clu_passes.proofs.UpDown.{v32_is}

module _ (t : Text) (k : Known) (library : List Specification) (refused : List ℕ) (items : ℕ → Item) (bits : List Bool) (its : AreConstantsKnown t k library refused)
    (bad : ℕ → Bool) (n : ℕ) (inside : n < length k.tables.file.syntax.now) (here : lost (file_of k library refused) n ≡ false) where
  abbrev r : Read
  r = k.tables.file

  abbrev scope : Scope
  scope = scope_in k.tables.file.syntax.now k.tables.file.rounds.now

  abbrev f : File
  f = file_of k library refused

  abbrev pub Same : Rule → Type 0
  Same x = violates k bits items n x ≡ definition.violates f bad n x

  shaped : HaveForms k.tables.file.syntax.now
  shaped = its.whole.made.file.parsed.forms

  tree : IsTree k.tables.file.syntax.now
  tree = its.whole.made.file.parsed.tree

  are : AreTables f k.tables
  are = tables_are t k.tables library refused its.whole.made

  targets : AreTargets f k
  targets = targets_mean t k library refused its.whole.made.file.parsed its.whole.made.file.rounds its.whole.made.file.few its.whole.made.file.names its.whole.made.file.bindings

  pub same_operation : Same rule.NoOperation
  same_operation = sym (v11_is f k (lost f) its.rules.facts n here)

  pub same_count : Same rule.ArgumentCount
  same_count = sym (v12_is f k are.arena (lost f) its.rules.facts n here)

  pub same_types : IsTyped k.tables (known.kind_in k n) (known.children k n) → Same rule.ArgumentType
  same_types typed = sym (v13_is k scope library refused shaped tree are (lost f) its.rules.facts its.rules.wanted items n here typed)

  pub same_results : IsNameKnown r (known.kind_in k n) n (known.children k n) → AreBracketsKnown r n → Same rule.ResultCount
  same_results named brackets = sym (v14_is k scope library refused shaped tree are its.rules.modules (lost f) its.rules.facts targets items n here named brackets)

  pub same_bool : Same rule.NotBool
  same_bool = sym (v16_is k scope library refused shaped t its.whole.made.file.parsed.shape tree are (lost f) its.rules.facts its.rules.wanted items n here)

  pub same_has : Same rule.WhereNotMet
  same_has = sym (its.rules.unmet.by_has n inside here)

  pub same_in_set : Same rule.NotInTypeSet
  same_in_set = sym (its.rules.unmet.by_in n inside here)

  pub same_up : Same rule.UpDown
  same_up = sym (v32_is k scope library refused shaped tree are (lost f) its.rules.facts its.own its.rules.wanted n here)

  pub same_use : Same rule.IteratorUse
  same_use = sym (v36_is k scope library refused shaped tree are (lost f) its.rules.facts its.rules.wanted n here)
