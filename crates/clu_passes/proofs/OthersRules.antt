-- The rules that read facts say by tables what the definitions say at a node of which nothing is lost.
use Rattle.std.proofs.Common.{◌≡◌, ◌∙◌, ℕ, ◌<◌, Bool, true, false, List, [], ◌∷◌, length, refl, sym, ap, subst}
use Rattle.std.specs.Prelude.{slice_get}
use Rattle.std.specs.List.{AllByRecursion}
use Rattle.clu_base.specs.declared.rules.Rule.{Rule}
use Rattle.clu_base.specs.declared.rules.Rule.TheVariants as rule
use Rattle.clu_tree.specs.declared.node.Node.{Node}
use Rattle.clu_tree.specs.Nodes.{IsTree}
use Rattle.clu_tree.specs.declared.node.NodeKind.{NodeKind}
use Rattle.clu_tree.specs.declared.node.NodeKind.TheVariants as kind
use Rattle.clu_parser.specs.Shape.{HaveForms}
use Rattle.clu_parser.specs.Trees.{Text}
use Rattle.clu_types.specs.Arena.{IsArena}
use Rattle.clu_syntax.specs.Items.{Item}
use Rattle.clu_meaning.specs.Scoping.{Scope}
use Rattle.clu_checking.specs.Specifications.{Specification}
use Rattle.clu_checking.specs.Files.{File, children, kind_in, scope_in}
use Rattle.clu_checking.specs.Refusals.{is_bad}
use Rattle.clu_checking.specs.StatementRules.{v22}
use Rattle.clu_checking.specs.Rules as definition
use Rattle.clu_type_rules.specs.declared.known.Known.{Known}
use Rattle.clu_type_rules.specs.Known as its_known
use Rattle.clu_type_rules.specs.Bindings.{meanings}
use Rattle.clu_type_rules.specs.ExceptionRules.{arm_for}
use Rattle.clu_type_rules.specs.Objects.{names}
use Rattle.clu_type_rules.specs.Rules.{violates}
use Rattle.clu_type_rules.specs.StatementRules.{results_round}
use Rattle.clu_passes.specs.Bound.{AreBadDecls, AreTargets, AreTargetsKnown, IsArmKnown, IsExceptionKnown, IsFirstKnown, IsNameKnown}
use Rattle.clu_passes.specs.ConstantTables.{file_with, AreBracketsKnown, AreTables}
use Rattle.clu_passes.specs.Constructed.{IsTyped}
use Rattle.clu_passes.specs.FactTables.{IsResultKnown}
use Rattle.clu_passes.specs.Made.{IsWhole}
use Rattle.clu_passes.specs.OthersKnown.{AreOthersKnown}
use Rattle.clu_passes.proofs.ArmTags.{v22_is}
use Rattle.clu_passes.proofs.ArmTypes.{v23_is}
use Rattle.clu_passes.proofs.AssignedTypes.{v15_is}
use Rattle.clu_passes.proofs.Conditions.{v16_is}
use Rattle.clu_passes.proofs.ExitTypes.{of_exits}
use Rattle.clu_passes.proofs.Invoked.{v11_is, v12_is}
use Rattle.clu_passes.proofs.Loops.{v36_is}
use Rattle.clu_passes.proofs.Misfits.{v13_is}
use Rattle.clu_passes.proofs.OthersSame as so
use Rattle.clu_passes.proofs.ResultNumbers.{v14_is}
use Rattle.clu_passes.proofs.Returned.{v30_is}
use Rattle.clu_passes.proofs.SignalTypes.{of_resignals, of_signals}
use Rattle.clu_passes.proofs.Tagged.{v21_is}
use Rattle.clu_passes.proofs.TargetsMean as naming

module _ (t : Text) (k : Known) (library : List Specification) (refused : List ℕ) (all : IsWhole t k.tables library refused) (lost : ℕ → Bool)
    (known : AreOthersKnown (file_with k.tables.file (scope_in k.tables.file.syntax.now k.tables.file.rounds.now) library refused) k lost) (items : ℕ → Item) (bits : List Bool) where
  abbrev scope : Scope
  scope = scope_in k.tables.file.syntax.now k.tables.file.rounds.now

  abbrev f : File
  f = file_with k.tables.file (scope_in k.tables.file.syntax.now k.tables.file.rounds.now) library refused

  abbrev Same : ℕ → Rule → Type 0
  Same n x = violates k bits items n x ≡ definition.violates f (is_bad f) n x

  shaped : HaveForms k.tables.file.syntax.now
  shaped = all.made.file.parsed.forms

  tree : IsTree k.tables.file.syntax.now
  tree = all.made.file.parsed.tree

  are : AreTables f k.tables
  are = so.are t k library refused all

  targets : AreTargets f k
  targets = naming.targets_mean t k library refused all.made.file.parsed all.made.file.rounds all.made.file.few all.made.file.names all.made.file.bindings

  module _ (n : ℕ) (here : lost n ≡ false) where
    -- ---- invocations

    pub same_operation : Same n rule.NoOperation
    same_operation = sym (v11_is f k lost known.rules.facts n here)

    pub same_count : Same n rule.ArgumentCount
    same_count = sym (v12_is f k are.arena lost known.rules.facts n here)

    pub same_arguments : IsTyped k.tables (kind_in f n) (its_known.children k n) → Same n rule.ArgumentType
    same_arguments typed = sym (v13_is k scope library refused shaped tree are lost known.rules.facts known.rules.wanted items n here typed)

    pub same_has : n < length f.nodes → Same n rule.WhereNotMet
    same_has inside = sym (known.rules.unmet.by_has n inside here)

    pub same_in : n < length f.nodes → Same n rule.NotInTypeSet
    same_in inside = sym (known.rules.unmet.by_in n inside here)

    pub same_iterator : Same n rule.IteratorUse
    same_iterator = sym (v36_is k scope library refused shaped tree are lost known.rules.facts known.rules.wanted n here)

    -- ---- what is bound

    pub same_number : IsNameKnown k.tables.file (kind_in f n) n (its_known.children k n) → AreBracketsKnown k.tables.file n → Same n rule.ResultCount
    same_number named brackets = sym (v14_is k scope library refused shaped tree are known.rules.modules lost known.rules.facts targets items n here named brackets)

    pub same_assigned : AreTargetsKnown f k n (kind_in f n) (meanings k n) → IsFirstKnown f lost n → Same n rule.AssignType
    same_assigned variables first = sym (v15_is k scope library refused shaped tree are lost known.rules.facts known.inside targets items n here variables first)

    -- ---- conditions, tags and results

    pub same_condition : Same n rule.NotBool
    same_condition = sym (v16_is k scope library refused shaped t all.made.file.parsed.shape tree are lost known.rules.facts known.rules.wanted items n here)

    pub same_tagged : Same n rule.NotTagged
    same_tagged = sym (v21_is k scope library refused shaped tree are lost known.rules.facts n here)

    pub same_tags : IsFirstKnown f lost n → Same n rule.TagMissingOrTwice
    same_tags first =
        sym (v22_is k scope library refused shaped tree are lost known.rules.facts (so.parents t k library refused all) (so.modules t k library refused all) all.noted.repeated items n here first)

    pub same_results : AllByRecursion (IsResultKnown f k n) (results_round k n) → Same n rule.ReturnValues
    same_results results = sym (v30_is k scope library refused shaped tree lost known.rules.facts (so.stands t k library refused all) known.parts items n here results)

    -- ---- exceptions

    pub same_arm_types : IsFirstKnown f lost n → Same n rule.ArmTypes
    same_arm_types first = sym (v23_is k scope library refused shaped tree are lost known.rules.facts known.inside known.raises (so.parents t k library refused all) items n here first)

    pub same_signal : kind_in f n ≡ kind.Signal → AllByRecursion (IsExceptionKnown f k n) (names k n) → Same n rule.SignalTypes
    same_signal is exceptions =
        sym (of_signals k scope library refused shaped tree are (so.firsts t k library refused all) (so.stands t k library refused all) known.parts lost known.rules.facts bits (is_bad f) items n is here exceptions)

    pub same_resignal : kind_in f n ≡ kind.Resignal → AllByRecursion (IsExceptionKnown f k n) (names k n) → Same n rule.SignalTypes
    same_resignal is exceptions =
        sym (of_resignals k scope library refused shaped tree are (so.firsts t k library refused all) (so.stands t k library refused all) known.parts lost known.rules.facts known.raises bits (is_bad f) items n is here exceptions)

    pub same_exit : AreBadDecls f bits (is_bad f) → kind_in f n ≡ kind.Exit → IsArmKnown k lost (is_bad f) n → Same n rule.SignalTypes
    same_exit decls is arm =
        sym (of_exits k scope library refused t all.made.file.parsed all.made.file.rounds are (so.firsts t k library refused all) lost known.rules.facts known.inside bits (is_bad f) decls items n is here arm)
