-- Of the tree of a source that is accepted, the names that are noted of its modules are what the definitions say that these name.
use Rattle.std.proofs.Common.{◌≡◌, ◌∙◌, ◌≤◌, ℕ, List, None, length, map, arith, subst}
use Rattle.clu_base.specs.declared.tokens.Token.{Token}
use Rattle.clu_tree.specs.declared.node.Node.{Node}
use Rattle.clu_parser.specs.Parsing.{IsTreeOf, text_of}
use Rattle.clu_parser.specs.Trees.{Text}
use Rattle.clu_syntax.specs.declared.round.Round.{Round}
use Rattle.clu_syntax.specs.Syntax.{Identifier}
use Rattle.clu_syntax.proofs.Unique.{unique}
use Rattle.clu_types.specs.declared.spec.Spec.{Spec}
use Rattle.clu_checking.specs.Files.{plain_file}
use Rattle.clu_checking.specs.Refusals.{checked_file, refusal, refused_nodes}
use Rattle.clu_checking.specs.Specifications.{Specification, specification_told}
use Rattle.clu_declares.specs.Declares.{AreFew, IsParsed}
use Rattle.clu_declares.proofs.Sources.{few_of_source}
use Rattle.clu_passes.specs.Bound.{AreOfModules}
use Rattle.clu_passes.proofs.ParmsOfModules.{parms_of_modules}
use Rattle.clu_check_mod.specs.Naming.{AreNamed}
use Rattle.clu_check_mod.specs.declared.walk.Extent.TheVariants as extent
use Rattle.clu_checked.specs.Naming.{AreModulesNamed}
use Rattle.clu_checked.specs.Sources.{HasSource}
use Rattle.clu_checked.specs.Violations.{IsFirstViolation}
use Rattle.clu_checked.proofs.NamedEach.{each_named}
use Rattle.clu_checked.proofs.NamesKnown.{name_known}

pub all_named : (nodes : List Node) (library : List Spec) → HasSource nodes → IsFirstViolation nodes library extent.Whole None → (named : List (List Identifier)) → AreNamed nodes named → AreModulesNamed nodes library named
all_named nodes library source accepted named has =
    let bytes : List ℕ = source.bytes in
    let tokens : List Token = source.tokens in
    let t : Text = text_of source.bytes source.tokens in
    let parsed : IsParsed (text_of source.bytes source.tokens) nodes = source.read.parsed in
    let small : length source.bytes ≤ 1048576 = source.source.small in
    let few : AreFew nodes has.rounds = few_of_source bytes tokens t nodes has.rounds source.source.tokens_are parsed source.read.root (omega (arith, small)) in
    let tree : IsTreeOf source.bytes source.tokens nodes = source.source.tree_is in
    let parameters : AreOfModules nodes has.rounds = parms_of_modules t nodes has.rounds parsed has.surrounded tree.0 tree.1 tree.2 in
    let kept : List Specification = map specification_told library in
    let refused : List ℕ = refused_nodes (plain_file nodes has.rounds (map specification_told library)) in
    let same : accepted.rounds ≡ has.rounds = unique nodes parsed.tree has.rounds has.surrounded accepted.rounds accepted.surrounded in
    let none : refusal (checked_file nodes has.rounds (map specification_told library)) ≡ None = subst (λ (rs : List Round). refusal (checked_file nodes rs (map specification_told library)) ≡ None) same accepted.is in
    record {
      rounds = has.rounds;
      surrounded = has.surrounded;
      are = has.are ∙ each_named t nodes has.rounds parsed has.surrounded few parameters kept refused (name_known (checked_file nodes has.rounds (map specification_told library)) none);
    }
