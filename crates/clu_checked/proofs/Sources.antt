-- What a check answers of the tree of a source under a kept library is the first violation in it.
use Rattle.std.proofs.Common.{◌≤◌, ◌<◌, ◌+◌, ◌-◌, ◌^◌, ℕ, List, [], ◌∷◌, length, Option, arith, sym}
use Rattle.std.proofs.lemmas.List.{length-append}
use Rattle.clu_base.specs.declared.rules.Refused.{Refused}
use Rattle.clu_base.specs.declared.tokens.Token.{Token}
use Rattle.clu_tree.specs.declared.node.Node.{Node}
use Rattle.clu_tree.specs.declared.node.NodeKind.{NodeKind}
use Rattle.clu_tree.specs.declared.node.NodeKind.TheVariants as kind
use Rattle.clu_tree.specs.Nodes.{module_at, modules, modules_from}
use Rattle.clu_parser.specs.Parsing.{IsTreeOf, text_of}
use Rattle.clu_parser.specs.Trees.{Text}
use Rattle.clu_syntax.specs.declared.round.Round.{Round}
use Rattle.clu_syntax.specs.Rounds.{AreRounds}
use Rattle.clu_types.specs.declared.spec.Spec.{Spec}
use Rattle.clu_declares.specs.Declares.{AreFew, IsParsed}
use Rattle.clu_declares.proofs.Few.{few_nodes}
use Rattle.clu_declares.proofs.Sources.{few_of_source, few_tokens}
use Rattle.clu_core.specs.declared.checked.Checked.{Checked}
use Rattle.clu_passes.proofs.ParmsOfModules.{parms_of_modules}
use Rattle.clu_passes.proofs.RepsOfBuilt.{reps_of_built}
use Rattle.clu_check_mod.specs.Answered.{AreOwn, IsFirst, IsNoted, IsUnspecified}
use Rattle.clu_check_mod.specs.declared.walk.Extent.{Extent}
use Rattle.clu_check_mod.specs.declared.walk.Extent.TheVariants as extent
use Rattle.clu_checked.specs.Checked.{IsOfGrammar}
use Rattle.clu_checked.specs.Sources.{AreKept, HasSource}
use Rattle.clu_checked.specs.Violations.{HasSpecifications, IsFirstViolation, IsHanded}
use Rattle.clu_checked.proofs.Checks.{headings_first, none_lost, whole_first}
use Rattle.clu_checked.proofs.Noted.{all_handed_on}
use Rattle.clu_checked.proofs.Specified.{all_specified}

-- ---- as many modules as nodes, at most

one_module : (at : ℕ) (k : NodeKind) → length (module_at at k) ≤ 1
one_module at kind.Module = omega arith
one_module at kind.File = omega arith
one_module at _ = omega arith

fewer : (at : ℕ) (ns : List Node) → length (modules_from at ns) ≤ length ns
fewer at [] = omega arith
fewer at (n ∷ ns) =
    let here : length (module_at at n.kind) ≤ 1 = one_module at n.kind in
    let later : length (modules_from (at + 1) ns) ≤ length ns = fewer (at + 1) ns in
    let both = length-append (module_at at n.kind) (modules_from (at + 1) ns) in
    omega (arith, here, later, both)

-- ---- of the tree of a source

module _ (nodes : List Node) (library : List Spec) (source : HasSource nodes) (held : AreKept library) where
  abbrev bytes : List ℕ
  bytes = source.bytes

  abbrev tokens : List Token
  tokens = source.tokens

  abbrev t : Text
  t = text_of bytes tokens

  abbrev parsed : IsParsed t nodes
  parsed = source.read.parsed

  abbrev tree : IsTreeOf bytes tokens nodes
  tree = source.source.tree_is

  small : length bytes ≤ 1048576
  small = source.source.small

  few_modules : length (modules nodes) + length library < 2 ^ 32 - 1
  few_modules =
      let short : length tokens ≤ length bytes = few_tokens bytes tokens source.source.tokens_are in
      let most : length nodes ≤ 2 ^ 22 = few_nodes t nodes (length tokens) parsed source.read.root (omega (arith, short, small)) in
      let fewest : length (modules nodes) ≤ length nodes = fewer 0 nodes in
      omega (arith, most, fewest, held.few)

  few_declared : (rounds : List Round) → AreFew nodes rounds
  few_declared rounds = few_of_source bytes tokens t nodes rounds source.source.tokens_are parsed source.read.root (omega (arith, small))

  grammar : (rounds : List Round) → AreRounds nodes rounds → IsOfGrammar nodes rounds
  grammar rounds are = record { parameters = parms_of_modules t nodes rounds parsed are tree.0 tree.1 tree.2; reps = reps_of_built bytes tokens nodes source.source.tokens_are tree }

  pub first_told : (asked : Extent) (first : Option Refused) → IsFirst nodes library asked first → IsFirstViolation nodes library asked first
  first_told extent.Whole first is = record {
    rounds = is.rounds;
    surrounded = is.surrounded;
    is = sym (whole_first t nodes parsed is.rounds is.surrounded (few_declared is.rounds) library few_modules (grammar is.rounds is.surrounded) held.ascending first is);
  }
  first_told extent.Headings first is = record {
    rounds = is.rounds;
    surrounded = is.surrounded;
    is = sym (headings_first t nodes parsed is.rounds is.surrounded (few_declared is.rounds) library few_modules (grammar is.rounds is.surrounded) held.ascending first is);
  }

  pub never_lost : (asked : Extent) → IsUnspecified nodes library asked → ⊥
  never_lost asked unspecified =
      none_lost t nodes parsed unspecified.is.rounds unspecified.is.surrounded (few_declared unspecified.is.rounds) library few_modules (grammar unspecified.is.rounds unspecified.is.surrounded) held.ascending asked unspecified

  -- what an accepted file is handed on with
  pub handed_told : (checked : Checked) → IsNoted nodes library checked → IsHanded nodes library checked
  handed_told checked noted = record {
    rounds = noted.is.rounds;
    surrounded = noted.is.surrounded;
    is = all_handed_on t nodes parsed noted.is.rounds noted.is.surrounded (few_declared noted.is.rounds) library few_modules (grammar noted.is.rounds noted.is.surrounded) held.ascending checked noted;
  }

  -- the specifications of its modules
  pub specified_told : (asked : Extent) (own : List Spec) → AreOwn nodes library asked own → HasSpecifications nodes library own
  specified_told asked own has = record {
    rounds = has.is.rounds;
    surrounded = has.is.surrounded;
    is =
        all_specified t nodes parsed has.is.rounds has.is.surrounded (few_declared has.is.rounds) library few_modules (grammar has.is.rounds has.is.surrounded) held.ascending asked own has;
  }
