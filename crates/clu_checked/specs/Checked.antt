-- The file of which a check answers, with the tables that it makes of it, and what is not shown of these yet.
use Rattle.std.specs.Prelude.{◌≡◌, ◌<◌, ℕ, Bool, true, List, length, map, Option, None}
use Rattle.clu_base.specs.declared.rules.Refused.{Refused}
use Rattle.clu_tree.specs.declared.node.Node.{Node}
use Rattle.clu_tree.specs.Nodes.{modules}
use Rattle.clu_syntax.specs.declared.round.Round.{Round}
use Rattle.clu_syntax.specs.Items.{Item}
use Rattle.clu_syntax.specs.Kinds.{kind_at}
use Rattle.clu_types.specs.declared.spec.Spec.{Spec}
use Rattle.clu_checking.specs.Specifications.{Specification, specification_told}
use Rattle.clu_checking.specs.Files.{File, plain_file}
use Rattle.clu_checking.specs.Refusals.{checked_file}
use Rattle.clu_bindings.specs.declared.file.Headed.{Headed}
use Rattle.clu_name_rules.specs.declared.tables.Tables.{Tables}
use Rattle.clu_type_rules.specs.declared.known.Known.{Known}
use Rattle.clu_type_rules.specs.Asked.{rules_at}
use Rattle.clu_type_rules.specs.Tags.{TagsAscend}
use Rattle.clu_passes.specs.Ascending.{SpecificationsAscend}
use Rattle.clu_passes.specs.Bound.{AreOfModules}
use Rattle.clu_passes.specs.Libraries.{HoldAscending}
use Rattle.clu_passes.specs.RepsOfTree.{HaveReps}
use Rattle.clu_passes.specs.Tags.{asks_tags}
use Rattle.clu_check_mod.specs.Answered.{IsFirst}
use Rattle.clu_check_mod.specs.Bad.{bad_of_all, bad_of_types}
use Rattle.clu_check_mod.specs.Walks.{NoneBefore, first_on}
use Rattle.clu_check_mod.specs.declared.rules.Walk.TheVariants as walk
use Rattle.clu_check_mod.specs.declared.walk.Extent.{Extent}
use Rattle.clu_check_mod.specs.declared.walk.Extent.TheVariants as extent

-- what the grammar says of the tree of a text besides what its nodes are made of: where parameters stand, and equates of `rep`
pub record IsOfGrammar (nodes : List Node) (rounds : List Round) : Type 0 where
  pub parameters : AreOfModules nodes rounds
  pub reps : HaveReps nodes

-- what is so of specifications that are kept of accepted files: what is looked for in them by its name ascends
pub record IsLibrary (library : List Spec) : Type 0 where
  pub components : SpecificationsAscend (map specification_told library)
  pub operations : HoldAscending library

-- the tags that a rule looks for ascend, at each node before which the walks find nothing
abbrev pub TagsKnown : Known → List Bool → (ℕ → Item) → Extent → Type 0
TagsKnown k bad items asked =
    asked ≡ extent.Whole → first_on k bad items walk.Headings ≡ None → (n : ℕ) → n < length k.tables.file.syntax.now → NoneBefore k bad items walk.Rest n →
    asks_tags (rules_at (kind_at k.tables.file.syntax.now n)) ≡ true → TagsAscend k n

module _ (nodes : List Node) (library : List Spec) (asked : Extent) (first : Option Refused) (is : IsFirst nodes library asked first) where
  -- the file, under what these specifications say
  abbrev pub file : List Specification → File
  file specs = checked_file nodes is.rounds specs

  -- what the rules are asked of
  abbrev pub known : Known
  known = is.is.is.is.is.known

  -- the places of declarations, in the order in which equates are asked, and which of them lead to circles
  abbrev pub order : List ℕ
  order = is.is.lists.circles.order.items

  abbrev pub circular : List Bool
  circular = is.is.lists.circles.circular.items

  -- which equates are bad
  abbrev pub bits : (ℕ → Item) → List Bool
  bits items = bad_of_all known items order

  -- the same before its types are refused, the tables by which they are, and by these which equates are bad
  abbrev pub plain : List Specification → File
  plain specs = plain_file nodes is.rounds specs

  abbrev pub tables : Tables
  tables = is.is.is.before

  abbrev pub bits_of_types : (ℕ → Item) → List Bool
  bits_of_types items = bad_of_types tables items order

  -- the file again, as the rules read it in their tables
  abbrev pub tabled : List Specification → File
  tabled specs = checked_file known.tables.file.syntax.now known.tables.file.rounds.now specs

  -- and as it is when its headings are known
  abbrev pub headed : Headed
  headed = is.is.is.headed

  abbrev pub headed_file : List Specification → File
  headed_file specs = checked_file headed.file.syntax.now headed.file.rounds.now specs
