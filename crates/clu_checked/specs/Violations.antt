-- The first violation in a tree under the specifications of a library, by the definition of the rules, and what an accepted tree is
-- handed on with.
use Rattle.std.specs.Prelude.{◌≡◌, List, map, Option}
use Rattle.clu_base.specs.declared.rules.Refused.{Refused}
use Rattle.clu_tree.specs.declared.node.Node.{Node}
use Rattle.clu_syntax.specs.declared.round.Round.{Round}
use Rattle.clu_syntax.specs.Rounds.{AreRounds}
use Rattle.clu_types.specs.declared.spec.Spec.{Spec}
use Rattle.clu_checking.specs.Specifications.{specification_told}
use Rattle.clu_checking.specs.Files.{File}
use Rattle.clu_checking.specs.Refusals.{checked_file, heading_refusal, refusal}
use Rattle.clu_core.specs.declared.checked.Checked.{Checked}
use Rattle.clu_check_mod.specs.declared.walk.Extent.{Extent}
use Rattle.clu_check_mod.specs.declared.walk.Extent.TheVariants as extent
use Rattle.clu_checked.specs.Noted.{IsHandedOn}
use Rattle.clu_checked.specs.Specified.{AreSpecifications}

-- on the walk over the headings alone, or on both walks
abbrev pub first_in : Extent → File → Option Refused
first_in extent.Headings f = heading_refusal f
first_in extent.Whole f = refusal f

-- it is this one, if there is one; what surrounds the nodes of a tree is one list alone
pub record IsFirstViolation (nodes : List Node) (library : List Spec) (asked : Extent) (first : Option Refused) : Type 0 where
  pub rounds : List Round
  pub surrounded : AreRounds nodes rounds
  pub is : first_in asked (checked_file nodes rounds (map specification_told library)) ≡ first

-- types, operations and constants of the nodes are what the definitions say of this file
pub record IsHanded (nodes : List Node) (library : List Spec) (checked : Checked) : Type 0 where
  pub rounds : List Round
  pub surrounded : AreRounds nodes rounds
  pub is : IsHandedOn (checked_file nodes rounds (map specification_told library)) checked

-- these are the specifications of its modules by what the definitions say of this file
pub record HasSpecifications (nodes : List Node) (library : List Spec) (own : List Spec) : Type 0 where
  pub rounds : List Round
  pub surrounded : AreRounds nodes rounds
  pub is : AreSpecifications (checked_file nodes rounds (map specification_told library)) own
