-- What a check answers over its tables is what the definition of the rules says of the tree of a source.
use Rattle.std.proofs.Common.{ℕ, List, Some, subst, sym}
use Rattle.clu_base.specs.declared.rules.Refused.{Refused}
use Rattle.clu_tree.specs.declared.node.Node.{Node}
use Rattle.clu_types.specs.declared.spec.Spec.{Spec}
use Rattle.clu_check_mod.specs.Answered.{AreOwn, IsAnswerBy, IsFirst, IsUnspecified}
use Rattle.clu_check_mod.specs.Refusals.{IsOfTree}
use Rattle.clu_check_mod.specs.declared.errors.CheckError.{CheckError}
use Rattle.clu_check_mod.specs.declared.errors.CheckError.TheVariants as check
use Rattle.clu_check_mod.specs.declared.walk.Extent.{Extent}
use Rattle.clu_checked.specs.Sources.{AreKept, HasSource}
use Rattle.clu_checked.specs.Violations.{IsFirstViolation}
use Rattle.clu_checked.proofs.Sources.{first_told, never_lost, specified_told}
use Rattle.clu_outcome.specs.declared.outcome.Outcome.{Outcome}
use Rattle.clu_outcome.specs.declared.outcome.Outcome.TheVariants as outcome
use Rattle.clu_driver.specs.Sources.{AreSpecificationsOf, IsRefusalOf, NotAccepted}

module _ (nodes : List Node) (library : List Spec) (source : HasSource nodes) (kept : AreKept library) where
  pub specified : (asked : Extent) (own : List Spec) → AreOwn nodes library asked own → AreSpecificationsOf library nodes own
  specified asked own are = record { named = are.named; are = specified_told nodes library source kept asked own are }

  refused_by : (asked : Extent) (r : Refused) (how : Outcome) (name : List ℕ) → IsRefusalOf (check.Refused r) how name → IsOfTree nodes (check.Refused r) → IsFirst nodes library asked (Some r) → NotAccepted asked how name library nodes
  refused_by asked r (outcome.Refused n told) name is there first =
      (is.0, subst (λ (r : Refused). IsOfTree nodes (check.Refused r)) (sym is.1) there, subst (λ (r : Refused). IsFirstViolation nodes library asked (Some r)) (sym is.1) (first_told nodes library source kept asked (Some r) first))
  refused_by asked r _ name is there first = absurd is

  pub refused_told : (asked : Extent) (e : CheckError) (how : Outcome) (name : List ℕ) → IsRefusalOf e how name → IsOfTree nodes e → IsAnswerBy (IsFirst nodes library asked) (IsUnspecified nodes library asked) e → NotAccepted asked how name library nodes
  refused_told asked (check.Refused r) how name is there first = refused_by asked r how name is there first
  refused_told asked check.Memory how name is there first = subst (λ (o : Outcome). NotAccepted asked o name library nodes) (sym is) tt
  refused_told asked check.NotYet how name is there unspecified = absurd (never_lost nodes library source kept asked unspecified)
