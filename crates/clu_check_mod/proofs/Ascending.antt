-- What rules look for by its name ascends where all that is asked does.
use Rattle.std.proofs.Common.{◌≡◌, ◌<◌, ◌≤◌, ◌&&◌, ℕ, zero, suc, true, List, [], ◌∷◌, get_or, length, arith, subst, sym, ◌∙◌}
use Rattle.std.specs.List.{AllByRecursion}
use Rattle.std.specs.Prelude.{slice_get}
use Rattle.std.proofs.lemmas.Bool.{or_left, or_right}
use Rattle.clu_base.specs.declared.rules.Rule.{Rule}
use Rattle.clu_base.specs.declared.rules.Rule.TheVariants as rule
use Rattle.clu_tree.specs.declared.node.NodeKind.TheVariants as kind
use Rattle.clu_syntax.specs.Rounds.{round_at}
use Rattle.clu_head.specs.There.{is_there}
use Rattle.clu_bindings.specs.Files.{stands_in}
use Rattle.clu_type_rules.specs.declared.known.Known.{Known}
use Rattle.clu_type_rules.specs.Tags.{TagsAscend}
use Rattle.clu_check_mod.specs.Asking.{RuleAscends, RulesAscend}
use Rattle.clu_check_mod.specs.Bad.{AscendBy, AscendIn, AscendsAt, file_by, is_settled}
use Rattle.clu_check_mod.specs.declared.bad.By.{By}
use Rattle.clu_check_mod.specs.declared.bad.By.TheVariants as by

module _ (k : Known) (n : ℕ) where
  -- the tags, for the two rules that look for them
  pub assigned_ascend : (r : Rule) → r ≡ rule.AssignType → RuleAscends k n r → TagsAscend k n
  unfolding RuleAscends
  assigned_ascend r is up = subst (RuleAscends k n) is up

  pub tagged_ascend : (r : Rule) → r ≡ rule.TagMissingOrTwice → RuleAscends k n r → TagsAscend k n
  unfolding RuleAscends
  tagged_ascend r is up = subst (RuleAscends k n) is up

  -- one of several rules
  pub one_ascends : (rules : List Rule) (i : ℕ) (d : Rule) → i < length rules → RulesAscend k n rules → RuleAscends k n (get_or rules i d)
  unfolding RulesAscend
  one_ascends [] i d l up = absurd (omega (arith, l))
  one_ascends (r ∷ rules) zero d l up = up.0
  one_ascends (r ∷ rules) (suc i) d l up = one_ascends rules i d (omega (arith, l)) up.1

-- the same rules
pub ascend_same : (k : Known) (n : ℕ) (rules others : List Rule) → rules ≡ others → RulesAscend k n others → RulesAscend k n rules
ascend_same k n rules others is up = subst (RulesAscend k n) (sym is) up

-- in an equate, in the declaration of an arm, and at a node in one
pub in_equate : (its : By) (n : ℕ) → is_there kind.Equate (slice_get (file_by its).syntax.now n) ≡ true → AscendBy its → AscendIn its n
in_equate (by.Types t) n is up = up
in_equate (by.All k) n is up = (
  up.0,
  up.1 n (or_left (is_there kind.Equate (slice_get (file_by (by.All k)).syntax.now n)) (is_there kind.Decl (slice_get (file_by (by.All k)).syntax.now n) && stands_in (file_by (by.All k)).syntax.now (file_by (by.All k)).rounds.now kind.When n) is),
)

pub in_arm : (its : By) (n : ℕ) → (is_there kind.Decl (slice_get (file_by its).syntax.now n) && stands_in (file_by its).syntax.now (file_by its).rounds.now kind.When n) ≡ true → AscendBy its → AscendIn its n
in_arm (by.Types t) n is up = up
in_arm (by.All k) n is up = (
  up.0,
  up.1 n (or_right (is_there kind.Equate (slice_get (file_by (by.All k)).syntax.now n)) (is_there kind.Decl (slice_get (file_by (by.All k)).syntax.now n) && stands_in (file_by (by.All k)).syntax.now (file_by (by.All k)).rounds.now kind.When n) is),
)

pub at_inside : (its : By) (n m : ℕ) → (round_at (file_by its).rounds.now n).first ≤ m → m < n → AscendIn its n → AscendsAt its m
at_inside (by.Types t) n m from to up = up
at_inside (by.All k) n m from to up = (up.0, up.1 m from to)
