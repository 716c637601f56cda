-- Whether a node violates a rule, by its name: what asks rules one after the other looks into none.
use Rattle.std.specs.Prelude.{ℕ, Bool, List}
use Rattle.std.specs.List.{AllByRecursion}
use Rattle.clu_base.specs.declared.rules.Rule.{Rule}
use Rattle.clu_base.specs.declared.rules.Rule.TheVariants as rule
use Rattle.clu_syntax.specs.Items.{Item}
use Rattle.clu_name_rules.specs.declared.tables.Tables.{Tables}
use Rattle.clu_type_rules.specs.declared.known.Known.{Known}
use Rattle.clu_type_rules.specs.Rules.{violates, violates_of_types}
use Rattle.clu_type_rules.specs.Tags.{TagsAscend}

unfoldable pub is_violated : Known → List Bool → (ℕ → Item) → ℕ → Rule → Bool
is_violated k bad items n r = violates k bad items n r

unfoldable pub is_violated_of_types : Tables → List Bool → (ℕ → Item) → ℕ → Rule → Bool
is_violated_of_types t bad items n r = violates_of_types t bad items n r

-- what a rule looks for by its name at the node n ascends: the tags of the type on which a Tagcase selects
unfoldable pub RuleAscends : Known → ℕ → Rule → Type 0
RuleAscends k n rule.AssignType = TagsAscend k n
RuleAscends k n rule.TagMissingOrTwice = TagsAscend k n
RuleAscends k n _ = Unit {0}

-- what some rules look for
unfoldable pub RulesAscend : Known → ℕ → List Rule → Type 0
RulesAscend k n rules = AllByRecursion (RuleAscends k n) rules
