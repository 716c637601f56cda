-- Rules that look for the tags of a type by their names.
use Rattle.std.specs.Prelude.{Bool, true, false, List}
use Rattle.std.specs.List.{list_any}
use Rattle.clu_base.specs.declared.rules.Rule.{Rule}
use Rattle.clu_base.specs.declared.rules.Rule.TheVariants as rule

abbrev pub is_of_tags : Rule → Bool
is_of_tags rule.AssignType = true
is_of_tags rule.TagMissingOrTwice = true
is_of_tags _ = false

abbrev pub asks_tags : List Rule → Bool
asks_tags rules = list_any is_of_tags rules
