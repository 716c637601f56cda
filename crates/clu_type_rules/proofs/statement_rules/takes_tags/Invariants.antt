use Rattle.std.proofs.Common.{◌≡◌, length}
use Rattle.clu_name_rules.specs.Components.{AreAscending}
use Rattle.clu_type_rules.specs.Tags.{takes_tags}
use Rattle.clu_type_rules.proofs.statement_rules.takes_tags.Given as goal

abbrev pub invariant-loop-tags : goal.invariant-loop-tags
invariant-loop-tags l = AreAscending l.fields → takes_tags l.k l.wanted l.fields l.tags ≡ takes_tags l.k l.wanted l.fields l.initial.tags

abbrev pub decreases-loop-tags : goal.decreases-loop-tags
decreases-loop-tags l = length l.tags
