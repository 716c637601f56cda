use Rattle.std.proofs.Common.{◌≡◌, length}
use Rattle.std.specs.List.{list_any}
use Rattle.clu_name_rules.specs.ModuleRules.{lacks_routine}
use Rattle.clu_name_rules.proofs.module_rules.lacks_one.Given as goal

abbrev pub invariant-loop-exports : goal.invariant-loop-exports
invariant-loop-exports l = list_any (lacks_routine l.t.items.now l.t.words.now l.cluster) l.exports ≡ list_any (lacks_routine l.t.items.now l.t.words.now l.cluster) l.initial.exports

abbrev pub decreases-loop-exports : goal.decreases-loop-exports
decreases-loop-exports l = length l.exports
