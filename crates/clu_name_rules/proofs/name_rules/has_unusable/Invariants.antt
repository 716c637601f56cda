use Rattle.std.proofs.Common.{◌≡◌, length}
use Rattle.std.specs.List.{list_any}
use Rattle.clu_name_rules.specs.NameRules.{is_unusable}
use Rattle.clu_name_rules.proofs.name_rules.has_unusable.Given as goal

abbrev pub invariant-loop-bounds : goal.invariant-loop-bounds
invariant-loop-bounds l = list_any (is_unusable l.t.file.syntax.now l.t.file.names.now l.t.circular.now l.bad) l.bounds ≡ list_any (is_unusable l.t.file.syntax.now l.t.file.names.now l.t.circular.now l.bad) l.initial.bounds

abbrev pub decreases-loop-bounds : goal.decreases-loop-bounds
decreases-loop-bounds l = length l.bounds
