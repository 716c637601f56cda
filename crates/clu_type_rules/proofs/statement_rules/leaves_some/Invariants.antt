use Rattle.std.proofs.Common.{◌≡◌, length}
use Rattle.clu_name_rules.specs.Components.{leaves_some}
use Rattle.clu_name_rules.specs.Repeated.{tags_at}
use Rattle.clu_type_rules.proofs.statement_rules.leaves_some.Given as goal

abbrev pub invariant-loop-arms : goal.invariant-loop-arms
invariant-loop-arms l = leaves_some (tags_at l.f.syntax.now) l.left l.arms ≡ leaves_some (tags_at l.f.syntax.now) l.many l.initial.arms

abbrev pub decreases-loop-arms : goal.decreases-loop-arms
decreases-loop-arms l = length l.arms
