use Rattle.std.proofs.Common.{◌≡◌, length, replicate}
use Rattle.clu_type_rules.specs.Objects.{types_of, each_may_be}
use Rattle.clu_type_rules.proofs.objects.may_name.Given as goal

abbrev pub invariant-loop-names : goal.invariant-loop-names
invariant-loop-names l =
    each_may_be l.k (types_of l.k l.objects) (replicate (length l.names) l.wanted) ≡ each_may_be l.k (types_of l.k l.initial.objects) (replicate (length l.initial.names) l.wanted)

abbrev pub decreases-loop-names : goal.decreases-loop-names
decreases-loop-names l = length l.names
