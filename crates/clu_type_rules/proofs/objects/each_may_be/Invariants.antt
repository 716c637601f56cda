use Rattle.std.proofs.Common.{◌≡◌, ℕ, length}
use Rattle.clu_syntax.specs.Items.{Item}
use Rattle.clu_type_rules.specs.Objects.{types_of, each_may_be, types_inside}
use Rattle.clu_type_rules.proofs.objects.each_may_be.Given as goal

abbrev pub invariant-loop-wanted : goal.invariant-loop-wanted
invariant-loop-wanted l =
    (items : ℕ → Item) → each_may_be l.k (types_of l.k l.objects) (types_inside l.k items l.n l.wanted) ≡ each_may_be l.k (types_of l.k l.initial.objects) (types_inside l.k items l.n l.initial.wanted)

abbrev pub decreases-loop-wanted : goal.decreases-loop-wanted
decreases-loop-wanted l = length l.wanted
