use Rattle.std.proofs.Common.{◌≡◌, ℕ, length}
use Rattle.clu_syntax.specs.Items.{Item}
use Rattle.clu_type_rules.specs.Objects.{types_of, may_name_each}
use Rattle.clu_type_rules.proofs.objects.fit_declared.Given as goal

abbrev pub invariant-loop-declarations : goal.invariant-loop-declarations
invariant-loop-declarations l =
    (items : ℕ → Item) → may_name_each l.k items l.bad (types_of l.k l.objects) l.declarations ≡ may_name_each l.k items l.bad (types_of l.k l.initial.objects) l.initial.declarations

abbrev pub decreases-loop-declarations : goal.decreases-loop-declarations
decreases-loop-declarations l = length l.declarations
