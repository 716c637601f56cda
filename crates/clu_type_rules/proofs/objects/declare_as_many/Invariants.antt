use Rattle.std.proofs.Common.{◌≡◌, ◌==◌, ℕ, Bool, List, length}
use Rattle.clu_syntax.specs.Items.{Item}
use Rattle.clu_type_rules.specs.Objects.{declared_types}
use Rattle.clu_type_rules.proofs.objects.declare_as_many.Given as goal

abbrev pub invariant-loop-declarations : goal.invariant-loop-declarations
invariant-loop-declarations l =
    (items : ℕ → Item) (bad : List Bool) → (length (declared_types l.k items bad l.declarations) == l.left) ≡ (length (declared_types l.k items bad l.initial.declarations) == l.count)

abbrev pub decreases-loop-declarations : goal.decreases-loop-declarations
decreases-loop-declarations l = length l.declarations
