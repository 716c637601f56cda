use Rattle.std.proofs.Common.{◌≡◌, ℕ, length, map}
use Rattle.clu_syntax.specs.Items.{Item}
use Rattle.clu_type_rules.specs.Objects.{types_of}
use Rattle.clu_type_rules.specs.Bindings.{may_name, variable_type}
use Rattle.clu_type_rules.proofs.binding_rules.names_fit.Given as goal

abbrev pub invariant-loop-meanings : goal.invariant-loop-meanings
invariant-loop-meanings l =
    (items : ℕ → Item) → may_name l.k (map (variable_type l.k items l.n) l.meanings) (types_of l.k l.objects) ≡ may_name l.k (map (variable_type l.k items l.n) l.initial.meanings) (types_of l.k l.initial.objects)

abbrev pub decreases-loop-meanings : goal.decreases-loop-meanings
decreases-loop-meanings l = length l.meanings
