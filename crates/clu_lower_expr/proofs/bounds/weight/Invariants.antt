use Rattle.std.proofs.Common.{◌≡◌, drop, fold}
use Rattle.clu_wir.specs.Rooms.{plus}
use Rattle.clu_lower_expr.specs.Bounds.{string_nodes, weight}
use Rattle.clu_lower_expr.proofs.bounds.weight.Given as goal

-- the constants that are left decide
abbrev pub invariant-loop-constant : goal.invariant-loop-constant
invariant-loop-constant l =
    fold (λ n c. plus n (string_nodes c)) l.nodes (drop l.constant-index l.constant-items) ≡ weight l.routine
