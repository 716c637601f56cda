use Rattle.std.proofs.Common.{◌≡◌, ◌/◌, drop, fold}
use Rattle.clu_wir.specs.Rooms.{plus}
use Rattle.clu_reach.specs.Parameters.{constant_of}
use Rattle.clu_reach.specs.Tables.{length_or_0, text_length, weight}
use Rattle.clu_reach.proofs.bounds.weight.Given as goal

-- the constants that are left decide
abbrev pub invariant-loop-constant : goal.invariant-loop-constant
invariant-loop-constant l =
    fold (λ n c. plus n (length_or_0 (text_length (constant_of l.actuals c)) / 64)) l.nodes (drop l.constant-index l.constant-items)
    ≡ weight l.actuals l.routine
