use Rattle.std.specs.HashMap.{get}
use Rattle.clu_type_rules.specs.Disagreeing.{same, state}
use Rattle.clu_type_rules.proofs.Differing.{Goes}
use Rattle.clu_type_rules.proofs.disagreements.note_demands.Given as goal

abbrev pub invariant-loop-demand : goal.invariant-loop-demand
invariant-loop-demand l = Goes l.demands l.demand-index (state (get same l.initial.seen) l.initial.bits.items) (state (get same l.seen) l.bits.items)
