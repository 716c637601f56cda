use Rattle.std.proofs.Common.{refl}
use Rattle.std.specs.HashMap.{get}
use Rattle.clu_type_rules.specs.Disagreeing.{same, state}
use Rattle.clu_type_rules.proofs.Differing.{clause_noted}
use Rattle.clu_type_rules.proofs.disagreements.note_together.Goals as goal

pub returns : goal.returns
returns c =
    clause_noted c.note_demands.result c.args.demands.now (state (get same c.new-seen.result) c.args.bits.now.items) (state (get same c.note_demands.new.seen) c.note_demands.new.bits.items)
    (λ name. rw c.new-seen.ensures.empty refl) c.note_demands.ensures
