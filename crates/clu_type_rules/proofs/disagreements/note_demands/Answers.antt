use Rattle.std.specs.HashMap.{get}
use Rattle.clu_name_rules.proofs.Noting.{item_at}
use Rattle.clu_type_rules.specs.Disagreeing.{same, state}
use Rattle.clu_type_rules.proofs.Differing.{stepped, ended}
use Rattle.clu_type_rules.proofs.disagreements.note_demands.Goals as goal

pub loop-demand-preserved : goal.loop-demand-preserved
loop-demand-preserved c =
    stepped c.args.demands.now c.loop-demand.demand-index c.demand-item.result (state (get same c.args.seen.now) c.args.bits.now.items) (state (get same c.loop-demand.seen) c.loop-demand.bits.items) (state (get same c.note_demand.new.seen) c.note_demand.new.bits.items)
    (item_at c.args.demands.now c.loop-demand.demand-index c.demand-item.result c.loop-demand-test.true c.demand-item.is) c.loop-demand.invariant c.in_ok-note_demand.ensures

pub returns : goal.returns
returns c =
    ended c.args.demands.now c.loop-demand.demand-index (state (get same c.args.seen.now) c.args.bits.now.items) (state (get same c.loop-demand.seen) c.loop-demand.bits.items) c.loop-demand-test.false c.loop-demand.invariant
