use Rattle.clu_types.proofs.Carrying.{given_more}
use Rattle.clu_demands.proofs.Bringing.{signals_more_carried, signal_here}
use Rattle.clu_demands.proofs.carried.carry_signals.Goals as goal

pub carry_signal-requires-clause-signal_in : goal.carry_signal-requires-clause-signal_in
carry_signal-requires-clause-signal_in c = signal_here _ _ _ c.signal-item.result c.signal-item.is c.requires.signals_in c.loop-signal-test.true

pub carry_signal-requires-clause-actuals_in : goal.carry_signal-requires-clause-actuals_in
carry_signal-requires-clause-actuals_in c = given_more _ _ c.loop-signal.invariant.grows _ c.requires.actuals_in

pub loop-signal-preserved : goal.loop-signal-preserved
loop-signal-preserved c =
    rw c.in_ok-push.ensures.items
    (signals_more_carried c.args.from.now c.args.actuals.now c.args.types.now c.loop-signal.types c.carry_signal.new.types c.args.signals.now c.loop-signal.made.items c.loop-signal.signal-index c.signal-item.result c.in_ok-carried.carried
    c.loop-signal-test.true c.signal-item.is c.requires.actuals_in c.loop-signal.invariant c.in_ok-carried.ensures.kept c.in_ok-carried.ensures.name c.in_ok-carried.ensures.within c.in_ok-carried.ensures.made)
