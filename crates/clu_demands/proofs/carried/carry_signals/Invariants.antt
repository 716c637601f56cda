use Rattle.std.proofs.Common.{take}
use Rattle.clu_demands.proofs.Bringing.{AreSignalsCarried}
use Rattle.clu_demands.proofs.carried.carry_signals.Given as goal

abbrev pub invariant-loop-signal : goal.invariant-loop-signal
invariant-loop-signal l = AreSignalsCarried l.from l.actuals l.fn.types l.types (take l.signal-index l.signals) l.made.items
