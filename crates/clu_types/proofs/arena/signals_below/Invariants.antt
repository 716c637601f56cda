use Rattle.std.proofs.Common.{◌↔◌, drop}
use Rattle.clu_types.specs.Arena.{SignalsBelow}
use Rattle.clu_types.proofs.arena.signals_below.Given as goal

-- those that are left decide
abbrev pub invariant-loop-signal : goal.invariant-loop-signal
invariant-loop-signal l = SignalsBelow l.n (drop l.signal-index l.signals) ↔ SignalsBelow l.n l.signals
