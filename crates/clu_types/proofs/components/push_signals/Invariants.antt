use Rattle.std.proofs.Common.{◌≡◌, ◌++◌, take}
use Rattle.clu_types.specs.PartsOf.{signal_parts}
use Rattle.clu_types.proofs.components.push_signals.Given as goal

abbrev pub invariant-loop-signal : goal.invariant-loop-signal
invariant-loop-signal l = l.parts.items ≡ l.initial.parts.items ++ signal_parts (take l.signal-index l.signals)
