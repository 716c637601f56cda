use Rattle.std.proofs.Common.{◌≡◌, drop}
use Rattle.std.specs.Prelude.{fold}
use Rattle.clu_name_rules.specs.Lengths.{with_signal}
use Rattle.clu_name_rules.proofs.lengths.of_signals.Given as goal

abbrev pub invariant-loop-signal : goal.invariant-loop-signal
invariant-loop-signal l = fold (with_signal l.lengths) l.length (drop l.signal-index l.signals) ≡ fold (with_signal l.lengths) 0 l.signals
