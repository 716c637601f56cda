use Rattle.std.proofs.Common.{◌≡◌, drop, fold}
use Rattle.clu_sound.specs.Parts.{with_objects}
use Rattle.clu_sound.proofs.parts.add_objects.Given as goal

abbrev pub invariant-loop-signal : goal.invariant-loop-signal
invariant-loop-signal l = fold with_objects l.ids.keys (drop l.signal-index l.signals) ≡ fold with_objects l.initial.ids.keys l.signals
