use Rattle.std.proofs.Common.{◌≡◌, ◌≤◌, None}
use Rattle.rv_machine.specs.Emulation.{emulated}
use Rattle.rv_machine.specs.Snapshot.{configuration, from_pc, Does}
use Rattle.rv_machine.proofs.machine.Machine.run.Given as goal

abbrev pub invariant-loop-done : goal.invariant-loop-done
invariant-loop-done g l = record {
  live : l.self.ended ≡ None;
  did : Does (λ i o. emulated l.done (configuration l.fn.self i o)) l.fn.self (g.S.Source.left l.fn.input) (g.K.Sink.written l.fn.output) (from_pc l.pc l.self) (g.S.Source.left l.input) (g.K.Sink.written l.output);
  reads : g.S.Source.faults l.fn.input ≤ g.S.Source.faults l.input;
  writes : g.K.Sink.faults l.fn.output ≤ g.K.Sink.faults l.output;
}
