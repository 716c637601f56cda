use Rattle.std.proofs.Common.{◌≡◌, ◌≤◌, length, None}
use Rattle.rv_machine.specs.Emulation.{emulated}
use Rattle.rv_machine.specs.Snapshot.{configuration, Does}
use Rattle.clu_trace.proofs.trace.Trace.run.Given as goal

abbrev pub invariant-loop-done : goal.invariant-loop-done
invariant-loop-done g l = record {
  live : l.machine.ended ≡ None;
  did : Does (λ i o. emulated l.done (configuration l.fn.machine i o)) l.fn.machine (g.S.Source.left l.fn.input) (g.K.Sink.written l.fn.output) l.machine (g.S.Source.left l.input) (g.K.Sink.written l.output);
  map : l.self.map ≡ l.fn.self.map;
  stack : l.self.stack ≤ length l.machine.state.stack;
  reads : g.S.Source.faults l.fn.input ≤ g.S.Source.faults l.input;
  writes : g.K.Sink.faults l.fn.output ≤ g.K.Sink.faults l.output;
}
