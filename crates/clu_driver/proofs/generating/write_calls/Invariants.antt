use Rattle.clu_driver.specs.Generated.{call_text}
use Rattle.clu_driver.proofs.Repeated.{WrittenTexts}
use Rattle.clu_driver.proofs.generating.write_calls.Given as goal

abbrev pub invariant-loop-k : goal.invariant-loop-k
invariant-loop-k g l = WrittenTexts call_text (g.K.Sink.written l.fn.output) (g.K.Sink.written l.output) (g.K.Sink.faults l.fn.output) (g.K.Sink.faults l.output) l.k
