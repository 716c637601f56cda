use Rattle.clu_outcome.proofs.Entries.{WrittenEntries}
use Rattle.clu_outcome.proofs.lines.write_entries.Given as goal

abbrev pub invariant-loop-n : goal.invariant-loop-n
invariant-loop-n g l = WrittenEntries l.map.names l.entries (g.E.Sink.written l.fn.errors) (g.E.Sink.written l.errors) (g.E.Sink.faults l.fn.errors) (g.E.Sink.faults l.errors) l.n-index
