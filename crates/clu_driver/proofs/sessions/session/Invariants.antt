use Rattle.std.proofs.Common.{◌≡◌, ◌≤◌, length, map, string_bytes, take, vec_capacity, vec_len}
use Rattle.clu_driver.specs.Sessions.{IsSession, state_of}
use Rattle.clu_driver.proofs.sessions.session.Given as goal

-- the calls so far, each with its status, and room for the statuses of all
abbrev pub invariant-loop-words : goal.invariant-loop-words
invariant-loop-words g l = record {
  calls : IsSession (map (λ words. map string_bytes words.items) (take l.words-index l.runs)) l.statuses.items
      (state_of (g.F.Store.files l.fn.files) (g.F.Store.faults l.fn.files) (g.S.Source.left l.fn.input) (g.S.Source.faults l.fn.input)
      (g.K.Sink.written l.fn.output) (g.K.Sink.faults l.fn.output) (g.E.Sink.written l.fn.errors) (g.E.Sink.faults l.fn.errors))
      (state_of (g.F.Store.files l.files) (g.F.Store.faults l.files) (g.S.Source.left l.input) (g.S.Source.faults l.input)
      (g.K.Sink.written l.output) (g.K.Sink.faults l.output) (g.E.Sink.written l.errors) (g.E.Sink.faults l.errors));
  count : vec_len l.statuses ≡ l.words-index;
  room : length l.runs ≤ vec_capacity l.statuses;
}
