use Rattle.std.proofs.Common.{◌≡◌, length, map, take}
use Rattle.std.specs.Prelude.{vec_len}
use Rattle.clu_settle.specs.Circular.{span_in}
use Rattle.clu_settle.proofs.circular.spans_of.Given as goal

abbrev pub invariant-loop-one : goal.invariant-loop-one
invariant-loop-one l = record {
  size : length l.spans.items ≡ l.one-index;
  spans : l.spans.items ≡ map (span_in l.fn.tree l.fn.rounds (vec_len l.fn.unfolded.targets) l.fn.unfolded.starts.items) (take l.one-index l.fn.declared);
}
