use Rattle.std.proofs.Common.{◌≡◌, ◌++◌, All}
use Rattle.clu_constants.specs.Held.{HasBytes, listed, steps_left, text_at, text_left}
use Rattle.clu_constants.proofs.held.text.Given as goal

-- what is written and what is left is the text, and each place that is left has bytes
abbrev pub invariant-loop-next : goal.invariant-loop-next
invariant-loop-next l = record {
  written : l.bytes.items ++ text_left (listed l.fn.held) l.left.items ≡ text_at (listed l.fn.held) l.fn.place;
  some : All (HasBytes (listed l.fn.held)) l.left.items;
}

abbrev pub decreases-loop-next : goal.decreases-loop-next
decreases-loop-next l = steps_left (listed l.fn.held) l.left.items
