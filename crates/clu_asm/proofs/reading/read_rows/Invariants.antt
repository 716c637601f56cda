use Rattle.std.proofs.Common.{◌≡◌, ◌++◌, ◌-◌, ◌≤◌, ◌%◌, vec_len}
use Rattle.clu_asm.specs.AssemblyText.{row_lines}
use Rattle.clu_asm.proofs.reading.read_rows.Given as goal

abbrev pub invariant-loop-line : goal.invariant-loop-line
invariant-loop-line l = record {
  text : l.b ≡ row_lines l.word l.bytes.items ++ l.rest;
  whole : vec_len l.bytes % 8 ≡ 0;
  few : vec_len l.bytes ≤ l.room;
}

abbrev pub decreases-loop-line : goal.decreases-loop-line
decreases-loop-line l = l.room - vec_len l.bytes
