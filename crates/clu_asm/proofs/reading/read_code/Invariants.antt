use Rattle.std.proofs.Common.{◌≡◌, ◌++◌, ◌-◌, ◌≤◌, vec_len}
use Rattle.std.specs.List.{flat_map}
use Rattle.clu_asm.specs.AssemblyText.{code_line}
use Rattle.clu_asm.proofs.reading.read_code.Given as goal

abbrev pub invariant-loop-line : goal.invariant-loop-line
invariant-loop-line l = record {
  text : l.b ≡ flat_map code_line l.code.items ++ l.rest;
  few : vec_len l.code ≤ 16793600;
}

abbrev pub decreases-loop-line : goal.decreases-loop-line
decreases-loop-line l = 16793600 - vec_len l.code
