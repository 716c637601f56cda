use Rattle.std.proofs.Common.{◌≡◌, map, take}
use Rattle.rv_isa.specs.Decoded.{decoded}
use Rattle.rv_machine.specs.Rows.{instr_of}
use Rattle.rv_machine.proofs.start.rows_of.Given as goal

abbrev pub invariant-loop-word : goal.invariant-loop-word
invariant-loop-word l = map instr_of l.rows.items ≡ map decoded (take l.word-index l.words)
