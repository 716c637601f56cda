use Rattle.std.proofs.Common.{◌≡◌, ◌*◌, take, vec_len, w32}
use Rattle.std.specs.List.{flat_map}
use Rattle.std.specs.Int.{to_le_bytes}
use Rattle.rv_machine.proofs.start.code_bytes.Given as goal

abbrev pub invariant-loop-word : goal.invariant-loop-word
invariant-loop-word l = record {
  bytes : l.bytes.items ≡ flat_map (to_le_bytes w32) (take l.word-index l.words);
  length : vec_len l.bytes ≡ 4 * l.word-index;
}
