use Rattle.std.proofs.Common.{◌≡◌, ◌*◌, take, vec_len}
use Rattle.std.specs.List.{flat_map}
use Rattle.clu_image.specs.ImageFile.{number_bytes}
use Rattle.clu_image.proofs.loading.numbers.Given as goal

abbrev pub invariant-loop-i : goal.invariant-loop-i
invariant-loop-i l = record {
  count : vec_len l.numbers ≡ l.i;
  bytes : flat_map number_bytes l.numbers.items ≡ take (4 * l.i) l.bytes;
}
