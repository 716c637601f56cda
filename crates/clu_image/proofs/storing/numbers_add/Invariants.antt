use Rattle.std.proofs.Common.{◌≡◌, ◌++◌, take}
use Rattle.std.specs.List.{flat_map}
use Rattle.clu_image.specs.ImageFile.{number_bytes}
use Rattle.clu_image.proofs.storing.numbers_add.Given as goal

abbrev pub invariant-loop-number : goal.invariant-loop-number
invariant-loop-number l = l.out.items ≡ l.initial.out.items ++ flat_map number_bytes (take l.number-index l.numbers)
