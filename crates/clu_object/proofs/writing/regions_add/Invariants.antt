use Rattle.std.proofs.Common.{◌≡◌, ◌++◌, take}
use Rattle.std.specs.List.{flat_map}
use Rattle.clu_object.specs.ObjectFile.{region_bytes}
use Rattle.clu_object.proofs.writing.regions_add.Given as goal

abbrev pub invariant-loop-region : goal.invariant-loop-region
invariant-loop-region l = l.out.items ≡ l.initial.out.items ++ flat_map region_bytes (take l.region-index l.regions)
