use Rattle.std.proofs.Common.{◌≡◌, ◌++◌, take}
use Rattle.std.specs.List.{flat_map}
use Rattle.clu_object.specs.ObjectFile.{hole_bytes}
use Rattle.clu_object.proofs.writing.holes_add.Given as goal

abbrev pub invariant-loop-hole : goal.invariant-loop-hole
invariant-loop-hole l = l.out.items ≡ l.initial.out.items ++ flat_map hole_bytes (take l.hole-index l.holes)
