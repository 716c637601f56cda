use Rattle.std.proofs.Common.{◌≡◌, ◌++◌, take}
use Rattle.std.specs.List.{flat_map}
use Rattle.clu_object.specs.ObjectFile.{constant_bytes}
use Rattle.clu_object.proofs.writing.constants_add.Given as goal

abbrev pub invariant-loop-constant : goal.invariant-loop-constant
invariant-loop-constant l = l.out.items ≡ l.initial.out.items ++ flat_map constant_bytes (take l.constant-index l.constants)
