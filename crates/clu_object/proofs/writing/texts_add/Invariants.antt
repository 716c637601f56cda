use Rattle.std.proofs.Common.{◌≡◌, ◌++◌, take}
use Rattle.std.specs.List.{flat_map}
use Rattle.clu_format.specs.Fields.{text64_bytes}
use Rattle.clu_object.proofs.writing.texts_add.Given as goal

abbrev pub invariant-loop-text : goal.invariant-loop-text
invariant-loop-text l = l.out.items ≡ l.initial.out.items ++ flat_map text64_bytes (take l.text-index l.texts)
