use Rattle.std.proofs.Common.{◌≡◌, ◌++◌, take}
use Rattle.std.specs.List.{flat_map}
use Rattle.clu_object.specs.ObjectFile.{number_bytes}
use Rattle.clu_object.proofs.writing.words_add.Given as goal

abbrev pub invariant-loop-word : goal.invariant-loop-word
invariant-loop-word l = l.out.items ≡ l.initial.out.items ++ flat_map number_bytes (take l.word-index l.words)
