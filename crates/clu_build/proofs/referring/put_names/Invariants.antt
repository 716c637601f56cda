use Rattle.std.proofs.Common.{◌≡◌, ◌++◌, take}
use Rattle.clu_build.specs.References.{names_text}
use Rattle.clu_build.proofs.referring.put_names.Given as goal

abbrev pub invariant-loop-name : goal.invariant-loop-name
invariant-loop-name l = l.text.items ≡ l.initial.text.items ++ names_text (take l.name-index l.names)
