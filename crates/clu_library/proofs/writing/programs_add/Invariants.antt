use Rattle.std.proofs.Common.{◌≡◌, ◌++◌, take}
use Rattle.std.specs.List.{flat_map}
use Rattle.clu_library.specs.LibraryFile.{program_bytes}
use Rattle.clu_library.proofs.writing.programs_add.Given as goal

abbrev pub invariant-loop-program : goal.invariant-loop-program
invariant-loop-program l = l.out.items ≡ l.initial.out.items ++ flat_map program_bytes (take l.program-index l.programs)
