use Rattle.std.proofs.Common.{◌≡◌, ◌++◌, ◌≤◌, length, take}
use Rattle.std.specs.List.{flat_map}
use Rattle.clu_library.specs.LibraryFile.{module_bytes}
use Rattle.clu_library.proofs.writing.modules_add.Given as goal

abbrev pub invariant-loop-n : goal.invariant-loop-n
invariant-loop-n l = record {
  within : l.n ≤ length l.library.specs;
  written : l.out.items ≡ l.initial.out.items ++ flat_map (module_bytes l.library) (take l.n l.library.specs);
}
