use Rattle.std.proofs.Common.{◌≡◌, ◌-◌, []}
use Rattle.clu_library.specs.LibraryReading.{library_seen, stepped, next_module_kept}
use Rattle.clu_library.proofs.read_modules.modules_at.Given as goal

abbrev pub invariant-loop : goal.invariant-loop
invariant-loop l =
    stepped (next_module_kept l.version) (l.count - l.counter) (l.previous, library_seen l.library) l.rest ≡ stepped (next_module_kept l.version) l.count ([], library_seen l.fn.library) l.bytes
