use Rattle.std.proofs.Common.{◌≡◌, ◌-◌, []}
use Rattle.clu_library.specs.LibraryReading.{stepped, next_program_kept}
use Rattle.clu_library.proofs.read_programs.programs_at.Given as goal

abbrev pub invariant-loop : goal.invariant-loop
invariant-loop l = stepped next_program_kept (l.count - l.counter) (l.previous, l.programs) l.rest ≡ stepped next_program_kept l.count ([], l.fn.programs) l.bytes
