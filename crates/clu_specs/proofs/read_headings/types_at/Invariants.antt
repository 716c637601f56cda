use Rattle.std.proofs.Common.{◌≡◌, ◌-◌, length}
use Rattle.clu_types.specs.CluType.{no_types}
use Rattle.clu_types.specs.Arena.{types_at, types_of, AreBelow}
use Rattle.clu_specs.specs.Reading.{several, behind}
use Rattle.clu_specs.specs.TypeReading.{type_read, types_step}
use Rattle.clu_specs.proofs.Growing.{Makes}
use Rattle.clu_specs.proofs.read_headings.types_at.Given as goal

abbrev pub invariant-loop : goal.invariant-loop
invariant-loop l =
    let turns = several (types_step (type_read l.scope l.depth)) (λ made rest. behind 44 rest) in
    record {
      makes : Makes AreBelow l.fn.types l.types l.made.items;
      so_far : turns (length l.bytes - l.counter) (types_at (types_of l.types) l.made.items) l.rest ≡ turns (length l.bytes) no_types l.bytes;
    }
