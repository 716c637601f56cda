use Rattle.std.proofs.Common.{◌≡◌, ◌-◌, [], length}
use Rattle.clu_types.specs.CluType.{no_signals}
use Rattle.clu_types.specs.Arena.{signals_at, types_of, SignalsBelow}
use Rattle.clu_specs.specs.Reading.{several}
use Rattle.clu_specs.specs.TypeReading.{type_read, signals_step, next_after}
use Rattle.clu_specs.proofs.Growing.{Makes}
use Rattle.clu_specs.proofs.read_headings.signals_at.Given as goal

abbrev pub invariant-loop : goal.invariant-loop
invariant-loop l =
    let turns = several (signals_step (type_read l.scope l.depth)) (λ made rest. next_after made.1 rest) in
    record {
      makes : Makes SignalsBelow l.fn.types l.types l.made.items;
      so_far : turns (length l.bytes - l.counter) (signals_at (types_of l.types) l.made.items, l.previous) l.rest ≡ turns (length l.bytes) (no_signals, []) l.bytes;
    }
