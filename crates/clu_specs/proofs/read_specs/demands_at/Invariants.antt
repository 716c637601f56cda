use Rattle.std.proofs.Common.{◌≡◌, ◌-◌, [], length, map}
use Rattle.clu_types.specs.Arena.{types_of}
use Rattle.clu_specs.specs.Reading.{several}
use Rattle.clu_specs.specs.TypeReading.{type_read}
use Rattle.clu_specs.specs.Seen.{demand_seen}
use Rattle.clu_specs.specs.SpecReading.{demands_step, demands_next}
use Rattle.clu_specs.specs.Specifications.{DemandsBelow}
use Rattle.clu_specs.proofs.Growing.{Makes}
use Rattle.clu_specs.proofs.read_specs.demands_at.Given as goal

abbrev pub invariant-loop : goal.invariant-loop
invariant-loop l =
    let turns = several (demands_step l.scope (type_read l.scope l.depth)) (demands_next l.scope (type_read l.scope l.depth)) in
    record {
      makes : Makes DemandsBelow l.fn.types l.types l.made.items;
      so_far : turns (length l.bytes - l.counter) (map (demand_seen (types_of l.types)) l.made.items, l.param, l.previous) l.rest ≡ turns (length l.bytes) ([], 0, []) l.bytes;
    }
