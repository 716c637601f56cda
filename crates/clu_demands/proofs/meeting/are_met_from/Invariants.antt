use Rattle.std.proofs.Common.{map}
use Rattle.clu_types.specs.Arena.{types_of}
use Rattle.clu_specs.specs.Seen.{demand_seen}
use Rattle.clu_demands.proofs.Closing.{Asking}
use Rattle.clu_demands.proofs.meeting.are_met_from.Given as goal

abbrev pub invariant-loop-n : goal.invariant-loop-n
invariant-loop-n l = Asking (map (demand_seen (types_of l.fn.types)) l.given) l.specs l.fn.types l.fn.met.keys l.before l.types l.met.keys l.n
