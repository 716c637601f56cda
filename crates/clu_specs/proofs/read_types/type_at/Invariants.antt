use Rattle.std.proofs.Common.{◌+◌, ◌*◌, length}
use Rattle.clu_specs.specs.TypeReading.{type_read}
use Rattle.clu_specs.proofs.Stack.{Comes, weight_of}
use Rattle.clu_specs.proofs.read_types.type_at.Given as goal

abbrev pub invariant-loop-found : goal.invariant-loop-found
invariant-loop-found l = Comes l.scope l.depth (type_read l.scope l.depth l.bytes) l.fn.types l.types l.pending.items l.found l.rest

abbrev pub decreases-loop-found : goal.decreases-loop-found
decreases-loop-found l = 2 * length l.rest + weight_of l.found
