use Rattle.std.proofs.Common.{length, take}
use Rattle.clu_types.specs.Arena.{types_of}
use Rattle.clu_operations.proofs.InPlace.{ArePlaced}
use Rattle.clu_operations.proofs.builtins.in_place.Given as goal

abbrev pub invariant-loop-id : goal.invariant-loop-id
invariant-loop-id l = ArePlaced (types_of l.types) (length l.types) l.part l.of (take l.id-index l.ids) l.made.items
