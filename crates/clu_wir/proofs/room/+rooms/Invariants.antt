use Rattle.std.proofs.Common.{◌≡◌, drop, fold, map}
use Rattle.clu_wir.specs.Rooms.{all_of, both, room_of, arm_room_of}
use Rattle.clu_wir.proofs.room.+rooms.Given as goal

-- the statements that are left decide
abbrev pub invariant-list-loop-each : goal.invariant-list-loop-each
invariant-list-loop-each l =
    fold both l.needed (map room_of (drop l.each-index l.statements)) ≡ all_of (map room_of l.statements)

abbrev pub invariant-arms-loop-arm : goal.invariant-arms-loop-arm
invariant-arms-loop-arm l =
    fold both l.needed (map arm_room_of (drop l.arm-index l.arms)) ≡ all_of (map arm_room_of l.arms)
