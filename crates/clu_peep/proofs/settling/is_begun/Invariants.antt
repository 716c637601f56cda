use Rattle.std.proofs.Common.{◌≡◌, ◌==◌, drop}
use Rattle.std.specs.List.{list_any}
use Rattle.clu_wir.specs.declared.region.Arm.{Arm}
use Rattle.clu_peep.proofs.settling.is_begun.Given as goal

-- the arms that are left decide
abbrev pub invariant-loop-arm : goal.invariant-loop-arm
invariant-loop-arm l = list_any (λ (a : Arm). a.target == l.place) l.arms ≡ list_any (λ (a : Arm). a.target == l.place) (drop l.arm-index l.arms)
