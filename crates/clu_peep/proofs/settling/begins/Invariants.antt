use Rattle.std.proofs.Common.{◌≡◌, drop}
use Rattle.clu_peep.specs.Left.{begins}
use Rattle.clu_peep.proofs.settling.begins.Given as goal

-- the regions that are left decide
abbrev pub invariant-loop-region : goal.invariant-loop-region
invariant-loop-region l = begins l.regions l.place ≡ begins (drop l.region-index l.regions) l.place
