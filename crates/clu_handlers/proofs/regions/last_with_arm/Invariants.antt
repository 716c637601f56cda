use Rattle.std.proofs.Common.{◌≡◌, None, drop}
use Rattle.clu_handlers.specs.Regions.{found_behind}
use Rattle.clu_handlers.proofs.regions.last_with_arm.Given as goal

-- what is still to be looked at, after what was found, finds all that is found
abbrev pub invariant-loop-number : goal.invariant-loop-number
invariant-loop-number l = found_behind l.found l.number (drop l.number l.regions) l.pc l.name ≡ found_behind None 0 l.regions l.pc l.name
