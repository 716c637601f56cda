use Rattle.std.proofs.Common.{◌≡◌, [], drop}
use Rattle.rv_select.specs.Mapped.{Regioned, mapped_regions, regioned, regions_onto}
use Rattle.rv_select.proofs.regions.map_regions.Given as goal

-- the regions that are left add the rest
abbrev pub invariant-loop-region : goal.invariant-loop-region
invariant-loop-region l = (regions_onto l.starts (regioned l.mapped) (drop l.region-index l.regions)).regions ≡ mapped_regions l.starts l.regions
