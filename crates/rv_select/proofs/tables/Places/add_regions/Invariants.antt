use Rattle.std.proofs.Common.{◌≡◌, drop, length}
use Rattle.rv_select.specs.Tables.{regions_behind, row_address}
use Rattle.rv_select.proofs.tables.Places.add_regions.Given as goal

-- the regions that are left decide
abbrev pub invariant-loop-region : goal.invariant-loop-region
invariant-loop-region l = regions_behind l.self.rows l.arms l.words.items (drop l.region-index l.regions) ≡ regions_behind l.self.rows (row_address l.self.rows (length l.regions)) l.fn.words.items l.regions
