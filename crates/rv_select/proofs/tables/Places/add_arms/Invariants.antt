use Rattle.std.proofs.Common.{◌≡◌, drop}
use Rattle.rv_select.specs.Tables.{arms_behind}
use Rattle.rv_select.proofs.tables.Places.add_arms.Given as goal

-- the regions and names that are left decide
abbrev pub invariant-loop-region : goal.invariant-loop-region
invariant-loop-region l = arms_behind l.self.code l.words.items (drop l.region-index l.regions) l.names ≡ arms_behind l.self.code l.fn.words.items l.regions l.fn.names
