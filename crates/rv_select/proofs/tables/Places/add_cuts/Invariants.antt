use Rattle.std.proofs.Common.{◌≡◌, drop}
use Rattle.rv_select.specs.Tables.{cuts_behind}
use Rattle.rv_select.proofs.tables.Places.add_cuts.Given as goal

-- the cuts that are left decide
abbrev pub invariant-loop-cut : goal.invariant-loop-cut
invariant-loop-cut l = cuts_behind l.self.code l.self.rows l.words.items (drop l.cut-index l.cuts) ≡ cuts_behind l.self.code l.self.rows l.fn.words.items l.cuts
