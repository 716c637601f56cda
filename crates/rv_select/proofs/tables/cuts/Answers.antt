use Rattle.rv_select.proofs.Cutting.{cuts_of_ranges}
use Rattle.rv_select.proofs.tables.cuts.Goals as goal

pub returns : goal.returns
returns c = cuts_of_ranges c.in_ok-ranged.ranged c.args.regions.now c.in_ok-cuts.field-0.items c.in_ok-ranged.ensures c.in_ok-cuts.ensures
