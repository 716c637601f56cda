use Rattle.clu_types.specs.Arena.{type_at, types_of, actuals_at}
use Rattle.clu_demands.proofs.Fitting.{fits_seen, seen_fits}
use Rattle.clu_demands.proofs.Exporting.{of_spec}
use Rattle.clu_demands.proofs.exported.asked_of_spec.Goals as goal

pub returns-then-fits-clause-asks : goal.returns-then-fits-clause-asks
returns-then-fits-clause-asks c =
    of_spec c.args.spec.now (actuals_at (types_of c.args.types.now) c.args.actuals.now) c.args.op.now (type_at (types_of c.args.types.now) c.args.wanted)
    (fits_seen (types_of c.args.types.now) c.args.actuals.now c.args.spec.now.kinds (c.fits.ensures.0 c.if-fits.true)) _ _ c.asked_of_named.ensures.asks

pub returns-else-fits-clause-asks : goal.returns-else-fits-clause-asks
returns-else-fits-clause-asks c = λ asks q. let found = c.fits.ensures.1 (seen_fits (types_of c.args.types.now) c.args.actuals.now c.args.spec.now.kinds q.0) in let none = c.if-fits.false in cc
