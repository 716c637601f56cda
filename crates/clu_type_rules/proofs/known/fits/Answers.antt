use Rattle.clu_types.specs.Arena.{type_at, types_of}
use Rattle.clu_type_rules.proofs.Included.{tells}
use Rattle.clu_type_rules.proofs.known.fits.Goals as goal

pub returns : goal.returns
returns c = tells c.included.result (type_at (types_of c.args.types.now) c.args.given) (type_at (types_of c.args.types.now) c.args.wanted) c.included.ensures
