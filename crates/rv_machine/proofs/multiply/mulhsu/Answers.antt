use Rattle.rv_machine.proofs.multiply.mulhsu.Goals as goal
use Rattle.rv_machine.proofs.UpperHalf.{mulhsu_is}

pub returns : goal.returns
returns c = mulhsu_is c.args.a c.args.b _ _ c.cast_signed.type_inv c.ranges.b.fits c.cast_signed.ensures c.cast_unsigned.ensures
