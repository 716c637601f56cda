use Rattle.rv_machine.proofs.multiply.mulh.Goals as goal
use Rattle.rv_machine.proofs.UpperHalf.{mulh_is}

pub returns : goal.returns
returns c = mulh_is c.args.a c.args.b _ _ _ c.cast_signed.type_inv c.cast_signed-2.type_inv c.cast_signed.ensures c.cast_signed-2.ensures c.cast_unsigned.ensures
