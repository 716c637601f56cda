use Rattle.rv_isa.proofs.WordToInstr.{encoded-decoded}
use Rattle.rv_isa.proofs.InstrToWord.{decoded-none}
use Rattle.rv_isa.proofs.decoding.decode.Goals as goal

pub returns-clause-row : goal.returns-clause-row
returns-clause-row c = rw c.read.ensures (encoded-decoded c.args.w c.ranges.w.fits)

pub returns-clause-none : goal.returns-clause-none
returns-clause-none c = rw c.read.ensures (decoded-none c.args.w)
