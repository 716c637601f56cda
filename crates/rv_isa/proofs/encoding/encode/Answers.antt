use Rattle.rv_isa.proofs.InstrToWord.{decoded-encoded}
use Rattle.rv_isa.proofs.encoding.encode.Goals as goal

pub returns-clause-inverse : goal.returns-clause-inverse
returns-clause-inverse c =
    rw c.write.ensures.value (decoded-encoded c.args.i (record { valid = c.requires; registers = c.write.ensures.registers }))
