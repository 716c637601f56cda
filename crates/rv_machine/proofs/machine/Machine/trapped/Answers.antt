use Rattle.rv_machine.specs.declared.ending.Ending.TheVariants as ending
use Rattle.rv_machine.proofs.machine.Machine.trapped.Goals as goal
use Rattle.rv_machine.proofs.Runs.{ends}

pub returns-in-Instruction-clause-did : goal.returns-in-Instruction-clause-did
returns-in-Instruction-clause-did g c = rw c.in-Instruction.is (ends c.args.self.now _ _ _ (ending.BadInstruction c.in-Instruction.pc) c.end.ensures.ended)

pub returns-in-Access-clause-did : goal.returns-in-Access-clause-did
returns-in-Access-clause-did g c = rw c.in-Access.is (ends c.args.self.now _ _ _ (ending.BadAccess c.in-Access.address) c.end-in-Access.ensures.ended)

pub returns-in-Jump-clause-did : goal.returns-in-Jump-clause-did
returns-in-Jump-clause-did g c = rw c.in-Jump.is (ends c.args.self.now _ _ _ (ending.BadJump c.in-Jump.target) c.end-in-Jump.ensures.ended)

pub returns-in-Call-clause-did : goal.returns-in-Call-clause-did
returns-in-Call-clause-did g c = rw c.in-Call.is c.call.ensures.did
