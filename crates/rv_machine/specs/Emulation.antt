-- Whole runs: the step of the machine with its input and output, and the emulation after any number of
-- steps.
use Rattle.std.specs.Prelude.{ℕ, zero, suc, List, [], Option, Some, None}
use Rattle.rv_isa.specs.Image.{Contents}
use Rattle.rv_machine.specs.declared.ending.Ending.{Ending}
use Rattle.rv_machine.specs.declared.ending.Ending.TheVariants as ending
use Rattle.rv_machine.specs.declared.trap.Trap.{Trap}
use Rattle.rv_machine.specs.declared.trap.Trap.TheVariants as trap
use Rattle.rv_machine.specs.Calls.{Configuration, call_of, ended_by, served}
use Rattle.rv_machine.specs.Limits.{Sizes}
use Rattle.rv_machine.specs.Start.{started}
use Rattle.rv_machine.specs.State.{register}
use Rattle.rv_machine.specs.Steps.{Next, Goes, Stops, next}

-- what a trap of the hart comes to
abbrev pub trapped : Trap → Configuration → Configuration
trapped (trap.Instruction pc) c = ended_by (ending.BadInstruction pc) c
trapped (trap.Access address) c = ended_by (ending.BadAccess address) c
trapped (trap.Jump target) c = ended_by (ending.BadJump target) c
trapped trap.Call c = served (call_of (register c.state 17)) c

abbrev pub after : Next → Configuration → Configuration
after (Goes s) c = record c { state = s }
after (Stops t s) c = trapped t (record c { state = s })

abbrev pub stepped_unless : Option Ending → Configuration → Configuration
stepped_unless None c = after (next c.state) c
stepped_unless (Some e) c = c

-- one step; a run that ended stays ended
abbrev pub stepped : Configuration → Configuration
stepped c = stepped_unless c.ended c

abbrev pub emulated : ℕ → Configuration → Configuration
emulated zero c = c
emulated (suc n) c = stepped (emulated n c)

-- the start of a run
abbrev pub start : Contents → Sizes → List ℕ → Configuration
start image sizes input = record { state = started image sizes; input = input; output = []; ended = None }
