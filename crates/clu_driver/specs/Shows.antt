-- What each outcome of a command shows of the call.
use Rattle.std.specs.Prelude.{◌≡◌, ℕ, Bool, true, false, List, Option, Some, None, IfSome, IsSome}
use Rattle.clu_base.specs.Outside.{GrewWithin, Rose, appended}
use Rattle.clu_words.specs.Command.{Limits}
use Rattle.rv_isa.specs.Image.{Contents}
use Rattle.rv_machine.specs.Calls.{Configuration, bytes_at}
use Rattle.rv_machine.specs.Emulation.{emulated, start}
use Rattle.rv_machine.specs.Limits.{Sizes}
use Rattle.rv_machine.specs.Snapshot.{IsPrefix}
use Rattle.rv_machine.specs.State.{State}
use Rattle.rv_machine.specs.declared.ending.Ending.{Ending}
use Rattle.rv_machine.specs.declared.ending.Ending.TheVariants as ending
use Rattle.clu_outcome.specs.Outcome.{IsTold}
use Rattle.clu_driver.specs.World.{Streams}
use Rattle.clu_outcome.specs.declared.outcome.Outcome.{Outcome}
use Rattle.clu_outcome.specs.declared.outcome.Outcome.TheVariants as outcome

-- the sizes of the regions by the limits
abbrev pub sizes_of : Limits → Sizes
sizes_of limits = record { store = limits.store; stack = limits.stack }

-- the run of an image on an input, after the given number of steps
abbrev pub emulation : Contents → Limits → List ℕ → Configuration
emulation image limits input = emulated limits.steps (start image (sizes_of limits) input)

-- The run wrote these bytes and ended as the outcome says. After a fault of the outside they are a
-- prefix of what the run writes.
abbrev pub EndsAs : Outcome → List ℕ → Configuration → Type 0
EndsAs outcome.Done added c = (c.output ≡ added) × (c.ended ≡ Some ending.Returned)
EndsAs (outcome.Failure text) added c =
    (c.output ≡ added) × ((at count : ℕ) × (c.ended ≡ Some (ending.Failure at count)) × (bytes_at c.state at count ≡ Some text.now))
EndsAs outcome.StoreFull added c = (c.output ≡ added) × (c.ended ≡ Some ending.StoreFull)
EndsAs outcome.StackFull added c = (c.output ≡ added) × (c.ended ≡ Some ending.StackFull)
EndsAs outcome.StepsSpent added c = (c.output ≡ added) × (c.ended ≡ None)
EndsAs (outcome.BadInstruction pc) added c = (c.output ≡ added) × (c.ended ≡ Some (ending.BadInstruction pc))
EndsAs (outcome.BadAccess address) added c = (c.output ≡ added) × (c.ended ≡ Some (ending.BadAccess address))
EndsAs (outcome.BadJump target) added c = (c.output ≡ added) × (c.ended ≡ Some (ending.BadJump target))
EndsAs (outcome.BadEcall number) added c = (c.output ≡ added) × (c.ended ≡ Some (ending.BadEcall number))
EndsAs outcome.ReadFault added c = IsPrefix added c.output
EndsAs outcome.WriteFault added c = IsPrefix added c.output
EndsAs _ added c = ⊥

-- a fault comes only where its count rose
abbrev pub HasFaultOf : Outcome → Streams → Streams → Type 0
HasFaultOf outcome.ReadFault before after = Rose before.read_faults after.read_faults
HasFaultOf outcome.WriteFault before after = Rose before.write_faults after.write_faults
HasFaultOf _ before after = Unit {0}

-- the image was run: the program was given the input that is left, where that is told, and what it
-- wrote was added to the output
pub record Ran (how : Outcome) (image : Contents) (limits : Limits) (before after : Streams) : Type 0 where
  pub input : List ℕ
  pub is_left : IfSome before.left (λ left. input ≡ left)
  pub added : List ℕ
  pub wrote : after.written ≡ appended before.written added
  pub ends : EndsAs how added (emulation image limits input)
  pub fault : HasFaultOf how before after

-- an image was run, or memory for the run was refused before its first step
abbrev pub RunShows : Outcome → Contents → Limits → Streams → Streams → Type 0
RunShows outcome.Memory image limits before after = after.written ≡ before.written
RunShows how image limits before after = Ran how image limits before after

-- a failure is told with a trace exactly where that was asked for
abbrev pub IsAsked : Outcome → Bool → Type 0
IsAsked (outcome.Failure text) traced = traced ≡ false
IsAsked (outcome.Traced text trace) traced = traced ≡ true
IsAsked _ traced = Unit {0}

-- the outcome of a run without its trace
abbrev pub untraced : Outcome → Outcome
untraced (outcome.Traced text trace) = outcome.Failure text
untraced how = how

-- a text was written, or some first bytes of it
abbrev pub TextShows : Outcome → List ℕ → Option (List ℕ) → ℕ → Option (List ℕ) → ℕ → Type 0
TextShows outcome.Done text written faults written' faults' = written' ≡ appended written text
TextShows outcome.WriteFault text written faults written' faults' = Rose faults faults' × GrewWithin written written' text
TextShows _ text written faults written' faults' = ⊥

-- a command came to an outcome that shows this, and its status and line were told
pub record Reported (Shows : Outcome → Type 0) (status : ℕ) (old new : Option (List ℕ)) (faults_before faults_after : ℕ) : Type 0 where
  pub how : Outcome
  pub shown : Shows how
  pub told : IsTold how status old new faults_before faults_after

-- the outcome says how the machine, in this state, ended
abbrev pub OutcomeOf : Ending → State → Outcome → Type 0
OutcomeOf ending.Returned s how = how ≡ outcome.Done
OutcomeOf (ending.Failure at count) s (outcome.Failure text) = bytes_at s at count ≡ Some text.now
OutcomeOf (ending.Failure at count) s _ = ⊥
OutcomeOf ending.StoreFull s how = how ≡ outcome.StoreFull
OutcomeOf ending.StackFull s how = how ≡ outcome.StackFull
OutcomeOf ending.StepsSpent s how = how ≡ outcome.StepsSpent
OutcomeOf (ending.BadInstruction pc) s how = how ≡ outcome.BadInstruction pc
OutcomeOf (ending.BadAccess address) s how = how ≡ outcome.BadAccess address
OutcomeOf (ending.BadJump target) s how = how ≡ outcome.BadJump target
OutcomeOf (ending.BadEcall number) s how = how ≡ outcome.BadEcall number
OutcomeOf ending.ReadFault s how = how ≡ outcome.ReadFault
OutcomeOf ending.WriteFault s how = how ≡ outcome.WriteFault

-- a failure's text lies inside one region
abbrev pub HasText : Ending → State → Type 0
HasText (ending.Failure at count) s = IsSome (bytes_at s at count)
HasText _ s = Unit {0}
