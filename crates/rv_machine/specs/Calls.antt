-- The calls of the environment (ECALL), by the number in x17; x10 and x11 have the arguments.
use Rattle.std.specs.Prelude.{ℕ, ◌-◌, ◌^◌, ◌==◌, if◌then◌else◌, List, [], ◌∷◌, ◌++◌, take, drop, Option, Some, None}
use Rattle.std.specs.Option.{option_map}
use Rattle.rv_machine.specs.declared.call.Call.{Call}
use Rattle.rv_machine.specs.declared.call.Call.TheVariants as call
use Rattle.rv_machine.specs.declared.ending.Ending.{Ending}
use Rattle.rv_machine.specs.declared.ending.Ending.TheVariants as ending
use Rattle.rv_machine.specs.State.{State, location_of, offset_of, region, register, with_register}
use Rattle.rv_machine.specs.Steps.{advanced}

-- the machine with its input and output: the bytes not yet given to the program, those that it wrote,
-- and how the run ended, if it did
pub record Configuration : Type 0 where
  pub state : State
  pub input : List ℕ
  pub output : List ℕ
  pub ended : Option Ending

abbrev pub ended_by : Ending → Configuration → Configuration
ended_by e c = record c { ended = Some e }

-- the bytes of a range, where they lie inside one region; no bytes lie anywhere
abbrev pub bytes_at : State → ℕ → ℕ → Option (List ℕ)
bytes_at s at count = if count == 0 then Some [] else option_map (λ l. take count (drop (offset_of l) (region s l))) (location_of s at count)

-- which call a number is
abbrev pub call_of : ℕ → Call
call_of n = if n == 0 then call.Return
    else (if n == 1 then call.Fail
    else (if n == 2 then call.StoreFull
    else (if n == 3 then call.StackFull
    else (if n == 4 then call.Write
    else (if n == 5 then call.Take
    else (if n == 6 then call.Peek
    else call.Unknown n))))))

-- 1: the failure whose text is the range
abbrev pub failed : Option (List ℕ) → Configuration → Configuration
failed None c = ended_by (ending.BadAccess (register c.state 10)) c
failed (Some text) c = ended_by (ending.Failure (register c.state 10) (register c.state 11)) c

-- 4: the range goes to the output
abbrev pub wrote : Option (List ℕ) → Configuration → Configuration
wrote None c = ended_by (ending.BadAccess (register c.state 10)) c
wrote (Some bytes) c = record c { state = advanced c.state; output = c.output ++ bytes }

-- 5, 6: the next byte of the input in x10, or -1 at the end
abbrev pub with_answer : ℕ → Configuration → Configuration
with_answer n c = record c { state = advanced (with_register c.state 10 n) }

abbrev pub took : List ℕ → Configuration → Configuration
took [] c = with_answer (2 ^ 64 - 1) c
took (b ∷ rest) c = with_answer b (record c { input = rest })

abbrev pub peeked : List ℕ → Configuration → Configuration
peeked [] c = with_answer (2 ^ 64 - 1) c
peeked (b ∷ rest) c = with_answer b c

abbrev pub range_of : State → Option (List ℕ)
range_of s = bytes_at s (register s 10) (register s 11)

abbrev pub served : Call → Configuration → Configuration
served call.Return c = ended_by ending.Returned c
served call.Fail c = failed (range_of c.state) c
served call.StoreFull c = ended_by ending.StoreFull c
served call.StackFull c = ended_by ending.StackFull c
served call.Write c = wrote (range_of c.state) c
served call.Take c = took c.input c
served call.Peek c = peeked c.input c
served (call.Unknown n) c = ended_by (ending.BadEcall n) c
