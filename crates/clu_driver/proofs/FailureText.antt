-- The text of a failure lies inside one region, in every run.
use Rattle.std.proofs.Common.{◌≡◌, ℕ, zero, suc, List, [], ◌∷◌, Option, Some, None, refl, sym, subst, rules}
use Rattle.rv_machine.specs.Calls.{Configuration, call_of, failed, peeked, range_of, served, took, wrote}
use Rattle.rv_machine.specs.Emulation.{after, emulated, stepped_unless, trapped}
use Rattle.rv_machine.specs.State.{State, register}
use Rattle.rv_machine.specs.Steps.{Next, Goes, Stops, next}
use Rattle.rv_machine.specs.declared.call.Call.{Call}
use Rattle.rv_machine.specs.declared.call.Call.TheVariants as call
use Rattle.rv_machine.specs.declared.ending.Ending.{Ending}
use Rattle.rv_machine.specs.declared.trap.Trap.{Trap}
use Rattle.rv_machine.specs.declared.trap.Trap.TheVariants as trap
use Rattle.clu_driver.specs.Shows.{HasText}

-- how far the run came, its text is there
abbrev EndsWithText : Option Ending → State → Type 0
EndsWithText None s = Unit {0}
EndsWithText (Some e) s = HasText e s

-- a run that goes on has no text yet
goes_on : (ended : Option Ending) (s : State) → ended ≡ None → EndsWithText ended s
goes_on ended s running = let P : Option Ending → Type 0 = λ e. EndsWithText e s in subst P (sym running) tt

failed_with_text : (text : Option (List ℕ)) (c : Configuration) → range_of c.state ≡ text → EndsWithText (failed text c).ended (failed text c).state
failed_with_text None c there = tt
failed_with_text (Some text) c there = search (rules, there)

wrote_with_text : (bytes : Option (List ℕ)) (c : Configuration) → c.ended ≡ None → EndsWithText (wrote bytes c).ended (wrote bytes c).state
wrote_with_text None c running = tt
wrote_with_text (Some bytes) c running = goes_on _ _ running

took_with_text : (input : List ℕ) (c : Configuration) → c.ended ≡ None → EndsWithText (took input c).ended (took input c).state
took_with_text [] c running = goes_on _ _ running
took_with_text (b ∷ rest) c running = goes_on _ _ running

peeked_with_text : (input : List ℕ) (c : Configuration) → c.ended ≡ None → EndsWithText (peeked input c).ended (peeked input c).state
peeked_with_text [] c running = goes_on _ _ running
peeked_with_text (b ∷ rest) c running = goes_on _ _ running

served_with_text : (k : Call) (c : Configuration) → c.ended ≡ None → EndsWithText (served k c).ended (served k c).state
served_with_text call.Return c running = tt
served_with_text call.Fail c running = failed_with_text (range_of c.state) c refl
served_with_text call.StoreFull c running = tt
served_with_text call.StackFull c running = tt
served_with_text call.Write c running = wrote_with_text (range_of c.state) c running
served_with_text call.Take c running = took_with_text c.input c running
served_with_text call.Peek c running = peeked_with_text c.input c running
served_with_text (call.Unknown n) c running = tt

trapped_with_text : (t : Trap) (c : Configuration) → c.ended ≡ None → EndsWithText (trapped t c).ended (trapped t c).state
trapped_with_text (trap.Instruction pc) c running = tt
trapped_with_text (trap.Access address) c running = tt
trapped_with_text (trap.Jump target) c running = tt
trapped_with_text trap.Call c running = served_with_text (call_of (register c.state 17)) c running

after_with_text : (n : Next) (c : Configuration) → c.ended ≡ None → EndsWithText (after n c).ended (after n c).state
after_with_text (Goes s) c running = goes_on _ s running
after_with_text (Stops t s) c running = trapped_with_text t (record c { state = s }) running

stepped_with_text : (ended : Option Ending) (c : Configuration) → c.ended ≡ ended → EndsWithText ended c.state → EndsWithText (stepped_unless ended c).ended (stepped_unless ended c).state
stepped_with_text None c is text = after_with_text (next c.state) c is
stepped_with_text (Some e) c is text = let P : Option Ending → Type 0 = λ o. EndsWithText o c.state in subst P (sym is) text

run_with_text : (n : ℕ) (c : Configuration) → c.ended ≡ None → EndsWithText (emulated n c).ended (emulated n c).state
run_with_text zero c running = goes_on _ _ running
run_with_text (suc n) c running = stepped_with_text (emulated n c).ended (emulated n c) refl (run_with_text n c running)

-- a run that ended so has the text of its ending
pub ended_with_text : (n : ℕ) (c now : Configuration) (e : Ending) → c.ended ≡ None → now ≡ emulated n c → now.ended ≡ Some e → HasText e now.state
ended_with_text n c now e running same ended =
    let P : Configuration → Type 0 = λ m. EndsWithText m.ended m.state in
    let Q : Option Ending → Type 0 = λ o. EndsWithText o now.state in
    subst Q ended (subst P (sym same) (run_with_text n c running))
