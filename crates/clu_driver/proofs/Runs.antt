-- From what the machine did to what the outcome of a run shows.
use Rattle.std.proofs.Common.{◌≡◌, ℕ, List, [], Option, Some, None, IfSome, refl, sym, ap, ◌∙◌, subst, unwrap_or}
use Rattle.clu_base.specs.Outside.{Rose}
use Rattle.clu_words.specs.Command.{Limits}
use Rattle.rv_isa.specs.Image.{Contents}
use Rattle.rv_machine.specs.Calls.{Configuration, bytes_at}
use Rattle.rv_machine.specs.Emulation.{emulated}
use Rattle.rv_machine.specs.Snapshot.{Does, IsAfter, Snapshot, configuration, fresh}
use Rattle.rv_machine.specs.State.{State}
use Rattle.rv_machine.specs.declared.ending.Ending.{Ending}
use Rattle.rv_machine.specs.declared.ending.Ending.TheVariants as ending
use Rattle.clu_driver.specs.Shows.{EndsAs, HasFaultOf, HasText, OutcomeOf, Ran, RunShows, sizes_of}
use Rattle.clu_driver.proofs.FailureText.{ended_with_text}
use Rattle.clu_driver.specs.World.{Streams}
use Rattle.clu_outcome.specs.declared.outcome.Outcome.{Outcome}
use Rattle.clu_outcome.specs.declared.outcome.Outcome.TheVariants as outcome

-- where the machine stands as the definition has it, the outcome holds of the definition
ended_as : (how is : Outcome) (added : List ℕ) (meant : Configuration) → how ≡ is → EndsAs is added meant → EndsAs how added meant
ended_as how is added meant e h = let P : Outcome → Type 0 = λ o. EndsAs o added meant in subst P (sym e) h

-- the definition has the output and the ending that the machine has
as_meant : (meant now : Configuration) → now ≡ meant → (meant.output ≡ now.output) × (meant.ended ≡ now.ended)
as_meant meant now same = (ap (λ (c : Configuration). c.output) (sym same), ap (λ (c : Configuration). c.ended) (sym same))

pub ends_as : (ended : Option Ending) (s : State) (i added : List ℕ) (meant : Configuration) (how : Outcome)
    → (unwrap_or ended ending.StepsSpent ≡ ending.StepsSpent → ended ≡ None)
    → IsAfter meant (record { state = s; input = i; output = added; ended = ended }) → OutcomeOf (unwrap_or ended ending.StepsSpent) s how → EndsAs how added meant
ends_as None s i added meant how spent after is = ended_as how outcome.StepsSpent added meant is (as_meant meant _ after)
ends_as (Some ending.Returned) s i added meant how spent after is = ended_as how outcome.Done added meant is (as_meant meant _ after)
ends_as (Some ending.StoreFull) s i added meant how spent after is = ended_as how outcome.StoreFull added meant is (as_meant meant _ after)
ends_as (Some ending.StackFull) s i added meant how spent after is = ended_as how outcome.StackFull added meant is (as_meant meant _ after)
ends_as (Some (ending.Failure at count)) s i added meant (outcome.Failure text) spent after is =
    let same = as_meant meant _ after in
    let Text : Configuration → Type 0 = λ c. bytes_at c.state at count ≡ Some text.now in
    (same.0, (at, count, same.1, subst Text after is))
ends_as (Some (ending.Failure at count)) s i added meant _ spent after is = elim is [ ]
ends_as (Some ending.StepsSpent) s i added meant how spent after is = let no : Some ending.StepsSpent ≡ None = spent refl in cc
ends_as (Some (ending.BadInstruction d)) s i added meant how spent after is = ended_as how (outcome.BadInstruction d) added meant is (as_meant meant _ after)
ends_as (Some (ending.BadAccess d)) s i added meant how spent after is = ended_as how (outcome.BadAccess d) added meant is (as_meant meant _ after)
ends_as (Some (ending.BadJump d)) s i added meant how spent after is = ended_as how (outcome.BadJump d) added meant is (as_meant meant _ after)
ends_as (Some (ending.BadEcall d)) s i added meant how spent after is = ended_as how (outcome.BadEcall d) added meant is (as_meant meant _ after)
ends_as (Some ending.ReadFault) s i added meant how spent after is = ended_as how outcome.ReadFault added meant is after
ends_as (Some ending.WriteFault) s i added meant how spent after is = ended_as how outcome.WriteFault added meant is after

-- the input that the program was given
given : (left : Option (List ℕ)) (more : List ℕ) → IfSome left (λ l. unwrap_or left more ≡ l)
given None more = tt
given (Some l) more = refl

-- a fault of the outside rose
faulted : (e : Ending) (s : State) (how : Outcome) (before after : Streams) → OutcomeOf e s how
    → (e ≡ ending.ReadFault → Rose before.read_faults after.read_faults) → (e ≡ ending.WriteFault → Rose before.write_faults after.write_faults) → HasFaultOf how before after
faulted ending.ReadFault s how before after is reads writes = let P : Outcome → Type 0 = λ o. HasFaultOf o before after in subst P (sym is) (reads refl)
faulted ending.WriteFault s how before after is reads writes = let P : Outcome → Type 0 = λ o. HasFaultOf o before after in subst P (sym is) (writes refl)
faulted (ending.Failure at count) s (outcome.Failure text) before after is reads writes = tt
faulted (ending.Failure at count) s _ before after is reads writes = elim is [ ]
faulted ending.Returned s how before after is reads writes = let P : Outcome → Type 0 = λ o. HasFaultOf o before after in subst P (sym is) tt
faulted ending.StoreFull s how before after is reads writes = let P : Outcome → Type 0 = λ o. HasFaultOf o before after in subst P (sym is) tt
faulted ending.StackFull s how before after is reads writes = let P : Outcome → Type 0 = λ o. HasFaultOf o before after in subst P (sym is) tt
faulted ending.StepsSpent s how before after is reads writes = let P : Outcome → Type 0 = λ o. HasFaultOf o before after in subst P (sym is) tt
faulted (ending.BadInstruction d) s how before after is reads writes = let P : Outcome → Type 0 = λ o. HasFaultOf o before after in subst P (sym is) tt
faulted (ending.BadAccess d) s how before after is reads writes = let P : Outcome → Type 0 = λ o. HasFaultOf o before after in subst P (sym is) tt
faulted (ending.BadJump d) s how before after is reads writes = let P : Outcome → Type 0 = λ o. HasFaultOf o before after in subst P (sym is) tt
faulted (ending.BadEcall d) s how before after is reads writes = let P : Outcome → Type 0 = λ o. HasFaultOf o before after in subst P (sym is) tt

-- the machine did the steps of the definition, from this state on
abbrev pub DidRun : Limits → Snapshot → Option (List ℕ) → Option (List ℕ) → Snapshot → Option (List ℕ) → Option (List ℕ) → Type 0
DidRun limits old left written new left' written' = Does (λ i o. emulated limits.steps (configuration old i o)) old left written new left' written'

from_fresh : (limits : Limits) (old is : Snapshot) (left written : Option (List ℕ)) (m : Snapshot) (left' written' : Option (List ℕ)) → old ≡ is → DidRun limits old left written m left' written' → DidRun limits is left written m left' written'
from_fresh limits old is left written m left' written' same did = let P : Snapshot → Type 0 = λ o. DidRun limits o left written m left' written' in subst P same did

-- what the machine did from its start is what the outcome shows
pub run_shows : (image : Contents) (limits : Limits) (old m : Snapshot) (before after : Streams) (e : Ending) (how : Outcome)
    → old ≡ fresh image (sizes_of limits) → DidRun limits old before.left before.written m after.left after.written
    → e ≡ unwrap_or m.ended ending.StepsSpent → (e ≡ ending.StepsSpent → m.ended ≡ None)
    → (e ≡ ending.ReadFault → Rose before.read_faults after.read_faults) → (e ≡ ending.WriteFault → Rose before.write_faults after.write_faults)
    → OutcomeOf e m.state how → Ran how image limits before after
run_shows image limits old m before after e how start did' answer spent reads writes is =
    let did = from_fresh limits old _ before.left before.written m after.left after.written start did' in
    let there = did.does [] [] in
    let OfEnding : Ending → Type 0 = λ e. OutcomeOf e m.state how in
    record {
      input = unwrap_or before.left there.0;
      is_left = given before.left there.0;
      added = did.added;
      wrote = did.wrote;
      ends = ends_as m.ended m.state _ did.added _ how (λ h. spent (answer ∙ h)) there.1 (subst OfEnding answer is);
      fault = faulted e m.state how before after is reads writes;
    }

-- the text of the ending is where the machine looks for it
text_by : (ended : Option Ending) (s : State) (i added : List ℕ) (meant : Configuration) (e : Ending) → e ≡ unwrap_or ended ending.StepsSpent
    → IsAfter meant (record { state = s; input = i; output = added; ended = ended })
    → ((now : Configuration) → now ≡ meant → (x : Ending) → now.ended ≡ Some x → HasText x now.state) → HasText e s
text_by (Some (ending.Failure at count)) s i added meant e answer after text = let P : Ending → Type 0 = λ x. HasText x s in subst P (sym answer) (text _ after _ refl)
text_by None s i added meant e answer after text = let P : Ending → Type 0 = λ x. HasText x s in subst P (sym answer) tt
text_by (Some ending.Returned) s i added meant e answer after text = let P : Ending → Type 0 = λ x. HasText x s in subst P (sym answer) tt
text_by (Some ending.StoreFull) s i added meant e answer after text = let P : Ending → Type 0 = λ x. HasText x s in subst P (sym answer) tt
text_by (Some ending.StackFull) s i added meant e answer after text = let P : Ending → Type 0 = λ x. HasText x s in subst P (sym answer) tt
text_by (Some ending.StepsSpent) s i added meant e answer after text = let P : Ending → Type 0 = λ x. HasText x s in subst P (sym answer) tt
text_by (Some ending.ReadFault) s i added meant e answer after text = let P : Ending → Type 0 = λ x. HasText x s in subst P (sym answer) tt
text_by (Some ending.WriteFault) s i added meant e answer after text = let P : Ending → Type 0 = λ x. HasText x s in subst P (sym answer) tt
text_by (Some (ending.BadInstruction d)) s i added meant e answer after text = let P : Ending → Type 0 = λ x. HasText x s in subst P (sym answer) tt
text_by (Some (ending.BadAccess d)) s i added meant e answer after text = let P : Ending → Type 0 = λ x. HasText x s in subst P (sym answer) tt
text_by (Some (ending.BadJump d)) s i added meant e answer after text = let P : Ending → Type 0 = λ x. HasText x s in subst P (sym answer) tt
text_by (Some (ending.BadEcall d)) s i added meant e answer after text = let P : Ending → Type 0 = λ x. HasText x s in subst P (sym answer) tt

pub has_text : (image : Contents) (limits : Limits) (old m : Snapshot) (left written left' written' : Option (List ℕ)) (e : Ending)
    → old ≡ fresh image (sizes_of limits) → DidRun limits old left written m left' written' → e ≡ unwrap_or m.ended ending.StepsSpent → HasText e m.state
has_text image limits old m left written left' written' e start did' answer =
    let did = from_fresh limits old _ left written m left' written' start did' in
    let there = did.does [] [] in
    text_by m.ended m.state _ did.added _ e answer there.1 (λ now same x ended. ended_with_text limits.steps _ now x refl same ended)

-- a run never runs out of memory
pub shown : (how : Outcome) (image : Contents) (limits : Limits) (before after : Streams) → Ran how image limits before after → RunShows how image limits before after
shown outcome.Memory image limits before after ran = elim ran.ends [ ]
shown _ image limits before after ran = ran
