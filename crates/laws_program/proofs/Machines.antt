-- The emulation of an image is a run.
use Rattle.std.proofs.Common.{◌≡◌, ◌∙◌, ℕ, zero, suc, false, List, [], ◌∷◌, Option, None, Some, refl, sym, ap, subst}
use Rattle.std.proofs.lemmas.Bool.{false≢true}
use Rattle.rv_isa.specs.Image.{Contents}
use Rattle.rv_machine.specs.declared.ending.Ending.{Ending}
use Rattle.rv_machine.specs.declared.call.Call.{Call}
use Rattle.rv_machine.specs.declared.call.Call.TheVariants as call
use Rattle.rv_machine.specs.declared.trap.Trap.{Trap}
use Rattle.rv_machine.specs.declared.trap.Trap.TheVariants as trap
use Rattle.rv_machine.specs.Calls.{Configuration, call_of, failed, wrote, took, peeked, range_of, served}
use Rattle.rv_machine.specs.Emulation.{trapped, after, stepped_unless, emulated, start}
use Rattle.rv_machine.specs.Limits.{Sizes}
use Rattle.rv_machine.specs.Snapshot.{IsPrefix}
use Rattle.rv_machine.specs.State.{register}
use Rattle.rv_machine.specs.Steps.{Next, Goes, Stops, next}
use Rattle.rv_machine.proofs.Runs.{emulated-ended, emulated-add}
use Rattle.laws_program.specs.Observed.{is_running, outcome_of, shown, IsRun}
use Rattle.laws_program.specs.Stands.{observed}
use Rattle.laws_program.proofs.Prefixes.{same_prefix, prefix_then}

-- ---- the output only grows

failed_adds : (text : Option (List ℕ)) (c : Configuration) → IsPrefix c.output (failed text c).output
failed_adds None c = same_prefix _ _ refl
failed_adds (Some text) c = same_prefix _ _ refl

wrote_adds : (bytes : Option (List ℕ)) (c : Configuration) → IsPrefix c.output (wrote bytes c).output
wrote_adds None c = same_prefix _ _ refl
wrote_adds (Some bytes) c = record { rest = bytes; parts = refl }

took_adds : (input : List ℕ) (c : Configuration) → IsPrefix c.output (took input c).output
took_adds [] c = same_prefix _ _ refl
took_adds (b ∷ rest) c = same_prefix _ _ refl

peeked_adds : (input : List ℕ) (c : Configuration) → IsPrefix c.output (peeked input c).output
peeked_adds [] c = same_prefix _ _ refl
peeked_adds (b ∷ rest) c = same_prefix _ _ refl

served_adds : (k : Call) (c : Configuration) → IsPrefix c.output (served k c).output
served_adds call.Fail c = failed_adds (range_of c.state) c
served_adds call.Write c = wrote_adds (range_of c.state) c
served_adds call.Take c = took_adds c.input c
served_adds call.Peek c = peeked_adds c.input c
served_adds call.Return c = same_prefix _ _ refl
served_adds call.StoreFull c = same_prefix _ _ refl
served_adds call.StackFull c = same_prefix _ _ refl
served_adds (call.Unknown n) c = same_prefix _ _ refl

trapped_adds : (t : Trap) (c : Configuration) → IsPrefix c.output (trapped t c).output
trapped_adds trap.Call c = served_adds (call_of (register c.state 17)) c
trapped_adds (trap.Instruction pc) c = same_prefix _ _ refl
trapped_adds (trap.Access address) c = same_prefix _ _ refl
trapped_adds (trap.Jump target) c = same_prefix _ _ refl

after_adds : (n : Next) (c : Configuration) → IsPrefix c.output (after n c).output
after_adds (Goes s) c = same_prefix _ _ refl
after_adds (Stops t s) c = trapped_adds t (record c { state = s })

stepped_adds : (e : Option Ending) (c : Configuration) → IsPrefix c.output (stepped_unless e c).output
stepped_adds None c = after_adds (next c.state) c
stepped_adds (Some e) c = same_prefix _ _ refl

emulated_adds : (n : ℕ) (c : Configuration) → IsPrefix c.output (emulated n c).output
emulated_adds zero c = same_prefix _ _ refl
emulated_adds (suc n) c = prefix_then (emulated_adds n c) (stepped_adds (emulated n c).ended (emulated n c))

-- ---- a run that has ended stays

ended_stays : (j : ℕ) (c : Configuration) (e : Option Ending) → c.ended ≡ e → is_running (outcome_of e c.state) ≡ false → emulated j c ≡ c
ended_stays j c None h over = absurd (false≢true (sym over))
ended_stays j c (Some e) h over = emulated-ended j c e h

pub observed_runs : (image : Contents) (sizes : Sizes) (input : List ℕ) → IsRun (observed image sizes input)
observed_runs image sizes input = record {
  adds = λ i j. subst (λ (c : Configuration). IsPrefix (at i).output c.output) (sym (emulated-add i j begun)) (emulated_adds j (at i));
  stays = λ i j over. ap shown (emulated-add i j begun ∙ ended_stays j (at i) (at i).ended refl over);
}
  where
    begun : Configuration
    begun = start image sizes input

    at : ℕ → Configuration
    at i = emulated i begun
