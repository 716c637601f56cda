-- Images that do nothing stand for no program that writes something.
use Rattle.std.proofs.Common.{◌≡◌, ◌∙◌, ◌<◌, ◌^◌, ◌+◌, ℕ, zero, suc, true, List, [], refl, sym, ap, subst, inl, inr, arith}
use Rattle.std.specs.Prelude.{◌⊎◌}
use Rattle.std.proofs.lemmas.Bool.{false≢true}
use Rattle.std.proofs.lemmas.List.Elements.{All-nil}
use Rattle.rv_isa.specs.Image.{Contents}
use Rattle.rv_isa.specs.Decoded.{named_by}
use Rattle.rv_machine.specs.Emulation.{stepped, emulated, start}
use Rattle.rv_machine.specs.Limits.{Sizes}
use Rattle.rv_machine.specs.Snapshot.{IsPrefix}
use Rattle.rv_machine.specs.Steps.{next, executed}
use Rattle.clu_meaning.specs.Programs.{Program}
use Rattle.clu_meaning.specs.Run.{run}
use Rattle.laws_program.specs.Observed.{Region, store, stack, running, full, Observed, is_running, is_full, is_bad, shown}
use Rattle.laws_program.specs.Refused.{spinning, full_at_once, bad_call, IsSilent, Writes, WritesWithin}
use Rattle.laws_program.specs.Stands.{observed, Agrees, Stands}
use Rattle.laws_program.proofs.Machines.{observed_runs}
use Rattle.laws_program.proofs.Prefixes.{none_before}
use Rattle.laws_program.proofs.Sizes.{small, small_limits}

pub silence : (image : Contents) (program : Program) (name : List ℕ) → IsSilent image → Writes program name → Stands image program name → ⊥
silence image program name silent w stands = by ((stands.agrees w.sizes w.limits w.input w.bytes).growth w.turns)
  where
    at : ℕ → Observed
    at k = observed image w.sizes w.input k

    by : (k : ℕ) × (IsPrefix (run program name w.input w.turns).output (at k).output ⊎ (is_full (at k).outcome ≡ true)) → ⊥
    by (k, inl p) = none_before w.byte w.rest (subst (λ xs. IsPrefix xs []) w.output (subst (λ (o : Observed). IsPrefix (run program name w.input w.turns).output o.output) (silent w.sizes w.input k) p))
    by (k, inr e) = false≢true (ap (λ (o : Observed). is_full o.outcome) (sym (silent w.sizes w.input k)) ∙ e)

-- ---- the instruction that goes to itself

spins : (sizes : Sizes) (input : List ℕ) → stepped (start spinning sizes input) ≡ start spinning sizes input
unfolding named_by next executed
spins sizes input = refl

spun : (sizes : Sizes) (input : List ℕ) (k : ℕ) → emulated k (start spinning sizes input) ≡ start spinning sizes input
spun sizes input zero = refl
spun sizes input (suc k) = ap stepped (spun sizes input k) ∙ spins sizes input

pub spinning_silent : IsSilent spinning
spinning_silent sizes input k = ap shown (spun sizes input k)

-- ---- a region that is full at once

silent_before : (region : Region) (sizes : Sizes) (input : List ℕ) → shown (emulated 1 (start (full_at_once region) sizes input)) ≡ record { output = []; outcome = running }
unfolding named_by next executed
silent_before store sizes input = refl
silent_before stack sizes input = refl

pub silent_then : (region : Region) (sizes : Sizes) (input : List ℕ) → shown (emulated 2 (start (full_at_once region) sizes input)) ≡ record { output = []; outcome = full region }
unfolding named_by next executed
silent_then store sizes input = refl
silent_then stack sizes input = refl

-- it has written nothing, and is full by this region if at all
record Idle (region : Region) (o : Observed) : Type 0 where
  output : o.output ≡ []
  outcome : is_full o.outcome ≡ true → o.outcome ≡ full region

idle_running : (region : Region) (o : Observed) → o ≡ record { output = []; outcome = running } → Idle region o
idle_running region o e = subst (Idle region) (sym e) (record { output = refl; outcome = λ f. absurd (false≢true f) })

idle_full : (region : Region) (o : Observed) → o ≡ record { output = []; outcome = full region } → Idle region o
idle_full region o e = subst (Idle region) (sym e) (record { output = refl; outcome = λ f. refl })

idle : (region : Region) (sizes : Sizes) (input : List ℕ) (k : ℕ) → Idle region (observed (full_at_once region) sizes input k)
idle region sizes input zero = record { output = refl; outcome = λ f. absurd (false≢true f) }
idle region sizes input (suc zero) = idle_running region _ (silent_before region sizes input)
idle region sizes input (suc (suc k)) =
    let ended = silent_then region sizes input in
    let stays = (observed_runs (full_at_once region) sizes input).stays 2 k (ap (λ (o : Observed). is_running o.outcome) ended) in
    subst (λ n. Idle region (observed (full_at_once region) sizes input n)) (two k) (idle_full region _ (stays ∙ ended))
  where
    two : (k : ℕ) → 2 + k ≡ suc (suc k)
    two k = omega arith

pub full_at_once_refused : (region : Region) (program : Program) (name : List ℕ) → WritesWithin region program name → Stands (full_at_once region) program name → ⊥
full_at_once_refused region program name all stands = by (agrees.growth w.turns)
  where
    w : Writes program name
    w = all.writes

    at : ℕ → Observed
    at k = observed (full_at_once region) w.sizes w.input k

    agrees : Agrees w.sizes at (run program name w.input)
    agrees = stands.agrees w.sizes w.limits w.input w.bytes

    nothing_written : (k : ℕ) → IsPrefix (run program name w.input w.turns).output (at k).output → ⊥
    nothing_written k p = none_before w.byte w.rest (subst (λ xs. IsPrefix xs []) w.output (subst (λ xs. IsPrefix (run program name w.input w.turns).output xs) (idle region w.sizes w.input k).output p))

    by : (k : ℕ) × (IsPrefix (run program name w.input w.turns).output (at k).output ⊎ (is_full (at k).outcome ≡ true)) → ⊥
    by (k, inl p) = nothing_written k p
    by (k, inr e) = nothing_written k ((agrees.full_duly region k ((idle region w.sizes w.input k).outcome e)).due w.turns all.within)

-- ---- a call that there isn't

bad_then : (sizes : Sizes) (input : List ℕ) → is_bad (shown (emulated 2 (start bad_call sizes input))).outcome ≡ true
unfolding named_by next executed
bad_then sizes input = refl

pub bad_call_refused : (program : Program) (name : List ℕ) → Stands bad_call program name → ⊥
bad_call_refused program name stands = false≢true (sym ((stands.agrees small small_limits [] (All-nil (λ n. n < 2 ^ 8))).no_bad_end 2) ∙ bad_then small [])
