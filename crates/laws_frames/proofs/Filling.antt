-- A run of an image with limits ends as its program does, or full.
use Rattle.std.proofs.Common.{◌≡◌, ◌≢◌, ◌⊎◌, inl, inr, ⊎_elim, ℕ, ◌≤◌, false, List, ap, subst, arith}
use Rattle.clu_word_meaning.specs.Growing.{Front}
use Rattle.clu_word_meaning.specs.World.{World}
use Rattle.clu_word_meaning.specs.Words.{Result, State, broken, continued, exited, normal, out_of_turns, raised, returned, signalled, through, wrong}
use Rattle.clu_word_meaning.specs.Words.{ended as word_ended}
use Rattle.clu_flat_meaning.specs.Image.{Image}
use Rattle.clu_flat_meaning.specs.Machine.{Comes, Ended, Machine, ended, failed}
use Rattle.clu_flat_meaning.specs.Machine as flat
use Rattle.laws_frames.specs.Ending.{EndsAs, InMeters, RunEnds, RunsOn}
use Rattle.laws_frames.specs.Limits.{FullEnd, RunEndsOrFills, endless}
use Rattle.laws_frames.proofs.Limiting.{Stopped, limited}

module _ (image : Image) (c : Machine) (live : ℕ) where
  full_by : (st : State) (d : Machine) → d.world.output ≡ st.world.output → InMeters live st d → Stopped image c d → FullEnd image c live st
  full_by st d out meters s = record {
    machine = s.machine;
    comes = s.comes;
    output = subst (Front s.machine.world.output) out s.output;
    passes = ⊎_elim
        (λ (k : (s.machine.mode ≡ ended flat.stack_full) × ((t : ℕ) × (image.has_stack t ≡ false) × (t ≤ d.peak))). inl (k.0, (k.1.0, k.1.1, omega (arith, k.1.2, meters.stack))))
        (λ (k : (s.machine.mode ≡ ended flat.store_full) × ((t : ℕ) × (image.has_store t ≡ false) × (t ≤ d.used))). inr (k.0, (k.1.0, k.1.1, omega (arith, k.1.2, meters.store)))) s.passes;
  }

  ended_right : (d : Machine) (how : Ended) → d.mode ≡ ended how → d.mode ≢ flat.wrong
  ended_right d how e w = absurd (cc)

  runs_right : (d : Machine) → d.mode ≡ flat.running → d.mode ≢ flat.wrong
  runs_right d e w = absurd (cc)

  ends_or : (how : Ended) (st : State) → EndsAs (endless image) c live how st → EndsAs image c live how st ⊎ FullEnd image c live st
  ends_or how st k = ⊎_elim
      (λ (x : Comes image c k.machine). inl (record { machine = k.machine; comes = x; mode = k.mode; world = k.world; meters = k.meters }))
      (λ (x : Stopped image c k.machine). inr (full_by st k.machine (ap (λ (w : World). w.output) k.world) k.meters x))
      (limited image k.comes.steps c k.machine k.comes.come (ended_right k.machine how k.mode))

  runs_or : (st : State) → RunsOn (endless image) c live st → RunsOn image c live st ⊎ FullEnd image c live st
  runs_or st k = ⊎_elim
      (λ (x : Comes image c k.machine). inl (record { machine = k.machine; comes = x; mode = k.mode; output = k.output; meters = k.meters }))
      (λ (x : Stopped image c k.machine). inr (full_by st k.machine k.output k.meters x))
      (limited image k.comes.steps c k.machine k.comes.come (runs_right k.machine k.mode))

  pub fills : (r : Result (List ℕ)) → RunEnds (endless image) c live r → RunEndsOrFills image c live r
  fills (normal given t st) k = ends_or flat.returned st k
  fills (word_ended (raised name ws) t st) k = λ text s. ends_or (failed text) st (k text s)
  fills (word_ended broken t st) k = tt
  fills (word_ended continued t st) k = tt
  fills (word_ended (returned ws) t st) k = tt
  fills (word_ended (signalled name ws) t st) k = tt
  fills (word_ended (exited deep arm ws) t st) k = tt
  fills (word_ended (through e) t st) k = tt
  fills (word_ended wrong t st) k = tt
  fills (out_of_turns st) k = runs_or st k
