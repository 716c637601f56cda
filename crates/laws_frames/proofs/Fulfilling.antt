-- However a run ends, it has written what its program writes while the limits allow it.
use Rattle.std.proofs.Common.{◌≡◌, ◌∙◌, ◌⊎◌, inl, inr, ⊎_elim, ℕ, zero, suc, ◌+◌, ◌<◌, ◌≤◌, false, List, refl, ap, sym, subst, arith, true≢false}
use Rattle.std.specs.Prelude.{max, ◌-◌}
use Rattle.clu_word_meaning.specs.Growing.{Front}
use Rattle.clu_word_meaning.specs.Words.{State}
use Rattle.clu_flat_meaning.specs.Image.{Image}
use Rattle.clu_flat_meaning.specs.Machine.{Comes, Ended, Machine, ended, on_mode, run, running, stack_full, stepped, store_full}
use Rattle.clu_flat_meaning.proofs.Runs.{run_more}
use Rattle.laws_frames.specs.Ending.{RunsOn}
use Rattle.laws_frames.specs.Limits.{Allows, FullEnd}
use Rattle.laws_frames.proofs.Growing.{below_or}
use Rattle.laws_frames.proofs.Widening.{run_widens}

module _ (image : Image) where
  -- what the limits allow is never full
  pub never_full : (c : Machine) (live : ℕ) (st : State) → Allows image live st → RunsOn image c live st ⊎ FullEnd image c live st → RunsOn image c live st
  never_full c live st a (inl k) = k
  never_full c live st a (inr k) = ⊎_elim
      (λ (x : (k.machine.mode ≡ ended stack_full) × ((top : ℕ) × (image.has_stack top ≡ false) × (top ≤ max live st.meters.most))). absurd (true≢false (sym (a.stack x.1.0 x.1.2) ∙ x.1.1)))
      (λ (x : (k.machine.mode ≡ ended store_full) × ((next : ℕ) × (image.has_store next ≡ false) × (next ≤ st.meters.store))). absurd (true≢false (sym (a.store x.1.0 x.1.2) ∙ x.1.1))) k.passes

  -- a machine that has ended stays as it is
  ended_stays : (n : ℕ) (c : Machine) (how : Ended) → c.mode ≡ ended how → run image n c ≡ c
  unfolding run stepped on_mode
  ended_stays zero c how e = refl
  ended_stays (suc n) c how e = ap (λ m. run image n (on_mode image m c)) e ∙ ended_stays n c how e

  later : (c d x : Machine) (i j : ℕ) (how : Ended) → run image i c ≡ d → run image j c ≡ x → x.mode ≡ ended how → d.mode ≡ running → (j < i) ⊎ (i ≤ j) → Front d.world.output x.world.output
  later c d x i j how e g h m (inr l) =
      let z : run image (j - i) d ≡ x = ap (run image (j - i)) (sym e) ∙ sym (run_more image i (j - i) c) ∙ (let y : i + (j - i) ≡ j = omega (arith, l) in ap (λ n. run image n c) y) ∙ g in
      subst (λ (y : Machine). Front d.world.output y.world.output) z (run_widens image (j - i) d).output
  later c d x i j how e g h m (inl l) =
      let z : run image (i - j) x ≡ d = ap (run image (i - j)) (sym g) ∙ sym (run_more image j (i - j) c) ∙ (let y : j + (i - j) ≡ i = omega (arith, l) in ap (λ n. run image n c) y) ∙ e in
      let same : x ≡ d = sym (ended_stays (i - j) x how h) ∙ z in
      let w : ended how ≡ running = sym h ∙ ap (λ (y : Machine). y.mode) same ∙ m in
      absurd (cc)

  pub fulfilled : (c : Machine) (live : ℕ) (st : State) → RunsOn image c live st → (x : Machine) (how : Ended) → Comes image c x → x.mode ≡ ended how → Front st.world.output x.world.output
  fulfilled c live st k x how come h =
      subst (λ (o : List ℕ). Front o x.world.output) k.output (later c k.machine x k.comes.steps come.steps how k.comes.come come.come h k.mode (below_or come.steps k.comes.steps))
