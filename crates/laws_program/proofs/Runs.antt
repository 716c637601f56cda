-- Runs that only add and stay as they have ended.
use Rattle.std.proofs.Common.{◌≡◌, ◌≤◌, ◌-◌, ◌<◌, ℕ, false, sym, ap, subst, inl, inr, arith}
use Rattle.std.specs.Prelude.{◌⊎◌}
use Rattle.std.proofs.lemmas.Bool.{cases_lt}
use Rattle.rv_machine.specs.Snapshot.{IsPrefix}
use Rattle.laws_program.specs.Observed.{Observed, is_running, IsRun}
use Rattle.laws_program.proofs.Prefixes.{same_prefix}

module _ (run : ℕ → Observed) (runs : IsRun run) where
  pub stays_at : (i j : ℕ) → i ≤ j → is_running (run i).outcome ≡ false → run j ≡ run i
  stays_at i j l e = subst (λ n. run n ≡ run i) (omega (arith, l)) (runs.stays i (j - i) e)

  pub adds_to : (i j : ℕ) → i ≤ j → IsPrefix (run i).output (run j).output
  adds_to i j l = subst (λ n. IsPrefix (run i).output (run n).output) (omega (arith, l)) (runs.adds i (j - i))

  -- whatever a run has written stands in what it has written once it has ended
  pub all_written : (i j : ℕ) → is_running (run j).outcome ≡ false → IsPrefix (run i).output (run j).output
  all_written i j e = by (cases_lt i j)
    where
      by : (i < j) ⊎ (j ≤ i) → IsPrefix (run i).output (run j).output
      by (inl l) = adds_to i j (omega (arith, l))
      by (inr l) = same_prefix _ _ (ap (λ (o : Observed). o.output) (sym (stays_at j i l e)))

  -- it ends once
  pub ends_once : (i j : ℕ) → is_running (run i).outcome ≡ false → is_running (run j).outcome ≡ false → run i ≡ run j
  ends_once i j e f = by (cases_lt i j)
    where
      by : (i < j) ⊎ (j ≤ i) → run i ≡ run j
      by (inl l) = sym (stays_at i j (omega (arith, l)) e)
      by (inr l) = stays_at j i l f
