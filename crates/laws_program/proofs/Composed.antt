-- The layers between a program and its image give that the image agrees with the program.
use Rattle.std.proofs.Common.{◌≡◌, ◌∙◌, ◌≤◌, ◌<◌, ◌+◌, ℕ, suc, Bool, true, false, refl, sym, ap, subst, inl, inr, arith}
use Rattle.std.specs.Prelude.{◌⊎◌}
use Rattle.std.proofs.lemmas.Bool.{false≢true}
use Rattle.rv_machine.specs.Limits.{Sizes}
use Rattle.rv_machine.specs.Snapshot.{IsPrefix}
use Rattle.clu_meaning.specs.Run.{Progress, still_running, returned_normally, went_wrong, failure_with, Seen}
use Rattle.laws_program.specs.Layers.{metered, turns_within, IsLoweredAt, IsPast, IsFlatAt, IsFullAt, Layers}
use Rattle.laws_program.specs.Observed.{Region, Outcome, running, returned, bad, failed, full, Observed, is_running, is_full, is_bad, is_over, outcome_meant, meant, taken, size_of, IsRun}
use Rattle.laws_program.specs.Stands.{bytes_of, IsFullDuly, Agrees}
use Rattle.laws_program.proofs.Prefixes.{same_prefix, prefix_then}
use Rattle.laws_program.proofs.Runs.{stays_at, adds_to, all_written, ends_once}

-- ---- ways to end

over_ended : (o : Outcome) → is_over o ≡ true → is_running o ≡ false
over_ended running e = absurd (false≢true e)
over_ended returned e = refl
over_ended (failed text) e = refl
over_ended (full region) e = refl
over_ended bad e = refl

full_ended : (o : Outcome) → is_full o ≡ true → is_running o ≡ false
full_ended running e = absurd (false≢true e)
full_ended returned e = refl
full_ended (failed text) e = refl
full_ended (full region) e = refl
full_ended bad e = refl

not_both : (o : Outcome) → is_full o ≡ true → is_over o ≡ true → ⊥
not_both running e f = false≢true e
not_both returned e f = false≢true e
not_both (failed text) e f = false≢true e
not_both (full region) e f = false≢true f
not_both bad e f = false≢true e

running_fine : (o : Outcome) → is_running o ≡ true → is_bad o ≡ false
running_fine running e = refl
running_fine returned e = absurd (false≢true e)
running_fine (failed text) e = absurd (false≢true e)
running_fine (full region) e = absurd (false≢true e)
running_fine bad e = absurd (false≢true e)

full_fine : (o : Outcome) → is_full o ≡ true → is_bad o ≡ false
full_fine running e = refl
full_fine returned e = refl
full_fine (failed text) e = refl
full_fine (full region) e = refl
full_fine bad e = absurd (false≢true e)

bad_ended : (o : Outcome) → is_bad o ≡ true → is_running o ≡ false
bad_ended running e = absurd (false≢true e)
bad_ended returned e = refl
bad_ended (failed text) e = refl
bad_ended (full region) e = refl
bad_ended bad e = refl

-- a meaning is never full
never_full : (p : Progress) → is_full (outcome_meant p) ≡ true → ⊥
never_full still_running e = false≢true e
never_full returned_normally e = false≢true e
never_full went_wrong e = false≢true e
never_full (failure_with text) e = false≢true e

abbrev way : Observed → Outcome
way o = o.outcome

same_region : {r s : Region} → full r ≡ full s → r ≡ s
same_region {r} {s} e = ap (region_of r) e
  where
    region_of : Region → Outcome → Region
    region_of other (full found) = found
    region_of other o = other

module _ (sizes : Sizes) (program : ℕ → Seen) (image : ℕ → Observed) (image_runs : IsRun image) (layers : Layers sizes program image) where
  abbrev flat : ℕ → Observed
  flat = layers.flat

  -- The program and its flat code, with word code between them.

  record FullFor (n steps : ℕ) : Type 0 where
    region : Region
    full : way (flat steps) ≡ full region
    passes : size_of sizes region < bytes_of (taken (program n) region)
    front : IsPrefix (flat steps).output (program n).output

  record DoneAt (n steps : ℕ) : Type 0 where
    same : flat steps ≡ meant (program n)
    in_time : is_running (outcome_meant (program n).progress) ≡ true → n ≤ turns_within steps

  -- flat code is where word code is, if that has come to the program's place, and full if that is past the limit
  of_code : (n at steps : ℕ) → IsLoweredAt (metered (program n)) (layers.code at) n at ⊎ IsPast sizes (metered (program n)) (layers.code at) →
      IsFlatAt sizes (layers.code at) (flat steps) at steps ⊎ IsFullAt sizes (layers.code at) (flat steps) → DoneAt n steps ⊎ FullFor n steps
  of_code n at steps (inl is) (inl done) = inl (record { same = done.same ∙ is.same; in_time = λ e. omega (arith, is.in_time e, done.in_time (still e)) })
    where
      still : is_running (outcome_meant (program n).progress) ≡ true → is_running (way (layers.code at).observed) ≡ true
      still e = ap (λ o. is_running (way o)) is.same ∙ e
  of_code n at steps (inl is) (inr f) = inr (record {
    region = f.region;
    full = f.full;
    passes = omega (arith, f.passes, is.words f.region);
    front = subst (λ (o : Observed). IsPrefix (flat steps).output o.output) is.same f.front;
  })
  of_code n at steps (inr past) (inl done) = absurd (omega (arith, past.passes, done.fits))
  of_code n at steps (inr past) (inr f) = inr (record {
    region = f.region;
    full = f.full;
    passes = omega (arith, f.passes, past.words f.region);
    front = prefix_then f.front past.front;
  })

  -- word code is not bad at such a place
  fine : (n at : ℕ) → IsLoweredAt (metered (program n)) (layers.code at) n at ⊎ IsPast sizes (metered (program n)) (layers.code at) → is_bad (way (layers.code at).observed) ≡ false
  fine n at (inl is) = ap (λ o. is_bad (way o)) is.same ∙ layers.sound n
  fine n at (inr past) = running_fine _ past.running

  comes : (n : ℕ) → (steps : ℕ) × (DoneAt n steps ⊎ FullFor n steps)
  comes n = by (layers.lowered n (layers.sound n))
    where
      by : (at : ℕ) × (IsLoweredAt (metered (program n)) (layers.code at) n at ⊎ IsPast sizes (metered (program n)) (layers.code at)) → (steps : ℕ) × (DoneAt n steps ⊎ FullFor n steps)
      by (at, is) = let f = layers.flattened at (fine n at is) in (f.0, of_code n at f.0 is f.1)

  -- so many turns that flat code has passed a place by then, or has ended
  abbrev late : ℕ → ℕ
  late steps = suc (turns_within steps)

  full_is_full : (n steps : ℕ) → FullFor n steps → is_full (way (flat steps)) ≡ true
  full_is_full n steps f = ap is_full f.full

  -- all that flat code writes the program writes
  written : (steps : ℕ) → (n : ℕ) × IsPrefix (flat steps).output (program n).output
  written steps = by (comes (late steps))
    where
      done : (other : ℕ) → DoneAt (late steps) other → (b : Bool) → is_running (outcome_meant (program (late steps)).progress) ≡ b → IsPrefix (flat steps).output (flat other).output
      done other at true e = adds_to flat layers.flat_runs steps other (omega (arith, at.in_time e))
      done other at false e = all_written flat layers.flat_runs steps other (ap (λ o. is_running (way o)) at.same ∙ e)

      by : (other : ℕ) × (DoneAt (late steps) other ⊎ FullFor (late steps) other) → (n : ℕ) × IsPrefix (flat steps).output (program n).output
      by (other, inl at) = (late steps, subst (λ (o : Observed). IsPrefix (flat steps).output o.output) at.same (done other at _ refl))
      by (other, inr f) = (late steps, prefix_then (all_written flat layers.flat_runs steps other (full_ended _ (full_is_full _ other f))) f.front)

  -- where flat code has ended, the program has too, or it is full and the meter passes
  decided : (steps : ℕ) → is_running (way (flat steps)) ≡ false → (n : ℕ) × ((flat steps ≡ meant (program n)) ⊎ FullFor n steps)
  decided steps over = by (comes (late steps))
    where
      done : (other : ℕ) → DoneAt (late steps) other → (b : Bool) → is_running (outcome_meant (program (late steps)).progress) ≡ b → flat steps ≡ flat other
      done other at true e =
          let same = stays_at flat layers.flat_runs steps other (omega (arith, at.in_time e)) over in
          absurd (false≢true (sym over ∙ ap (λ o. is_running (way o)) (sym same ∙ at.same) ∙ e))
      done other at false e = ends_once flat layers.flat_runs steps other over (ap (λ o. is_running (way o)) at.same ∙ e)

      by : (other : ℕ) × (DoneAt (late steps) other ⊎ FullFor (late steps) other) → (n : ℕ) × ((flat steps ≡ meant (program n)) ⊎ FullFor n steps)
      by (other, inl at) = (late steps, inl (done other at _ refl ∙ at.same))
      by (other, inr f) =
          let same = ends_once flat layers.flat_runs other steps (full_ended _ (full_is_full _ other f)) over in (
            late steps,
            inr (record {
              region = f.region;
              full = ap way (sym same) ∙ f.full;
              passes = f.passes;
              front = subst (λ (o : Observed). IsPrefix o.output (program (late steps)).output) same f.front;
            }),
          )

  -- so flat code is never bad
  fair : (steps : ℕ) → is_bad (way (flat steps)) ≡ false
  fair steps = by (is_bad (way (flat steps))) refl
    where
      not_bad : (n : ℕ) × ((flat steps ≡ meant (program n)) ⊎ FullFor n steps) → is_bad (way (flat steps)) ≡ false
      not_bad (n, inl same) = ap (λ o. is_bad (way o)) same ∙ layers.sound n
      not_bad (n, inr f) = full_fine _ (full_is_full n steps f)

      by : (b : Bool) → is_bad (way (flat steps)) ≡ b → is_bad (way (flat steps)) ≡ false
      by false e = e
      by true e = not_bad (decided steps (bad_ended _ e))

  -- Flat code and the image.

  does : (steps : ℕ) → (k : ℕ) × (image k ≡ flat steps)
  does steps = layers.selected.does steps (fair steps)

  meets : (k : ℕ) → (more : ℕ) × (steps : ℕ) × (image (k + more) ≡ flat steps)
  meets k = layers.selected.meets fair k

  -- where the image has ended, flat code has
  stood : (k : ℕ) → is_running (way (image k)) ≡ false → (steps : ℕ) × (image k ≡ flat steps)
  stood k over =
      let later = meets k in
      (later.1, sym (image_runs.stays k later.0 over) ∙ later.2)

  prefix : (k : ℕ) → (n : ℕ) × IsPrefix (image k).output (program n).output
  prefix k =
      let later = meets k in
      let w = written later.1 in
      (w.0, prefix_then (subst (λ (o : Observed). IsPrefix (image k).output o.output) later.2 (image_runs.adds k later.0)) w.1)

  growth : (n : ℕ) → (k : ℕ) × (IsPrefix (program n).output (image k).output ⊎ (is_full (way (image k)) ≡ true))
  growth n = by (comes n)
    where
      by : (steps : ℕ) × (DoneAt n steps ⊎ FullFor n steps) → (k : ℕ) × (IsPrefix (program n).output (image k).output ⊎ (is_full (way (image k)) ≡ true))
      by (steps, inl at) = let d = does steps in (d.0, inl (same_prefix _ _ (ap (λ (o : Observed). o.output) (d.1 ∙ at.same))))
      by (steps, inr f) = let d = does steps in (d.0, inr (ap (λ o. is_full (way o)) d.1 ∙ full_is_full n steps f))

  meant_ending : (k : ℕ) → is_over (way (image k)) ≡ true → (n : ℕ) × (meant (program n) ≡ image k)
  meant_ending k over =
      let s = stood k (over_ended _ over) in
      by s.0 s.1 (decided s.0 (ap (λ o. is_running (way o)) (sym s.1) ∙ over_ended _ over))
    where
      by : (steps : ℕ) → image k ≡ flat steps → (n : ℕ) × ((flat steps ≡ meant (program n)) ⊎ FullFor n steps) → (n : ℕ) × (meant (program n) ≡ image k)
      by steps e (n, inl same) = (n, sym (e ∙ same))
      by steps e (n, inr f) = absurd (not_both _ (full_is_full n steps f) (ap (λ o. is_over (way o)) (sym e) ∙ over))

  due_ending : (n : ℕ) → is_over (outcome_meant (program n).progress) ≡ true → (k : ℕ) × ((image k ≡ meant (program n)) ⊎ (is_full (way (image k)) ≡ true))
  due_ending n over = by (comes n)
    where
      by : (steps : ℕ) × (DoneAt n steps ⊎ FullFor n steps) → (k : ℕ) × ((image k ≡ meant (program n)) ⊎ (is_full (way (image k)) ≡ true))
      by (steps, inl at) = let d = does steps in (d.0, inl (d.1 ∙ at.same))
      by (steps, inr f) = let d = does steps in (d.0, inr (ap (λ o. is_full (way o)) d.1 ∙ full_is_full n steps f))

  no_bad_end : (k : ℕ) → is_bad (way (image k)) ≡ false
  no_bad_end k = by (is_bad (way (image k))) refl
    where
      by : (b : Bool) → is_bad (way (image k)) ≡ b → is_bad (way (image k)) ≡ false
      by false e = e
      by true e = let s = stood k (bad_ended _ e) in ap (λ o. is_bad (way o)) s.1 ∙ fair s.0

  -- Full store and full stack.

  full_duly : (region : Region) (k : ℕ) → way (image k) ≡ full region → IsFullDuly (size_of sizes region) (λ m. taken m region) (image k).output program
  full_duly region k e =
      let s = stood k (ap is_running e) in
      by s.0 s.1 (ap way (sym s.1) ∙ e) (decided s.0 (ap is_running (ap way (sym s.1) ∙ e)))
    where
      passes : (n steps : ℕ) (f : FullFor n steps) → way (flat steps) ≡ full region → size_of sizes region < bytes_of (taken (program n) region)
      passes n steps f is = subst (λ r. size_of sizes r < bytes_of (taken (program n) r)) (same_region (sym f.full ∙ is)) f.passes

      due : (steps : ℕ) → image k ≡ flat steps → way (flat steps) ≡ full region → (m : ℕ) → bytes_of (taken (program m) region) ≤ size_of sizes region → IsPrefix (program m).output (image k).output
      due steps same is m l = reached (comes m)
        where
          ended : is_running (way (flat steps)) ≡ false
          ended = ap is_running is

          reached : (other : ℕ) × (DoneAt m other ⊎ FullFor m other) → IsPrefix (program m).output (image k).output
          reached (other, inl at) =
              subst (λ (o : Observed). IsPrefix (program m).output o.output) (sym same)
              (subst (λ (o : Observed). IsPrefix o.output (flat steps).output) at.same (all_written flat layers.flat_runs other steps ended))
          reached (other, inr f) =
              let one = ap way (ends_once flat layers.flat_runs other steps (full_ended _ (full_is_full m other f)) ended) ∙ is in
              absurd (omega (arith, l, passes m other f one))

      by : (steps : ℕ) → image k ≡ flat steps → way (flat steps) ≡ full region → (n : ℕ) × ((flat steps ≡ meant (program n)) ⊎ FullFor n steps) →
          IsFullDuly (size_of sizes region) (λ m. taken m region) (image k).output program
      by steps same is (n, inl at) = absurd (never_full (program n).progress (ap is_full (ap way (sym at) ∙ is)))
      by steps same is (n, inr f) = record { turns = n; passes = passes n steps f is; due = due steps same is }

  pub agrees : Agrees sizes image program
  agrees = record {
    prefix = prefix;
    growth = growth;
    meant_ending = meant_ending;
    due_ending = due_ending;
    full_duly = full_duly;
    no_bad_end = no_bad_end;
    no_misuse = layers.sound;
  }
