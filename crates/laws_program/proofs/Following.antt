-- What follows of an image that stands for a program.
use Rattle.std.proofs.Common.{◌≡◌, ◌∙◌, ◌≤◌, ◌<◌, ℕ, true, List, refl, ap, subst, inl, inr, arith}
use Rattle.std.specs.Prelude.{◌⊎◌}
use Rattle.std.proofs.lemmas.Bool.{false≢true, cases_lt}
use Rattle.rv_isa.specs.Image.{Contents}
use Rattle.rv_machine.specs.Limits.{Sizes}
use Rattle.clu_meaning.specs.Programs.{Program}
use Rattle.clu_meaning.specs.Run.{Seen, run}
use Rattle.laws_program.specs.Observed.{Region, Outcome, running, returned, bad, failed, full, Observed, is_full, is_over, meant, taken, size_of}
use Rattle.laws_program.specs.Stands.{bytes_of, observed, Agrees, Stands, EndsWithin, EndsAsMeant, SameEnds}
use Rattle.laws_program.proofs.Meant.{grown, stays}

pub region_full : (o : Outcome) → is_full o ≡ true → (region : Region) × (o ≡ full region)
region_full (full region) e = (region, refl)
region_full running e = absurd (false≢true e)
region_full returned e = absurd (false≢true e)
region_full bad e = absurd (false≢true e)
region_full (failed text) e = absurd (false≢true e)

module _ (sizes : Sizes) (program : Program) (name input : List ℕ) (image : ℕ → Observed) (agrees : Agrees sizes image (run program name input)) where
  -- a program that ends within the limits never passes them
  never_passes : (n : ℕ) → EndsWithin sizes (run program name input n) → (region : Region) (turns : ℕ) → size_of sizes region < bytes_of (taken (run program name input turns) region) → ⊥
  never_passes n ends region turns passes = by (cases_lt turns n)
    where
      by : (turns < n) ⊎ (n ≤ turns) → ⊥
      by (inl l) = omega (arith, passes, ends.within region, (grown program name input turns n (omega (arith, l))).words region)
      by (inr l) = omega (arith, ends.within region, subst (λ (m : Seen). size_of sizes region < bytes_of (taken m region)) (stays program name input n turns l ends.over) passes)

  pub ends : (n : ℕ) → EndsWithin sizes (run program name input n) → (k : ℕ) × (image k ≡ meant (run program name input n))
  ends n within = by (agrees.due_ending n within.over)
    where
      by : (k : ℕ) × ((image k ≡ meant (run program name input n)) ⊎ (is_full (image k).outcome ≡ true)) → (k : ℕ) × (image k ≡ meant (run program name input n))
      by (k, inl same) = (k, same)
      by (k, inr e) =
          let region = region_full _ e in
          let duly = agrees.full_duly region.0 k region.1 in
          absurd (never_passes n within region.0 duly.turns duly.passes)

pub ends_as_meant : (image : Contents) (program : Program) (name : List ℕ) → Stands image program name → EndsAsMeant image program name
ends_as_meant image program name stands sizes limits input bytes = ends sizes program name input (observed image sizes input) (stands.agrees sizes limits input bytes)

pub one_meaning : (image : Contents) (one other : Program) (name : List ℕ) → Stands image one name → Stands image other name → SameEnds one other name
one_meaning image one other name stands also sizes limits input bytes n within =
    let here = ends_as_meant image one name stands sizes limits input bytes n within in
    let there = (also.agrees sizes limits input bytes).meant_ending here.0 (ap (λ (o : Observed). is_over o.outcome) here.1 ∙ within.over) in
    (there.0, there.1 ∙ here.1)
