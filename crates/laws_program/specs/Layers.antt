-- What the layers between a program and its image have to give. Each is a run of its own: the program, its word code, its
-- flat code, its image; what is said of two neighbours names no other, and nothing is said where the upper one is bad.
use Rattle.std.specs.Prelude.{◌≡◌, ◌≤◌, ◌<◌, ◌+◌, ◌*◌, ◌⊎◌, ℕ, true, false}
use Rattle.rv_machine.specs.Limits.{Sizes}
use Rattle.rv_machine.specs.Snapshot.{IsPrefix}
use Rattle.clu_meaning.specs.Run.{Seen}
use Rattle.laws_program.specs.Observed.{Region, store, full, Observed, is_running, is_bad, meant, taken, size_of, IsRun}
use Rattle.laws_program.specs.Stands.{bytes_of}

-- what is observed of a run, and its meter of each region, in words
pub record Metered : Type 0 where
  pub observed : Observed
  pub words : Region → ℕ

abbrev pub metered : Seen → Metered
metered m = record { observed = meant m; words = taken m }

-- the most turns that a program has spent while its code has spent so many. The texts of built-in operations turn more
-- often than the code that stands for them
abbrev pub turns_within : ℕ → ℕ
turns_within turns = 8 * turns + 8

-- Word code with `at` turns is observed as the program with n turns is, and its meters are no higher.
pub record IsLoweredAt (program code : Metered) (n at : ℕ) : Type 0 where
  pub same : code.observed ≡ program.observed
  pub words : (region : Region) → code.words region ≤ program.words region
  pub in_time : is_running program.observed.outcome ≡ true → n ≤ turns_within at

-- Objects have no bound and words have one: where the program takes more than there are addresses, its code is only known
-- to be on the way there, past the limit.
pub record IsPast (sizes : Sizes) (program code : Metered) : Type 0 where
  pub running : is_running code.observed.outcome ≡ true
  pub passes : size_of sizes store < bytes_of (code.words store)
  pub words : (region : Region) → code.words region ≤ program.words region
  pub front : IsPrefix code.observed.output program.observed.output

abbrev pub IsLowered : Sizes → (ℕ → Metered) → (ℕ → Metered) → Type 0
IsLowered sizes program code = (n : ℕ) → is_bad (program n).observed.outcome ≡ false → (at : ℕ) × (IsLoweredAt (program n) (code at) n at ⊎ IsPast sizes (program n) (code at))

-- A run with limits is full in a region whose size the code's meter passes. It has written no more than the code does.
pub record IsFullAt (sizes : Sizes) (code : Metered) (flat : Observed) : Type 0 where
  pub region : Region
  pub full : flat.outcome ≡ full region
  pub passes : size_of sizes region < bytes_of (code.words region)
  pub front : IsPrefix flat.output code.observed.output

-- Flat code after some steps is observed as word code with so many turns is, and has made a step for each of these.
pub record IsFlatAt (sizes : Sizes) (code : Metered) (flat : Observed) (turns steps : ℕ) : Type 0 where
  pub same : flat ≡ code.observed
  pub fits : bytes_of (code.words store) ≤ size_of sizes store
  pub in_time : is_running code.observed.outcome ≡ true → turns ≤ steps

abbrev pub IsFlattened : Sizes → (ℕ → Metered) → (ℕ → Observed) → Type 0
IsFlattened sizes code flat = (turns : ℕ) → is_bad (code turns).observed.outcome ≡ false → (steps : ℕ) × (IsFlatAt sizes (code turns) (flat steps) turns steps ⊎ IsFullAt sizes (code turns) (flat steps))

-- The image does each step of flat code, and meets a step of flat code again from wherever it is.
pub record IsSelected (flat image : ℕ → Observed) : Type 0 where
  pub does : (steps : ℕ) → is_bad (flat steps).outcome ≡ false → (k : ℕ) × (image k ≡ flat steps)
  pub meets : ((steps : ℕ) → is_bad (flat steps).outcome ≡ false) → (k : ℕ) → (more : ℕ) × (steps : ℕ) × (image (k + more) ≡ flat steps)

-- All of them, for one program and its image under these limits and with one input.
pub record Layers (sizes : Sizes) (program : ℕ → Seen) (image : ℕ → Observed) : Type 0 where
  pub code : ℕ → Metered
  pub flat : ℕ → Observed
  pub flat_runs : IsRun flat
  pub lowered : IsLowered sizes (λ n. metered (program n)) code
  pub flattened : IsFlattened sizes code flat
  pub selected : IsSelected flat image
  pub sound : (n : ℕ) → is_bad (meant (program n)).outcome ≡ false
