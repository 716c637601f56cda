-- When an image stands for a program: for every input and all limits, what the image does on the machine is what the
-- program means, unless it finds a region full.
use Rattle.std.specs.Prelude.{◌≡◌, ◌≤◌, ◌<◌, ◌*◌, ◌⊎◌, ℕ, true, false, List}
use Rattle.rv_isa.specs.Image.{Contents, AreBytes}
use Rattle.rv_machine.specs.Emulation.{emulated, start}
use Rattle.rv_machine.specs.Limits.{Sizes, IsLimits}
use Rattle.rv_machine.specs.Snapshot.{IsPrefix}
use Rattle.clu_meaning.specs.Programs.{Program}
use Rattle.clu_meaning.specs.Run.{Seen, run}
use Rattle.laws_program.specs.Observed.{Region, full, Observed, is_full, is_bad, is_over, outcome_meant, meant, taken, shown, size_of}

-- the bytes that so many words of a meter are
abbrev pub bytes_of : ℕ → ℕ
bytes_of words = 8 * words

-- a region of so many bytes was found full rightly: at some time its meter passes them, and all has been written that the
-- program has written by any time at which its meter doesn't
pub record IsFullDuly (bytes : ℕ) (meter : Seen → ℕ) (written : List ℕ) (program : ℕ → Seen) : Type 0 where
  pub turns : ℕ
  pub passes : bytes < bytes_of (meter (program turns))
  pub due : (n : ℕ) → bytes_of (meter (program n)) ≤ bytes → IsPrefix (program n).output written

-- `image k` is what is observed of the image after k steps, `program n` what is seen of the program after n turns
pub record Agrees (sizes : Sizes) (image : ℕ → Observed) (program : ℕ → Seen) : Type 0 where
  -- what the image has written is a front of what the program has, at some time
  pub prefix : (k : ℕ) → (n : ℕ) × IsPrefix (image k).output (program n).output
  -- what the program has written is a front of what the image has, at some time, or the image is full
  pub growth : (n : ℕ) → (k : ℕ) × (IsPrefix (program n).output (image k).output ⊎ (is_full (image k).outcome ≡ true))
  -- the image finishes only as the program does, with its output
  pub meant_ending : (k : ℕ) → is_over (image k).outcome ≡ true → (n : ℕ) × (meant (program n) ≡ image k)
  -- and does so if the program finishes, or is full
  pub due_ending : (n : ℕ) → is_over (outcome_meant (program n).progress) ≡ true → (k : ℕ) × ((image k ≡ meant (program n)) ⊎ (is_full (image k).outcome ≡ true))
  -- a region is full only if its meter passes its size at some time
  pub full_duly : (region : Region) (k : ℕ) → (image k).outcome ≡ full region → IsFullDuly (size_of sizes region) (λ m. taken m region) (image k).output program
  -- no word that is no instruction, no load, store, range of bytes, jump or call that is not allowed
  pub no_bad_end : (k : ℕ) → is_bad (image k).outcome ≡ false
  -- some case of the meaning always applies, of the start too: no object is misused
  pub no_misuse : (n : ℕ) → is_bad (outcome_meant (program n).progress) ≡ false

-- what is observed of an image after so many steps
abbrev pub observed : Contents → Sizes → List ℕ → ℕ → Observed
observed image sizes input k = shown (emulated k (start image sizes input))

pub record Stands (image : Contents) (program : Program) (name : List ℕ) : Type 0 where
  pub agrees : (sizes : Sizes) → IsLimits sizes → (input : List ℕ) → AreBytes input → Agrees sizes (observed image sizes input) (run program name input)

-- ---- what follows of it

-- a program that finishes, its meters within the limits
pub record EndsWithin (sizes : Sizes) (m : Seen) : Type 0 where
  pub over : is_over (outcome_meant m.progress) ≡ true
  pub within : (region : Region) → bytes_of (taken m region) ≤ size_of sizes region

abbrev pub EndsAsMeant : Contents → Program → List ℕ → Type 0
EndsAsMeant image program name = (sizes : Sizes) → IsLimits sizes → (input : List ℕ) → AreBytes input → (n : ℕ) → EndsWithin sizes (run program name input n) →
    (k : ℕ) × (observed image sizes input k ≡ meant (run program name input n))

abbrev pub SameEnds : Program → Program → List ℕ → Type 0
SameEnds one other name = (sizes : Sizes) → IsLimits sizes → (input : List ℕ) → AreBytes input → (n : ℕ) → EndsWithin sizes (run one name input n) →
    (m : ℕ) × (meant (run other name input m) ≡ meant (run one name input n))
