-- What is written grows, and how it stands in the code of the machine in the end.
use Rattle.std.specs.Prelude.{◌≡◌, ◌≢◌, true, ℕ, ℤ, pos, suc, ◌+◌, ◌*◌, ◌%◌, ◌^◌, ◌<◌, ◌≤◌, List, [], ◌∷◌, ◌++◌, length, slice_get, Some}
use Rattle.clu_wir.specs.declared.hole.HoleKind.{HoleKind}
use Rattle.clu_wir.specs.Numbers.{kind_number}
use Rattle.clu_object.specs.declared.object.Hole.{Hole}
use Rattle.rv_isa.specs.declared.instr.Instr.{Instr}
use Rattle.rv_isa.specs.declared.instr.Instr.TheVariants as instr
use Rattle.rv_isa.specs.declared.op.Op.TheVariants as op
use Rattle.rv_machine.specs.Values.{sum, unsigned}
use Rattle.rv_select.specs.declared.words.Reference.{Reference}
use Rattle.rv_select.specs.Finished.{finished}
use Rattle.rv_select.specs.Written.{Written}
use Rattle.laws_selection.specs.Running.{At, Code}

abbrev pub Behind : ℕ → List Reference → Type 0
Behind n [] = Unit {0}
Behind n (r ∷ rs) = (n ≤ r.at) × Behind n rs

abbrev pub Before : ℕ → List Reference → Type 0
Before n [] = Unit {0}
Before n (r ∷ rs) = (r.at < n) × Before n rs

-- the two words of each hole stand from a number on, or below one
abbrev pub HolesBehind : ℕ → List Hole → Type 0
HolesBehind n [] = Unit {0}
HolesBehind n (h ∷ hs) = (n ≤ h.at) × HolesBehind n hs

abbrev pub HolesBefore : ℕ → List Hole → Type 0
HolesBefore n [] = Unit {0}
HolesBefore n (h ∷ hs) = (suc h.at < n) × HolesBefore n hs

-- each reference is at a word that is there, and so are the two words of each hole
pub record Sound (w : Written) : Type 0 where
  pub before : Before (length w.code) w.references
  pub filled : HolesBefore (length w.code) w.holes

-- words, references and holes are added, these at words that are added
pub record Extends (w v : Written) : Type 0 where
  pub words : List Instr
  pub code : v.code ≡ w.code ++ words
  pub more : List Reference
  pub references : v.references ≡ w.references ++ more
  pub behind : Behind (length w.code) more
  pub within : Before (length v.code) more
  pub others : List Hole
  pub holes : v.holes ≡ w.holes ++ others
  pub holes_behind : HolesBehind (length w.code) others
  pub holes_within : HolesBefore (length v.code) others
  -- what did not fit is seen to the end
  pub fits : v.fits ≡ true → w.fits ≡ true

-- beside, labels that are there stay as they are
pub record Adds (w v : Written) : Type 0 where
  pub extends : Extends w v
  pub below : (l : ℕ) → l < length w.labels → slice_get v.labels l ≡ slice_get w.labels l
  pub count : length w.labels ≤ length v.labels

-- beside, labels that have a place keep it
pub record Front (w v : Written) : Type 0 where
  pub extends : Extends w v
  pub places : (l p : ℕ) → slice_get w.labels l ≡ Some (Some p) → slice_get v.labels l ≡ Some (Some p)

-- How what is written in the end stands in the code of the machine, from an address on.

abbrev pub address : ℕ → ℕ → ℕ
address base k = (base + 4 * k) % 2 ^ 64

-- no hole has the word of this number
abbrev pub IsUnholed : ℕ → List Hole → Type 0
IsUnholed k [] = Unit {0}
IsUnholed k (h ∷ hs) = (k ≢ h.at) × (k ≢ suc h.at) × IsUnholed k hs

-- the address that a hole gives, in a LUI and an ADDI
pub record Holed (code : Code) (at to hole : ℕ) : Type 0 where
  pub high : ℤ
  pub low : ℤ
  pub upper : At code at (instr.Upper op.Lui to high)
  pub adds : At code (sum at 4) (instr.Imm op.Addi to to low)
  pub whole : sum (unsigned high) (unsigned low) ≡ hole

-- each word is there that no hole has, and the two words of a hole give what the linker knows; all fits
pub record Stands (W : Written) (code : Code) (base : ℕ) (hole : HoleKind → ℕ → ℕ) : Type 0 where
  pub aligned : base % 4 ≡ 0
  pub fits : W.fits ≡ true
  pub few : length W.code < 2 ^ 32
  pub plain : (k : ℕ) (i : Instr) → slice_get (finished W) k ≡ Some i → IsUnholed k W.holes → At code (address base k) i
  pub filled : (kind : HoleKind) (number to k n : ℕ) → slice_get W.holes n ≡ Some (record { at = k; kind = kind_number kind; number = number }) →
      slice_get (finished W) k ≡ Some (instr.Upper op.Lui to (pos 0)) → slice_get (finished W) (suc k) ≡ Some (instr.Imm op.Addi to to (pos 0)) →
      Holed code (address base k) to (hole kind number)
