-- The table of regions of a routine in an image, by the words of names.
use Rattle.std.specs.Prelude.{ℕ, List, [], ◌∷◌, map}
use Rattle.clu_wir.specs.Adding.{Added}
use Rattle.clu_wir.specs.declared.region.Arm.{Arm}
use Rattle.clu_flat_meaning.specs.Image.{FlatArm, FlatRegion}

-- an arm for all others has no name, and the word 0
abbrev pub arm_word : (List ℕ → ℕ) → List ℕ → ℕ
arm_word word [] = 0
arm_word word (letter ∷ letters) = word (letter ∷ letters)

abbrev pub flat_arm : (List ℕ → ℕ) → Arm → FlatArm
flat_arm word a = record { name = arm_word word a.name; target = a.target; mark = a.mark }

abbrev pub flat_arms : (List ℕ → ℕ) → List Arm → List FlatArm
flat_arms word arms = map (flat_arm word) arms

abbrev pub flat_region : (List ℕ → ℕ) → Added → FlatRegion
flat_region word r = record { first = r.first; last = r.last; arms = flat_arms word r.arms }

abbrev pub table_of : (List ℕ → ℕ) → List Added → List FlatRegion
table_of word regions = map (flat_region word) regions
