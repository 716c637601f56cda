-- What a store shows of a file that a command reads.
use Rattle.std.specs.Prelude.{◌≡◌, ℕ, List, Option, Some, None, IfSome}
use Rattle.clu_base.specs.Outside.{Files, Rose}
use Rattle.clu_outcome.specs.declared.outcome.Outcome.{Outcome}
use Rattle.clu_outcome.specs.declared.outcome.Outcome.TheVariants as outcome

-- where files are told, the file of this name has content of which this holds
abbrev pub IsFound : Option Files → List ℕ → (List ℕ → Type 0) → Type 0
IsFound files name P = IfSome files (λ all. (bytes : List ℕ) × (all name ≡ Some bytes) × P bytes)

-- where files are told, this holds of what is under the name: a content, or none
abbrev pub IsUnder : Option Files → List ℕ → (Option (List ℕ) → Type 0) → Type 0
IsUnder files name P = IfSome files (λ all. P (all name))

-- why it is not known what a file has, if anything: the store failed, or memory was refused
abbrev pub NotHad : Outcome → List ℕ → ℕ → ℕ → Type 0
NotHad (outcome.FileFault n) name faults faults' = (n.now ≡ name) × Rose faults faults'
NotHad outcome.Memory name faults faults' = Unit {0}
NotHad _ name faults faults' = ⊥

-- why a file was not read: there is none, the store failed, or memory was refused
abbrev pub NotRead : Outcome → List ℕ → Option Files → ℕ → ℕ → Type 0
NotRead (outcome.NoFile n) name files faults faults' = (n.now ≡ name) × IfSome files (λ all. all name ≡ None)
NotRead (outcome.FileFault n) name files faults faults' = (n.now ≡ name) × Rose faults faults'
NotRead outcome.Memory name files faults faults' = Unit {0}
NotRead _ name files faults faults' = ⊥
