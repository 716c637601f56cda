-- The words of a routine in the end: what names a label has its distance to where that stands.
use Rattle.std.specs.Prelude.{Bool, true, false, ℕ, ℤ, pos, ◌+ℤ◌, ◌-ℤ◌, ◌*ℤ◌, List, [], ◌∷◌, ◌++◌, Option, Some, None, length, replicate, slice_get, slice_set}
use Rattle.std.specs.List.{list_all}
use Rattle.std.specs.Int.{w32, saturate_signed}
use Rattle.clu_frames.specs.Plain.{Step}
use Rattle.rv_isa.specs.declared.instr.Instr.{Instr}
use Rattle.rv_isa.specs.declared.instr.Instr.TheVariants as instr
use Rattle.rv_select.specs.declared.words.Reference.{Reference}
use Rattle.rv_select.specs.Selection.{step_onto}
use Rattle.rv_select.specs.Written.{Written}

-- how many bytes it is from one word to another
abbrev pub bytes_between : ℕ → ℕ → ℤ
bytes_between from to = (pos to -ℤ pos from) *ℤ pos 4

-- a jump, a branch, or an ADDI after its AUIPC, with a distance from its own word
abbrev pub with_bytes : Instr → ℤ → Instr
with_bytes (instr.Jal link imm) bytes = instr.Jal link bytes
with_bytes (instr.Branch o left right imm) bytes = instr.Branch o left right bytes
with_bytes (instr.Imm o to from imm) bytes = instr.Imm o to from (saturate_signed w32 (bytes +ℤ pos 4))
with_bytes i bytes = i

abbrev pub landed_at : Option (Option ℕ) → Reference → List Instr → List Instr
landed_at (Some (Some place)) r code = slice_set code r.at (with_bytes r.instr (bytes_between r.at place))
landed_at _ r code = code

-- the words where an instruction has its distance
unfoldable pub landed : List (Option ℕ) → Reference → List Instr → List Instr
landed labels r code = landed_at (slice_get labels r.label) r code

abbrev pub all_landed : List (Option ℕ) → List Reference → List Instr → List Instr
all_landed labels [] code = code
all_landed labels (r ∷ rs) code = all_landed labels rs (landed labels r code)

unfoldable pub finished : Written → List Instr
finished w = all_landed w.labels w.references w.code

-- whether each label that an instruction names has a place
abbrev pub is_there : Option (Option ℕ) → Bool
is_there (Some (Some place)) = true
is_there _ = false

abbrev pub has_place : List (Option ℕ) → Reference → Bool
has_place labels r = is_there (slice_get labels r.label)

abbrev pub have_places : List (Option ℕ) → List Reference → Bool
have_places labels rs = list_all (has_place labels) rs

abbrev pub is_landed : Written → Bool
is_landed w = have_places w.labels w.references

-- no words yet
abbrev pub blank : ℕ → Written
blank labels = record { code = []; holes = []; labels = replicate labels None; references = []; fits = true }

-- steps of a routine whose frame has so many slots, one after the other
abbrev pub steps_onto : ℕ → List Step → Written → Written
steps_onto frame [] w = w
steps_onto frame (s ∷ ss) w = steps_onto frame ss (step_onto frame s w)

-- what is written of all steps; each label is a step, and labels are numbered from 0
abbrev pub all_onto : ℕ → List Step → Written
all_onto frame steps = steps_onto frame steps (blank (length steps))

-- the word at which each step begins, and the number of words behind them all
abbrev pub starts_behind : ℕ → List ℕ → List Step → Written → List ℕ
starts_behind frame before [] w = before ++ length w.code ∷ []
starts_behind frame before (s ∷ ss) w = starts_behind frame (before ++ length w.code ∷ []) ss (step_onto frame s w)

abbrev pub all_starts : ℕ → List Step → List ℕ
all_starts frame steps = starts_behind frame [] steps (blank (length steps))
