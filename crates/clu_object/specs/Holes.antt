-- The holes of a routine's code.
use Rattle.std.specs.Prelude.{ℕ, Bool, true, false, List, [], ◌∷◌, Option, Some, ◌+◌, ◌*◌, ◌/◌, ◌%◌, ◌^◌, ◌&&◌, ◌==◌, nat_le, nat_lt, slice_get, length, if◌then◌else◌}
use Rattle.clu_object.specs.declared.object.Hole.{Hole}
use Rattle.clu_object.specs.declared.object.ObjRoutine.{ObjRoutine}

-- whether the words are a LUI and an ADDI of one register ("RV32/64G Instruction Set Listings" in the RISC-V unprivileged
-- specification): the opcode of LUI, and opcode, registers and funct3 of ADDI, whose registers are both that of the LUI
abbrev pub is_pair : ℕ → ℕ → Bool
is_pair upper lower = (upper % 2 ^ 7 == 0x37) && (lower % 2 ^ 20 == 0x13 + 0x8080 * (upper / 2 ^ 7 % 2 ^ 5))

abbrev pub is_pair_of : Option ℕ → Option ℕ → Bool
is_pair_of (Some upper) (Some lower) = is_pair upper lower
is_pair_of _ _ = false

-- whether such words stand from this place on
abbrev pub is_pair_at : List ℕ → ℕ → Bool
is_pair_at code at = is_pair_of (slice_get code at) (slice_get code (at + 1))

-- whether each hole covers such words, from `least` on, each after the words of the one before
abbrev pub are_holes : List ℕ → ℕ → List Hole → Bool
are_holes code least [] = true
are_holes code least (h ∷ rest) = nat_le least h.at && is_pair_at code h.at && are_holes code (h.at + 2) rest

-- whether a hole's kind is one of the nine, and the item of that kind that it names is there; of the kinds that are not
-- counted in a routine any number of four bytes is
abbrev pub is_named : ℕ → ℕ → ℕ → ℕ → Hole → Bool
is_named uses constants types words h = if nat_le h.kind 1 then nat_lt h.number uses else (if h.kind == 2 then nat_lt h.number constants else (if h.kind == 5 then nat_lt h.number types else (if h.kind == 8 then nat_lt h.number words else (nat_lt h.kind 8 && nat_le h.number 0xffff_ffff))))

abbrev pub are_named : ℕ → ℕ → ℕ → ℕ → List Hole → Bool
are_named uses constants types words [] = true
are_named uses constants types words (h ∷ rest) = is_named uses constants types words h && are_named uses constants types words rest

-- whether the holes of a routine are as an object's are
abbrev pub has_holes : ObjRoutine → Bool
has_holes r = are_holes r.code 0 r.holes && are_named (length r.uses) (length r.constants) (length r.types) (length r.code) r.holes
