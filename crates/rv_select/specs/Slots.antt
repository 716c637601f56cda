-- Words at any distance from a register, and those of a frame.
use Rattle.std.specs.Prelude.{ℕ, ◌+◌, ◌-◌, ◌*◌, ◌^◌, min, ℤ, pos, Bool, ◌&&◌, [], ◌∷◌, if◌then◌else◌, int_le}
use Rattle.std.specs.Int.{w32, int_shl, int_shr, int_wrapping_sub}
use Rattle.std.specs.Ordering.{int_eq}
use Rattle.clu_frames.specs.declared.flat.TheConstants.{FOOT}
use Rattle.rv_isa.specs.declared.op.Op.TheVariants as op
use Rattle.rv_select.specs.declared.register.Register.{Register}
use Rattle.rv_select.specs.declared.register.Register.TheVariants.{Far, Frame}
use Rattle.rv_select.specs.Written.{Onto, Written, addi_onto, in_turn, ld_onto, sd_onto, three_onto, upper_onto}

-- the low 12 bits of a number, with the upmost of them as its sign, and what is left of it
abbrev pub lowest : ℤ → ℤ
lowest number = int_shr (int_shl w32 number 20) 20

abbrev pub above_lowest : ℤ → ℤ
above_lowest number = int_wrapping_sub w32 number (lowest number)

abbrev pub is_near : ℤ → Bool
is_near distance = int_eq (above_lowest distance) (pos 0)

-- the register from which an immediate reaches the distance from a register
abbrev pub near_base : Register → ℤ → Register
near_base base distance = if is_near distance then base else Far

-- whether LUI and an immediate reach it
abbrev pub is_reached : ℤ → Bool
is_reached distance = int_le distance (pos (2 ^ 31 - 2049))

abbrev pub reaching : ℤ → Onto
reaching distance w = record w { fits = w.fits && is_reached distance }

abbrev pub nearer_onto : Register → ℤ → Onto
nearer_onto base distance w =
    if is_near distance then w else in_turn (upper_onto op.Lui Far (above_lowest distance) ∷ three_onto op.Add Far Far base ∷ []) w

abbrev pub near_onto : Register → ℤ → Onto
near_onto base distance w = nearer_onto base distance (reaching distance w)

abbrev pub load_at_onto : Register → Register → ℤ → Onto
load_at_onto to base distance = in_turn (near_onto base distance ∷ ld_onto to (near_base base distance) (lowest distance) ∷ [])

abbrev pub save_at_onto : Register → Register → ℤ → Onto
save_at_onto from base distance = in_turn (near_onto base distance ∷ sd_onto from (near_base base distance) (lowest distance) ∷ [])

abbrev pub address_at_onto : Register → Register → ℤ → Onto
address_at_onto to base distance = in_turn (near_onto base distance ∷ addi_onto to (near_base base distance) (lowest distance) ∷ [])

-- how far a word of a frame, and a slot, is from the frame's place
abbrev pub word_distance : ℕ → ℤ
word_distance word = pos (word * 8)

abbrev pub slot_distance : ℕ → ℤ
slot_distance slot = word_distance (min (slot + FOOT) (2 ^ 32 - 1))

abbrev pub load_slot_onto : Register → ℕ → Onto
load_slot_onto to slot = load_at_onto to Frame (slot_distance slot)

abbrev pub save_slot_onto : Register → ℕ → Onto
save_slot_onto from slot = save_at_onto from Frame (slot_distance slot)

abbrev pub slot_address_onto : Register → ℕ → Onto
slot_address_onto to slot = address_at_onto to Frame (slot_distance slot)

-- the slot after another
abbrev pub next_slot : ℕ → ℕ
next_slot slot = min (slot + 1) (2 ^ 32 - 1)
