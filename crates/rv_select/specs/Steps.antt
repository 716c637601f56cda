-- What each step of flat code becomes, but for those of expressions.
use Rattle.std.specs.Prelude.{ℕ, suc, ℤ, pos, negsuc, [], ◌∷◌, length, Option, Some, None, zero}
use Rattle.clu_wir.specs.declared.hole.HoleKind.TheVariants as kind
use Rattle.clu_wir.specs.declared.primitive.Primitive.{Primitive}
use Rattle.clu_wir.specs.declared.primitive.Primitive.TheVariants as primitive
use Rattle.rv_isa.specs.declared.op.Op.TheVariants as op
use Rattle.rv_select.specs.declared.parts.Part.{Part}
use Rattle.rv_select.specs.declared.parts.Part.TheVariants as part
use Rattle.rv_select.specs.declared.register.Register.{Register}
use Rattle.rv_select.specs.declared.register.Register.TheVariants.{Back, Caller, First, Frame, Second, StackEnd, Store, StoreEnd, Table, Top, Value, Words, Zero}
use Rattle.rv_select.specs.Parts.{part_number}
use Rattle.rv_select.specs.Slots.{address_at_onto, load_at_onto, load_slot_onto, next_slot, save_slot_onto, slot_address_onto, slot_distance, word_distance}
use Rattle.rv_select.specs.Written.{Onto, addi_onto, address_onto, copy_onto, fresh, hole_onto, imm_onto, in_turn, jalr_onto, ld_onto, placed, save_onto, sd_onto, service_onto, service_unless_onto, three_onto}

-- the address of a part of the runtime
abbrev pub part_onto : Register → Part → Onto
part_onto to p = hole_onto to kind.Runtime (part_number p)

-- Calls.

-- the run ends where the new top of the stack is beyond its end
abbrev pub room_onto : Onto
room_onto = service_unless_onto op.Bgeu StackEnd Second (pos 3)

abbrev pub argument_onto : ℕ → Onto
argument_onto n = in_turn (load_at_onto First Value (word_distance n) ∷ save_slot_onto First n ∷ [])

abbrev pub arguments_onto : ℕ → Onto
arguments_onto zero w = w
arguments_onto (suc n) w = argument_onto n (arguments_onto n w)

abbrev pub enter_onto : ℕ → ℕ → Onto
enter_onto arguments frame =
    in_turn
    (address_at_onto Second Top (slot_distance frame) ∷ room_onto ∷ sd_onto Back Top (pos 0) ∷ sd_onto Frame Top (pos 8) ∷ sd_onto Caller Top (pos 16)
    ∷ sd_onto Second Top (pos 24) ∷ copy_onto Frame Top ∷ copy_onto Top Second ∷ arguments_onto arguments ∷ [])

abbrev pub take_onto : ℕ → Onto
take_onto to = save_slot_onto Value to

abbrev pub result_onto : ℕ → ℕ → Onto
result_onto to number = in_turn (load_at_onto First Words (word_distance number) ∷ save_slot_onto First to ∷ [])

abbrev pub caller_onto : Onto
caller_onto = in_turn (ld_onto Table Frame (pos 16) ∷ ld_onto Frame Frame (pos 8) ∷ [])

-- the frame is taken away
abbrev pub left_onto : Register → Onto
left_onto to = in_turn (ld_onto Back Frame (pos 0) ∷ copy_onto Top Frame ∷ caller_onto ∷ jalr_onto Zero to (pos 0) ∷ [])

abbrev pub results_onto : ℕ → ℕ → Onto
results_onto slot zero w = w
results_onto slot (suc zero) w = load_slot_onto Value slot w
results_onto slot (suc (suc more)) w = slot_address_onto Words slot w

abbrev pub leave_onto : ℕ → ℕ → Onto
leave_onto slot count = in_turn (results_onto slot count ∷ left_onto Back ∷ [])

-- Exceptions.

abbrev pub exception_onto : ℕ → Onto
exception_onto slot = in_turn (load_slot_onto Value slot ∷ slot_address_onto Words (next_slot slot) ∷ [])

abbrev pub raise_onto : ℕ → Onto
raise_onto slot = in_turn (exception_onto slot ∷ part_onto First part.Search ∷ jalr_onto Back First (pos 0) ∷ [])

abbrev pub pass_onto : Onto
pass_onto = in_turn (part_onto First part.Search ∷ left_onto First ∷ [])

abbrev pub signal_onto : ℕ → Onto
signal_onto slot = in_turn (exception_onto slot ∷ pass_onto ∷ [])

abbrev pub cut_onto : ℕ → Onto
cut_onto mark = load_at_onto Top Frame (word_distance mark)

-- Iterators. A record has three words.

abbrev pub yielded_onto : ℕ → ℕ → Onto
yielded_onto slot zero w = w
yielded_onto slot (suc more) w = slot_address_onto Words slot w

abbrev pub yield_onto : ℕ → ℕ → Onto
yield_onto slot count w =
    in_turn
    (fresh ∷ addi_onto Second Top (pos 24) ∷ room_onto ∷ yielded_onto slot count ∷ address_onto First (length w.labels) ∷ sd_onto First Top (pos 0)
    ∷ sd_onto Frame Top (pos 8) ∷ sd_onto Table Top (pos 16) ∷ copy_onto Value Second ∷ copy_onto Top Second ∷ ld_onto First Frame (pos 0) ∷ caller_onto
    ∷ jalr_onto Zero First (pos 4) ∷ placed (length w.labels) ∷ [])
    w

abbrev pub resume_onto : ℕ → Onto
resume_onto slot =
    in_turn
    (load_slot_onto First slot ∷ addi_onto Top First (negsuc 23) ∷ ld_onto Second Top (pos 0) ∷ ld_onto Frame Top (pos 8) ∷ ld_onto Table Top (pos 16)
    ∷ jalr_onto Zero Second (pos 0) ∷ [])

-- Primitives.

abbrev pub read_onto : ℤ → ℕ → Onto
read_onto service slot = in_turn (service_onto service ∷ save_slot_onto Value slot ∷ [])

abbrev pub primitive_onto : Primitive → ℕ → Onto
primitive_onto primitive.Allocate slot =
    in_turn
    (load_slot_onto First slot ∷ three_onto op.Sub Second StoreEnd Store ∷ imm_onto op.Srli Second Second (pos 3)
    ∷ service_unless_onto op.Bgeu Second First (pos 2) ∷ save_slot_onto Store slot ∷ imm_onto op.Slli First First (pos 3) ∷ three_onto op.Add Store Store First ∷ [])
primitive_onto primitive.Write slot = in_turn (load_slot_onto Value slot ∷ load_slot_onto Words (next_slot slot) ∷ service_onto (pos 4) ∷ [])
primitive_onto primitive.TakeByte slot = read_onto (pos 5) slot
primitive_onto primitive.PeekByte slot = read_onto (pos 6) slot
primitive_onto primitive.SaveByte slot = in_turn (load_slot_onto First slot ∷ load_slot_onto Second (next_slot slot) ∷ save_onto op.Sb Second First (pos 0) ∷ [])

-- the primitive of a number; there is none of another number
abbrev pub numbered_onto : Option Primitive → ℕ → Onto
numbered_onto None slot w = w
numbered_onto (Some p) slot w = primitive_onto p slot w
