-- Where the words of expressions are, and the registers that are free.
use Rattle.std.specs.Prelude.{ℕ, ◌*◌, ◌^◌, ◌%◌, ◌==◌, ℤ, Bool, false, ◌&&◌, ◌||◌, pos, if◌then◌else◌, List, [], ◌∷◌, bit_and, bit_or}
use Rattle.std.specs.Int.{w64, cast_signed, int_shl, int_shr, int_wrapping_sub}
use Rattle.std.specs.Ordering.{int_eq}
use Rattle.rv_isa.specs.declared.op.Op.TheVariants as op
use Rattle.rv_select.specs.declared.operand.Operand.{Operand}
use Rattle.rv_select.specs.declared.operand.Operand.TheVariants.{At, Known}
use Rattle.rv_select.specs.declared.operand.Scope.{Scope}
use Rattle.rv_select.specs.declared.register.Register.{Register}
use Rattle.rv_select.specs.declared.register.Register.TheVariants.{Far, First, Zero}
use Rattle.rv_select.specs.declared.register.TheConstants.{WORK}
use Rattle.rv_select.specs.Registers.{register_number}
use Rattle.rv_select.specs.Slots.{above_lowest, lowest}
use Rattle.rv_select.specs.Written.{Onto, Written, addi_onto, copy_onto, imm_onto, in_turn, three_onto, upper_onto}

-- Known words in registers: one of 32 bits, and the lower half of one of 64 bits, with a sign for which the upper half makes up.

unfoldable pub short_onto : Register → ℤ → Onto
short_onto to number w =
    if int_eq (above_lowest number) (pos 0) then addi_onto to Zero (lowest number) w
    else in_turn (upper_onto op.Lui to (above_lowest number) ∷ imm_onto op.Addiw to to (lowest number) ∷ []) w

unfoldable pub lower_half : ℤ → ℤ
lower_half number = int_shr (int_shl w64 number 32) 32

abbrev pub upper_half : ℤ → ℤ
upper_half number = int_shr (int_wrapping_sub w64 number (lower_half number)) 32

unfoldable pub number_onto : Register → ℤ → Onto
number_onto to number w =
    if int_eq (lower_half number) number then short_onto to number w
    else in_turn (short_onto to (upper_half number) ∷ imm_onto op.Slli to to (pos 32) ∷ short_onto Far (lower_half number) ∷ three_onto op.Add to to Far ∷ []) w

abbrev pub known_onto : Register → ℕ → Onto
known_onto to word = number_onto to (cast_signed w64 word)

-- Words in registers: the one that holds a word already, and otherwise the one that it is given to.

abbrev pub register_of : Operand → Register → Register
register_of (At r) to = r
register_of (Known word) to = if word == 0 then Zero else to

unfoldable pub register_onto : Operand → Register → Onto
register_onto (At r) to w = w
register_onto (Known word) to w = if word == 0 then w else known_onto to word w

unfoldable pub put_onto : Operand → Register → Onto
put_onto (At r) to w = if register_number r == register_number to then w else copy_onto to r w
put_onto (Known word) to w = known_onto to word w

-- Free registers.

abbrev pub bit : Register → ℕ
bit r = 1 * 2 ^ (register_number r % 32) % 2 ^ 32

abbrev pub bit_of : Operand → ℕ
bit_of (At r) = bit r
bit_of (Known word) = 0

abbrev pub free_among : ℕ → List Register → Register
free_among kept [] = First
free_among kept (r ∷ rs) = if bit_and kept (bit r) == 0 then r else free_among kept rs

-- the first register of work whose bit is not in the set
unfoldable pub free_of : ℕ → Register
free_of kept = free_among kept WORK

abbrev pub has_free_among : ℕ → List Register → Bool
has_free_among kept [] = false
has_free_among kept (r ∷ rs) = (bit_and kept (bit r) == 0) || has_free_among kept rs

unfoldable pub has_free_of : ℕ → Bool
has_free_of kept = has_free_among kept WORK

abbrev pub has_free : Scope → Bool
has_free s = has_free_of s.kept

-- a free register is taken
abbrev pub taking : Scope → Onto
taking s w = record w { fits = w.fits && has_free s }

abbrev pub free : Scope → Register
free s = free_of s.kept

abbrev pub keeping : Operand → Scope → Scope
keeping o s = record s { kept = bit_or s.kept (bit_of o) }

-- at the start of a step nothing is kept or bound
abbrev pub unbound : Bool → Scope
unbound is_leaf = record { is_leaf = is_leaf; kept = 0; bound = Known 0 ∷ Known 0 ∷ Known 0 ∷ Known 0 ∷ [] }
