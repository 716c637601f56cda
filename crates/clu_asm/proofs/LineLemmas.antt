-- Lines: no byte 10 stands in a line's text, so that a text has one list of lines.

use Rattle.std.proofs.Common.{◌≡◌, ℕ, zero, suc, ◌+◌, ◌*◌, ◌/◌, ◌%◌, ◌^◌, ◌<◌, ◌≤◌, ◌==◌, ◌≢◌, ◌⊎◌, ℤ, List, [], ◌∷◌, ◌++◌, length, codes, decimal, take, drop, slice_index, vec_len, Option, Some, None, Result, Ok, refl, sym, ap, ◌∙◌, arith, inl, inr, append_assoc, length-append}
use Rattle.std.specs.Fmt.{signed_decimal}
use Rattle.std.specs.Int.{w32, to_be_bytes}
use lib.Signed.{mag}
use Rattle.hex.specs.Hex.{IsBytes, encode_with, encode_lower, lower_digits, hex_digit_value}
use Rattle.hex.proofs.HexLemmas.{IsDigits-lower_digits}
use Rattle.rv_isa.specs.declared.op.Op.{Op}
use Rattle.rv_isa.specs.declared.op.Op.TheVariants as op
use Rattle.rv_isa.specs.declared.instr.Instr.{Instr}
use Rattle.rv_isa.specs.declared.instr.Instr.TheVariants.{Upper, Jal, Jalr, Branch, Load, Save, Imm, Three, Fence, Ecall, Ebreak}
use Rattle.rv_isa.specs.Valid.{IsInstr}
use Rattle.rv_isa.specs.Image.{AreBytes}
use Rattle.clu_asm.specs.declared.mnemonics.Mnemonic.{Mnemonic}
use Rattle.clu_asm.specs.declared.mnemonics.Mnemonic.TheVariants as mnemonic
use Rattle.clu_asm.specs.Mnemonics.{op_name, name_of, mnemonic_of}
use Rattle.clu_asm.specs.AssemblyText.{register, number, operands, instr_text, word_text, code_text, line, code_line, entry_line, row_line}
use Rattle.clu_asm.specs.Places.{place, before, after, IsFree}
use Rattle.clu_asm.specs.Lines.{NoCode, NoRow}
use Rattle.clu_asm.proofs.PlaceLemmas.{place_after, before_is, after_is, free_nil, free_cons, free_append}
use Rattle.clu_asm.proofs.GuessLemmas.{free_decimal, free_signed, free_register, code_cases, within_small, amount_small, fits_small}
use Rattle.clu_asm.proofs.HexTexts.{sized_again, bytes_from, word_bytes}

pub line_is : (text rest : List ℕ) → line text ++ rest ≡ text ++ 10 ∷ rest
line_is text rest = append_assoc text (10 ∷ []) rest

-- the first lines of equal texts are equal, and so is what follows them
pub cancel : (s t x y : List ℕ) → IsFree 10 s → IsFree 10 t → line s ++ x ≡ line t ++ y → (s ≡ t) × (x ≡ y)
cancel s t x y f g e =
    let same : s ++ 10 ∷ x ≡ t ++ 10 ∷ y = sym (line_is s x) ∙ e ∙ line_is t y in (
      sym (before_is 10 s x f) ∙ ap (before 10) same ∙ before_is 10 t y g,
      sym (after_is 10 s x f) ∙ ap (after 10) same ∙ after_is 10 t y g,
    )

-- what has no byte 10 begins with no line
pub no_line : (r t x : List ℕ) → IsFree 10 r → IsFree 10 t → r ≡ line t ++ x → ⊥
no_line r t x f g e =
    let same : r ≡ t ++ 10 ∷ x = e ∙ line_is t x in
    let at : place 10 r ≡ length t = ap (place 10) same ∙ place_after 10 t x g in
    let long : length r ≡ length t + suc (length x) = ap length same ∙ length-append t (10 ∷ x) in
    omega (arith, at, long, f)

-- ---- no byte 10 in the texts of lines

digit_free : (d : ℕ) → d < 16 → slice_index lower_digits d ≢ 10
digit_free d lt e = let bad : hex_digit_value 10 ≡ Some d = ap hex_digit_value (sym e) ∙ IsDigits-lower_digits d lt in absurd (cc (bad))

pub hex_free : (bytes : List ℕ) → IsBytes bytes → IsFree 10 (encode_lower bytes)
unfolding encode_with
hex_free [] h = free_nil 10
hex_free (b ∷ rest) h =
    let fits : b < 256 = h 0 in
    free_cons 10 (slice_index lower_digits (b / 16)) (slice_index lower_digits (b % 16) ∷ encode_lower rest) (digit_free (b / 16) (omega arith))
    (free_cons 10 (slice_index lower_digits (b % 16)) (encode_lower rest) (digit_free (b % 16) (omega arith)) (hex_free rest (λ i. h (suc i))))

op_line : (o : Op) → IsFree 10 (op_name o)
unfolding place op_name
op_line op.Lui = refl
op_line _ = refl

name_line : (m : Mnemonic) → IsFree 10 (name_of m)
unfolding place name_of op_name
name_line (mnemonic.Table o) = op_line o
name_line mnemonic.Jal = refl
name_line mnemonic.Jalr = refl
name_line mnemonic.Fence = refl
name_line mnemonic.Ecall = refl
name_line mnemonic.Ebreak = refl

low : 10 < 45
low = omega arith

register_line : (mark r : ℕ) → mark ≢ 10 → r < 32 → IsFree 10 (register mark r)
register_line mark r n h = free_cons 10 mark (120 ∷ decimal r) n (free_register 10 low r h)

number_line : (z : ℤ) → mag z < 2 ^ 31 → IsFree 10 (number z)
number_line z h = free_cons 10 44 (signed_decimal z) (λ e. cc (e)) (free_signed 10 low z h)

one_free : (r : ℕ) (z : ℤ) → r < 32 → mag z < 2 ^ 31 → IsFree 10 (register 32 r ++ number z)
one_free r z h m = free_append 10 (register 32 r) (number z) (register_line 32 r (λ e. cc (e)) h) (number_line z m)

registers_free : (r s : ℕ) → r < 32 → s < 32 → IsFree 10 (register 32 r ++ register 44 s)
registers_free r s h k = free_append 10 (register 32 r) (register 44 s) (register_line 32 r (λ e. cc (e)) h) (register_line 44 s (λ e. cc (e)) k)

two_free : (r s : ℕ) (z : ℤ) → r < 32 → s < 32 → mag z < 2 ^ 31 → IsFree 10 (register 32 r ++ register 44 s ++ number z)
two_free r s z h k m = free_append 10 (register 32 r ++ register 44 s) (number z) (registers_free r s h k) (number_line z m)

three_free : (r s t : ℕ) → r < 32 → s < 32 → t < 32 → IsFree 10 (register 32 r ++ register 44 s ++ register 44 t)
three_free r s t h k l = free_append 10 (register 32 r ++ register 44 s) (register 44 t) (registers_free r s h k) (register_line 44 t (λ e. cc (e)) l)

operands_free : (i : Instr) → IsInstr i → IsFree 10 (operands i)
unfolding operands
operands_free (Upper o rd imm) h = one_free rd imm h.registers (within_small (2 ^ 31) imm (omega arith) h.valid.1.0)
operands_free (Jal rd imm) h = one_free rd imm h.registers (within_small (2 ^ 20) imm (omega arith) h.valid.0)
operands_free (Jalr rd rs1 imm) h = two_free rd rs1 imm h.registers.0 h.registers.1 (within_small (2 ^ 11) imm (omega arith) h.valid)
operands_free (Branch o rs1 rs2 imm) h = two_free rs1 rs2 imm h.registers.0 h.registers.1 (within_small (2 ^ 12) imm (omega arith) h.valid.1.0)
operands_free (Load o rd rs1 imm) h = two_free rd rs1 imm h.registers.0 h.registers.1 (within_small (2 ^ 11) imm (omega arith) h.valid.1)
operands_free (Save o rs1 rs2 imm) h = two_free rs1 rs2 imm h.registers.0 h.registers.1 (within_small (2 ^ 11) imm (omega arith) h.valid.1)
operands_free (Imm o rd rs1 imm) h = two_free rd rs1 imm h.registers.0 h.registers.1 (fits_small o rd rs1 imm h.valid)
operands_free (Three o rd rs1 rs2) h = three_free rd rs1 rs2 h.registers.0 h.registers.1 h.registers.2
operands_free (Fence rd rs1 imm) h = two_free rd rs1 imm h.registers.0 h.registers.1 (within_small (2 ^ 11) imm (omega arith) h.valid)
operands_free Ecall h = free_nil 10
operands_free Ebreak h = free_nil 10

word_free : (word bytes : List ℕ) → IsFree 10 word → IsBytes bytes → IsFree 10 (word ++ encode_lower bytes)
word_free word bytes f h = free_append 10 word (encode_lower bytes) f (hex_free bytes h)

word_word : IsFree 10 (codes "word ")
unfolding place
word_word = refl

pub fixed_free : IsFree 10 (codes "fixed ")
unfolding place
fixed_free = refl

pub data_free : IsFree 10 (codes "data ")
unfolding place
data_free = refl

entry_word : IsFree 10 (codes "entry ")
unfolding place
entry_word = refl

pub entry_free : (n : ℕ) → n < 2 ^ 64 → IsFree 10 (codes "entry " ++ decimal n)
entry_free n lt = free_append 10 (codes "entry ") (decimal n) entry_word (free_decimal 10 low n lt)

pub code_free : (w : ℕ) → w < 2 ^ 32 → IsFree 10 (code_text w)
code_free w lt = elim (code_cases w lt) [
  | inl of ↦ (let f : IsFree 10 (instr_text of.0) = free_append 10 (name_of (mnemonic_of of.0)) (operands of.0) (name_line (mnemonic_of of.0)) (operands_free of.0 of.1.instr) in rw of.2 f)
  | inr other ↦ (let f : IsFree 10 (word_text w) = word_free (codes "word ") (to_be_bytes w32 w) word_word (word_bytes w) in rw other.1 f)
]

pub row_free : (word row : List ℕ) → IsFree 10 word → AreBytes row → IsFree 10 (word ++ encode_lower row)
row_free word row f h = word_free word row f (bytes_from row h)

-- ---- where a reader of lines stops

pub stop_code : (r : List ℕ) → IsFree 10 r → NoCode r
stop_code r f w x lt e = no_line r (code_text w) x f (code_free w lt) e

pub other_code : (r text rest : List ℕ) → r ≡ line text ++ rest → IsFree 10 text → ((w : ℕ) → w < 2 ^ 32 → text ≢ code_text w) → NoCode r
other_code r text rest e f none w x lt g = none w lt (cancel text (code_text w) rest x f (code_free w lt) (sym e ∙ g)).0

pub stop_row : (word r : List ℕ) → IsFree 10 word → IsFree 10 r → NoRow word r
stop_row word r g f row x eight are e = no_line r (word ++ encode_lower row) x f (row_free word row g are) e

pub other_row : (word r text rest : List ℕ) → IsFree 10 word → r ≡ line text ++ rest → IsFree 10 text → ((row : List ℕ) → length row ≡ 8 → AreBytes row → text ≢ word ++ encode_lower row) → NoRow word r
other_row word r text rest g e f none row x eight are h = none row eight are (cancel text (word ++ encode_lower row) rest x f (row_free word row g are) (sym e ∙ h)).0

-- the bytes of a row are those of its text
pub row_same : (word row other : List ℕ) → length row ≡ 8 → length other ≡ 8 → AreBytes row → AreBytes other → encode_lower row ≡ encode_lower other → row ≡ other
row_same word row other k l h g e =
    let one = sized_again 8 row k (bytes_from row h) in
    let two = sized_again 8 other l (bytes_from other g) in
    cc (one, two, e)
