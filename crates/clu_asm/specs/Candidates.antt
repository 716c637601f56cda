-- From a text to the one instruction that can have it.

use Rattle.std.specs.Prelude.{ℕ, ℤ, pos, negsuc, ◌^◌, ◌==◌, ◌&&◌, nat_lt, bytes_eq, if◌then◌else◌, List, [], ◌∷◌, Option, Some, None, option_map}
use Rattle.std.specs.List.{find}
use Rattle.std.specs.Option.{option_and_then}
use Rattle.std.specs.Fmt.{signed_decimal}
use Rattle.std.specs.Str.Parse.{digits_value}
use lib.IntN.{neg_ℤ}
use lib.Signed.{mag}
use Rattle.rv_isa.specs.declared.op.Op.{Op}
use Rattle.rv_isa.specs.declared.instr.Instr.{Instr}
use Rattle.rv_isa.specs.declared.instr.Instr.TheVariants.{Upper, Jal, Jalr, Branch, Load, Save, Imm, Three, Fence, Ecall, Ebreak}
use Rattle.clu_asm.specs.declared.mnemonics.Mnemonic.{Mnemonic}
use Rattle.clu_asm.specs.declared.mnemonics.Mnemonic.TheVariants as mnemonic
use Rattle.clu_asm.specs.declared.mnemonics.Form.{Form}
use Rattle.clu_asm.specs.declared.mnemonics.Form.TheVariants as form
use Rattle.clu_asm.specs.declared.mnemonics.TheConstants.{MNEMONICS}
use Rattle.clu_asm.specs.Mnemonics.{name_of, op_form}
use Rattle.clu_asm.specs.Places.{before, after}

-- the number, if this is its text and it has 32 bits
abbrev pub checked : ℤ → List ℕ → Option ℤ
checked z text = if nat_lt (mag z) (2 ^ 31) && bytes_eq (signed_decimal z) text then Some z else None

-- the number that digits make, after `-` or without it
abbrev pub value_of : List ℕ → ℤ
value_of [] = pos 0
value_of (b ∷ digits) = if b == 45 then neg_ℤ (pos (digits_value 10 digits)) else pos (digits_value 10 (b ∷ digits))

-- the number with this text
unfoldable pub number_of : List ℕ → Option ℤ
number_of text = checked (value_of text) text

-- the register of this number
abbrev pub register_number : ℤ → Option ℕ
register_number (pos n) = if nat_lt n 32 then Some n else None
register_number (negsuc n) = None

-- the register with this text: `x` and its number
abbrev pub register_of : List ℕ → Option ℕ
register_of [] = None
register_of (b ∷ digits) = if b == 120 then option_and_then register_number (number_of digits) else None

-- the mnemonic that is called so
unfoldable pub named : List ℕ → Option Mnemonic
named name = find (λ m. bytes_eq (name_of m) name) MNEMONICS

-- the instruction of an operation of this form on two registers and a number
abbrev pub with_number : Form → Op → ℕ → ℕ → ℤ → Instr
with_number form.Branch op r s imm = Branch op r s imm
with_number form.Load op r s imm = Load op r s imm
with_number form.Save op r s imm = Save op r s imm
with_number _ op r s imm = Imm op r s imm

abbrev pub one_and_number : List ℕ → List ℕ → Option (ℕ × ℤ)
one_and_number a b = option_and_then (λ r. option_map (λ imm. (r, imm)) (number_of b)) (register_of a)

abbrev pub two_and_number : List ℕ → List ℕ → List ℕ → Option (ℕ × ℕ × ℤ)
two_and_number a b c = option_and_then (λ r. option_map (λ rest. (r, rest.0, rest.1)) (one_and_number b c)) (register_of a)

abbrev pub two : List ℕ → List ℕ → Option (ℕ × ℕ)
two a b = option_and_then (λ r. option_map (λ s. (r, s)) (register_of b)) (register_of a)

abbrev pub three : List ℕ → List ℕ → List ℕ → Option (ℕ × ℕ × ℕ)
three a b c = option_and_then (λ r. option_map (λ rest. (r, rest.0, rest.1)) (two b c)) (register_of a)

-- the instruction of an operation of the table and the texts of its operands
abbrev pub of_form : Form → Op → List ℕ → List ℕ → List ℕ → Option Instr
of_form form.Upper op a b c = option_map (λ x. Upper op x.0 x.1) (one_and_number a b)
of_form form.Three op a b c = option_map (λ x. Three op x.0 x.1 x.2) (three a b c)
of_form form op a b c = option_map (λ x. with_number form op x.0 x.1 x.2) (two_and_number a b c)

-- the instruction of a mnemonic and the texts of its operands
abbrev pub made : Mnemonic → List ℕ → List ℕ → List ℕ → Option Instr
made (mnemonic.Table op) a b c = of_form (op_form op) op a b c
made mnemonic.Jal a b c = option_map (λ x. Jal x.0 x.1) (one_and_number a b)
made mnemonic.Jalr a b c = option_map (λ x. Jalr x.0 x.1 x.2) (two_and_number a b c)
made mnemonic.Fence a b c = option_map (λ x. Fence x.0 x.1 x.2) (two_and_number a b c)
made mnemonic.Ecall a b c = Some Ecall
made mnemonic.Ebreak a b c = Some Ebreak

-- the instruction of a mnemonic and the text of its operands
abbrev pub with_operands : List ℕ → Mnemonic → Option Instr
with_operands text m = made m (before 44 text) (before 44 (after 44 text)) (after 44 (after 44 text))

-- the one instruction that can have this text
unfoldable pub guessed : List ℕ → Option Instr
guessed text = option_and_then (with_operands (after 32 text)) (named (before 32 text))
