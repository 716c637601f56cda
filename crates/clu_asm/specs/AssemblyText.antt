-- Assembly text: an image as lines of text. Each line ends with byte 10, and no other byte 10 stands
-- in the text.

use Rattle.std.specs.Prelude.{ℕ, ℤ, zero, suc, ◌/◌, List, [], ◌∷◌, ◌++◌, take, drop, length, codes, decimal, flat_map}
use Rattle.std.specs.Fmt.{signed_decimal}
use Rattle.std.specs.Int.{w32, to_be_bytes}
use Rattle.std.specs.Option.{option_map_or}
use Rattle.hex.specs.Hex.{encode_lower}
use Rattle.rv_isa.specs.declared.instr.Instr.{Instr}
use Rattle.rv_isa.specs.declared.instr.Instr.TheVariants.{Upper, Jal, Jalr, Branch, Load, Save, Imm, Three, Fence, Ecall, Ebreak}
use Rattle.rv_isa.specs.Image.{Contents}
use Rattle.rv_isa.specs.Decoded.{decoded}
use Rattle.clu_asm.specs.Mnemonics.{name_of, mnemonic_of}

-- a register after a blank or a comma: `x` and its number
abbrev pub register : ℕ → ℕ → List ℕ
register mark r = mark ∷ 120 ∷ decimal r

-- a number after a comma
abbrev pub number : ℤ → List ℕ
number z = 44 ∷ signed_decimal z

-- the operands after a mnemonic: a blank, and the operands with commas between them
unfoldable pub operands : Instr → List ℕ
operands (Upper op rd imm) = register 32 rd ++ number imm
operands (Jal rd imm) = register 32 rd ++ number imm
operands (Jalr rd rs1 imm) = register 32 rd ++ register 44 rs1 ++ number imm
operands (Branch op rs1 rs2 imm) = register 32 rs1 ++ register 44 rs2 ++ number imm
operands (Load op rd rs1 imm) = register 32 rd ++ register 44 rs1 ++ number imm
operands (Save op rs1 rs2 imm) = register 32 rs1 ++ register 44 rs2 ++ number imm
operands (Imm op rd rs1 imm) = register 32 rd ++ register 44 rs1 ++ number imm
operands (Three op rd rs1 rs2) = register 32 rd ++ register 44 rs1 ++ register 44 rs2
operands (Fence rd rs1 imm) = register 32 rd ++ register 44 rs1 ++ number imm
operands Ecall = []
operands Ebreak = []

-- an instruction
abbrev pub instr_text : Instr → List ℕ
instr_text i = name_of (mnemonic_of i) ++ operands i

-- a word that is no instruction: its 8 hexadecimal digits
abbrev pub word_text : ℕ → List ℕ
word_text w = codes "word " ++ encode_lower (to_be_bytes w32 w)

-- a code word
unfoldable pub code_text : ℕ → List ℕ
code_text w = option_map_or instr_text (decoded w) (word_text w)

abbrev pub line : List ℕ → List ℕ
line text = text ++ 10 ∷ []

abbrev pub code_line : ℕ → List ℕ
code_line w = line (code_text w)

abbrev pub entry_line : ℕ → List ℕ
entry_line n = line (codes "entry " ++ decimal n)

-- eight bytes after a word, as 16 hexadecimal digits
abbrev pub row_line : List ℕ → List ℕ → List ℕ
row_line word row = line (word ++ encode_lower row)

-- a line for each eight bytes, so many of them
unfoldable pub some_row_lines : ℕ → List ℕ → List ℕ → List ℕ
some_row_lines zero word bytes = []
some_row_lines (suc n) word bytes = row_line word (take 8 bytes) ++ some_row_lines n word (drop 8 bytes)

-- a line for each eight bytes
abbrev pub row_lines : List ℕ → List ℕ → List ℕ
row_lines word bytes = some_row_lines (length bytes / 8) word bytes

abbrev pub fixed_word : List ℕ
fixed_word = codes "fixed "

abbrev pub data_word : List ℕ
data_word = codes "data "

-- the assembly text of an image
abbrev pub asm_text : Contents → List ℕ
asm_text i =
    entry_line i.entry ++ flat_map code_line i.code
    ++ row_lines fixed_word i.fixed ++ row_lines data_word i.area
