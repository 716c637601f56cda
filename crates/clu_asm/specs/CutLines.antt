-- What can come of a line that is cut off at the end of a text.

use Rattle.std.specs.Prelude.{◌≡◌, ◌⊎◌, ℕ, ℤ, pos, ◌-ℤ◌, ◌*◌, ◌^◌, ◌<◌, ◌≤◌, nat_le, ◌&&◌, ◌||◌, Bool, IsTrue, List, [], ◌∷◌, ◌++◌, length, codes, decimal, Option, None}
use Rattle.std.specs.List.{list_all}
use Rattle.std.specs.Fmt.{signed_decimal}
use Rattle.rv_isa.specs.declared.instr.Instr.{Instr}
use Rattle.rv_isa.specs.Valid.{IsInstr}
use Rattle.rv_isa.specs.Decoded.{decoded}
use Rattle.rv_isa.specs.Image.{max_words}
use Rattle.clu_asm.specs.declared.mnemonics.Mnemonic.{Mnemonic}
use Rattle.clu_asm.specs.declared.mnemonics.Form.{Form}
use Rattle.clu_asm.specs.declared.mnemonics.Form.TheVariants as form
use Rattle.clu_asm.specs.declared.cut_lines.Kind.{Kind}
use Rattle.clu_asm.specs.declared.cut_lines.Kind.TheVariants as kind
use Rattle.clu_asm.specs.Mnemonics.{mnemonic_of}
use Rattle.clu_asm.specs.AssemblyText.{instr_text, word_text, code_text, fixed_word, data_word}
use Rattle.clu_asm.specs.Places.{IsFront}

-- the numbers that can stand in the place of an operand: so many, so far apart, the lowest `-low`
abbrev pub count_of : Kind → ℕ
count_of kind.Register = 32
count_of kind.Immediate = 2 ^ 12
count_of kind.Amount = 64
count_of kind.WordAmount = 32
count_of kind.Branch = 2 ^ 12
count_of kind.Jump = 2 ^ 20
count_of kind.Upper = 2 ^ 20

abbrev pub step_of : Kind → ℕ
step_of kind.Branch = 2
step_of kind.Jump = 2
step_of kind.Upper = 2 ^ 12
step_of _ = 1

abbrev pub low_of : Kind → ℕ
low_of kind.Immediate = 2 ^ 11
low_of kind.Branch = 2 ^ 12
low_of kind.Jump = 2 ^ 20
low_of kind.Upper = 2 ^ 31
low_of _ = 0

-- the number after n lower ones
abbrev pub number_at : Kind → ℕ → ℤ
number_at k n = pos (n * step_of k) -ℤ pos (low_of k)

-- its text
abbrev pub number_text : Kind → ℕ → List ℕ
number_text k n = signed_decimal (number_at k n)

-- the operand with this number
abbrev pub operand_text : Kind → ℕ → List ℕ
operand_text kind.Register n = 120 ∷ number_text kind.Register n
operand_text k n = number_text k n

-- operands of these kinds, the first after this mark and the others after commas
unfoldable pub AreOperands : List Kind → ℕ → List ℕ → Type 0
AreOperands [] mark text = text ≡ []
AreOperands (k ∷ kinds) mark text =
    (n : ℕ) × (others : List ℕ) × (n < count_of k) × AreOperands kinds 44 others × (text ≡ mark ∷ (operand_text k n ++ others))

-- the operands of a form
abbrev pub kinds_of : Form → List Kind
kinds_of form.Upper = kind.Register ∷ kind.Upper ∷ []
kinds_of form.Jump = kind.Register ∷ kind.Jump ∷ []
kinds_of form.Branch = kind.Register ∷ kind.Register ∷ kind.Branch ∷ []
kinds_of form.Load = kind.Register ∷ kind.Register ∷ kind.Immediate ∷ []
kinds_of form.Save = kind.Register ∷ kind.Register ∷ kind.Immediate ∷ []
kinds_of form.Imm = kind.Register ∷ kind.Register ∷ kind.Immediate ∷ []
kinds_of form.Shift = kind.Register ∷ kind.Register ∷ kind.Amount ∷ []
kinds_of form.ShiftWord = kind.Register ∷ kind.Register ∷ kind.WordAmount ∷ []
kinds_of form.Three = kind.Register ∷ kind.Register ∷ kind.Register ∷ []
kinds_of form.Alone = []

-- operands of these kinds, the first after this mark, can begin so
unfoldable pub OperandsBegin : List Kind → ℕ → List ℕ → Type 0
OperandsBegin kinds mark cut = (text : List ℕ) × AreOperands kinds mark text × IsFront cut text

-- an operand of this kind, and others after it, can begin so
unfoldable pub OperandBegins : Kind → List Kind → List ℕ → Type 0
OperandBegins k kinds cut =
    (n : ℕ) × (others : List ℕ) × (n < count_of k) × AreOperands kinds 44 others × IsFront cut (operand_text k n ++ others)

-- a number of this kind, and other operands after it, can begin so
unfoldable pub NumberBegins : Kind → List Kind → List ℕ → Type 0
NumberBegins k kinds cut =
    (n : ℕ) × (others : List ℕ) × (n < count_of k) × AreOperands kinds 44 others × IsFront cut (number_text k n ++ others)

-- this number, and other operands after it, can begin so
unfoldable pub BeginsAt : Kind → List Kind → List ℕ → ℕ → Type 0
BeginsAt k kinds cut n = (others : List ℕ) × AreOperands kinds 44 others × IsFront cut (number_text k n ++ others)

-- an instruction with this mnemonic can begin so
unfoldable pub InstrBeginsWith : Mnemonic → List ℕ → Type 0
InstrBeginsWith m cut = (i : Instr) × IsInstr i × (mnemonic_of i ≡ m) × IsFront cut (instr_text i)

-- one with one of these mnemonics can begin so
unfoldable pub OneBegins : List Mnemonic → List ℕ → Type 0
OneBegins [] cut = ⊥
OneBegins (m ∷ ms) cut = InstrBeginsWith m cut ⊎ OneBegins ms cut

-- an instruction can begin so
unfoldable pub InstrBegins : List ℕ → Type 0
InstrBegins cut = (i : Instr) × IsInstr i × IsFront cut (instr_text i)

-- a word that is no instruction can begin so
unfoldable pub WordBegins : List ℕ → Type 0
WordBegins cut = (w : ℕ) × (w < 2 ^ 32) × (decoded w ≡ None) × IsFront cut (word_text w)

-- a code word can begin so
unfoldable pub CodeBegins : List ℕ → Type 0
CodeBegins cut = (w : ℕ) × (w < 2 ^ 32) × IsFront cut (code_text w)

-- a hexadecimal digit in lower case
abbrev pub is_digit : ℕ → Bool
is_digit b = nat_le 48 b && nat_le b 57 || nat_le 97 b && nat_le b 102

abbrev pub are_digits : List ℕ → Bool
are_digits text = list_all is_digit text

-- the word, and then at most so many digits, can begin so
unfoldable pub DigitsBegin : List ℕ → ℕ → List ℕ → Type 0
DigitsBegin word count cut =
    IsFront cut word ⊎ ((digits : List ℕ) × (cut ≡ word ++ digits) × (length digits ≤ count) × IsTrue (are_digits digits))

-- an entry can begin so
unfoldable pub EntryBegins : List ℕ → Type 0
EntryBegins cut = (n : ℕ) × (n < max_words) × IsFront cut (codes "entry " ++ decimal n)

-- a line can begin so that can come next: code, fixed part or data, those of them that can
unfoldable pub LineBegins : Bool → Bool → Bool → List ℕ → Type 0
LineBegins code fixed area cut =
    (IsTrue code × CodeBegins cut) ⊎ ((IsTrue fixed × DigitsBegin fixed_word 16 cut) ⊎ (IsTrue area × DigitsBegin data_word 16 cut))
