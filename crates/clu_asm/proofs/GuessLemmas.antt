-- The text of an instruction is read as that instruction.

use Rattle.std.proofs.Common.{◌≡◌, ℕ, zero, suc, ◌+◌, ◌*◌, ◌/◌, ◌%◌, ◌^◌, ◌<◌, ◌≤◌, ◌==◌, ◌≢◌, ◌⊎◌, nat_lt, Bool, true, false, cond, ℤ, pos, negsuc, List, [], ◌∷◌, ◌++◌, length, codes, decimal, Option, Some, None, refl, sym, ap, ◌∙◌, arith, inl, inr, append_assoc}
use Rattle.std.specs.Prelude.{IfSome, ◌≤ℤ◌, ◌<ℤ◌, ◌+ℤ◌}
use Rattle.std.specs.Fmt.{signed_decimal}
use Rattle.std.specs.Option.{option_and_then, option_map, option_map_or}
use Rattle.std.proofs.lemmas.Bool.{lt-ltb}
use Rattle.std.proofs.lemmas.Fmt.{decimal_by_steps}
use Rattle.std.proofs.lemmas.Int.{ints}
use lib.Signed.{mag}
use Rattle.rv_isa.specs.declared.op.Op.{Op}
use Rattle.rv_isa.specs.declared.op.Op.TheVariants as op
use Rattle.rv_isa.specs.declared.instr.Instr.{Instr}
use Rattle.rv_isa.specs.declared.instr.Instr.TheVariants.{Upper, Jal, Jalr, Branch, Load, Save, Imm, Three, Fence, Ecall, Ebreak}
use Rattle.rv_isa.specs.Valid.{IsInstr, IsValid, IsWithin, IsAmount}
use Rattle.rv_isa.specs.Encoded.{IsWordOf}
use Rattle.rv_isa.specs.Decoded.{decoded}
use Rattle.rv_isa.proofs.WordToInstr.{encoded-decoded}
use Rattle.clu_asm.specs.declared.mnemonics.Mnemonic.{Mnemonic}
use Rattle.clu_asm.specs.declared.mnemonics.Mnemonic.TheVariants as mnemonic
use Rattle.clu_asm.specs.declared.mnemonics.Form.{Form}
use Rattle.clu_asm.specs.declared.mnemonics.Form.TheVariants as form
use Rattle.clu_asm.specs.Mnemonics.{op_name, name_of, mnemonic_of, op_form}
use Rattle.clu_asm.specs.AssemblyText.{register, number, operands, instr_text, word_text, code_text}
use Rattle.clu_asm.specs.Places.{place, before, after, IsFree}
use Rattle.clu_asm.specs.Candidates.{number_of, register_of, register_number, named, of_form, made, with_operands, guessed, one_and_number, two_and_number, two, three, with_number}
use Rattle.clu_asm.proofs.PlaceLemmas.{before_is, after_is, before_none, after_none, free_nil, free_cons, free_append}
use Rattle.clu_asm.proofs.NumberLemmas.{number_again}

-- ---- no mark stands in a number

module _ (mark : ℕ) (low : mark < 45) where
  free_one : (n : ℕ) → n < 10 → IsFree mark ((48 + n) ∷ [])
  free_one n lt = free_cons mark (48 + n) [] (λ e. omega (arith, e, low)) (free_nil mark)

  free_more : (n : ℕ) (ds : List ℕ) → 10 ≤ n → IsFree mark ds → IsFree mark (ds ++ (48 + n % 10) ∷ [])
  free_more n ds ten h = free_append mark ds ((48 + n % 10) ∷ []) h (free_cons mark (48 + n % 10) [] (λ e. omega (arith, e, low)) (free_nil mark))

  pub free_decimal : (n : ℕ) → n < 2 ^ 64 → IsFree mark (decimal n)
  free_decimal n lt = decimal_by_steps (λ (k : ℕ) (ds : List ℕ). IsFree mark ds) free_one free_more n lt

  pub free_signed : (z : ℤ) → mag z < 2 ^ 31 → IsFree mark (signed_decimal z)
  free_signed (pos n) h = free_decimal n (omega (arith, h))
  free_signed (negsuc n) h = free_cons mark 45 (decimal (suc n)) (λ e. omega (arith, e, low)) (free_decimal (suc n) (omega (arith, h)))

  pub free_register : (r : ℕ) → r < 32 → IsFree mark (120 ∷ decimal r)
  free_register r h = free_cons mark 120 (decimal r) (λ e. omega (arith, e, low)) (free_decimal r (omega (arith, h)))

-- ---- operands

small_register : (r : ℕ) → r < 32 → register_number (pos r) ≡ Some r
small_register r h = rw (lt-ltb r 32 h) refl

pub register_again : (r : ℕ) → r < 32 → register_of (120 ∷ decimal r) ≡ Some r
register_again r h = rw (number_again (pos r) (omega (arith, h))) (small_register r h)

one_again : (r : ℕ) (imm : ℤ) → r < 32 → mag imm < 2 ^ 31 → one_and_number (120 ∷ decimal r) (signed_decimal imm) ≡ Some (r, imm)
one_again r imm h m = rw (number_again (pos r) (omega (arith, h)), small_register r h, number_again imm m) refl

two_again : (r s : ℕ) (imm : ℤ) → r < 32 → s < 32 → mag imm < 2 ^ 31 → two_and_number (120 ∷ decimal r) (120 ∷ decimal s) (signed_decimal imm) ≡ Some (r, s, imm)
two_again r s imm h k m = rw (one_again s imm k m, number_again (pos r) (omega (arith, h)), small_register r h) refl

registers_again : (r s t : ℕ) → r < 32 → s < 32 → t < 32 → three (120 ∷ decimal r) (120 ∷ decimal s) (120 ∷ decimal t) ≡ Some (r, s, t)
registers_again r s t h k l =
    rw (number_again (pos r) (omega (arith, h)), small_register r h, number_again (pos s) (omega (arith, k)), small_register s k, number_again (pos t) (omega (arith, l)), small_register t l) refl

two_parts : (m : Mnemonic) (a b : List ℕ) → IsFree 44 a → IsFree 44 b → with_operands (a ++ 44 ∷ b) m ≡ made m a b []
two_parts m a b f g = rw (before_is 44 a b f, after_is 44 a b f, before_none 44 b g, after_none 44 b g) refl

three_parts : (m : Mnemonic) (a b c : List ℕ) → IsFree 44 a → IsFree 44 b → with_operands (a ++ 44 ∷ (b ++ 44 ∷ c)) m ≡ made m a b c
three_parts m a b c f g = rw (before_is 44 a (b ++ 44 ∷ c) f, after_is 44 a (b ++ 44 ∷ c) f, before_is 44 b c g, after_is 44 b c g) refl

-- ---- mnemonics

op_free : (o : Op) → IsFree 32 (op_name o)
unfolding place op_name
op_free op.Lui = refl
op_free _ = refl

name_free : (m : Mnemonic) → IsFree 32 (name_of m)
unfolding place name_of op_name
name_free (mnemonic.Table o) = op_free o
name_free mnemonic.Jal = refl
name_free mnemonic.Jalr = refl
name_free mnemonic.Fence = refl
name_free mnemonic.Ecall = refl
name_free mnemonic.Ebreak = refl

op_again : (o : Op) → named (op_name o) ≡ Some (mnemonic.Table o)
unfolding named name_of op_name
op_again op.Lui = refl
op_again _ = refl

pub named_again : (m : Mnemonic) → named (name_of m) ≡ Some m
unfolding named name_of op_name
named_again (mnemonic.Table o) = op_again o
named_again mnemonic.Jal = refl
named_again mnemonic.Jalr = refl
named_again mnemonic.Fence = refl
named_again mnemonic.Ecall = refl
named_again mnemonic.Ebreak = refl

guessed_is : (text name : List ℕ) (m : Mnemonic) (rest : List ℕ) → before 32 text ≡ name → named name ≡ Some m → after 32 text ≡ rest → guessed text ≡ with_operands rest m
unfolding guessed
guessed_is text name m rest e f g = rw (e, f, g) refl

guessed_with : (m : Mnemonic) (text : List ℕ) → guessed (name_of m ++ 32 ∷ text) ≡ with_operands text m
guessed_with m text =
    guessed_is (name_of m ++ 32 ∷ text) (name_of m) m text (before_is 32 (name_of m) text (name_free m)) (named_again m) (after_is 32 (name_of m) text (name_free m))

-- ---- forms

pub upper_form : (o : Op) (rd : ℕ) (imm : ℤ) → IsValid (Upper o rd imm) → op_form o ≡ form.Upper
upper_form op.Lui rd imm h = refl
upper_form op.Auipc rd imm h = refl
upper_form _ rd imm h = absurd (cc (h.0))

pub branch_form : (o : Op) (rs1 rs2 : ℕ) (imm : ℤ) → IsValid (Branch o rs1 rs2 imm) → op_form o ≡ form.Branch
branch_form op.Beq rs1 rs2 imm h = refl
branch_form op.Bne rs1 rs2 imm h = refl
branch_form op.Blt rs1 rs2 imm h = refl
branch_form op.Bge rs1 rs2 imm h = refl
branch_form op.Bltu rs1 rs2 imm h = refl
branch_form op.Bgeu rs1 rs2 imm h = refl
branch_form _ rs1 rs2 imm h = absurd (cc (h.0))

pub load_form : (o : Op) (rd rs1 : ℕ) (imm : ℤ) → IsValid (Load o rd rs1 imm) → op_form o ≡ form.Load
load_form op.Lb rd rs1 imm h = refl
load_form op.Lh rd rs1 imm h = refl
load_form op.Lw rd rs1 imm h = refl
load_form op.Ld rd rs1 imm h = refl
load_form op.Lbu rd rs1 imm h = refl
load_form op.Lhu rd rs1 imm h = refl
load_form op.Lwu rd rs1 imm h = refl
load_form _ rd rs1 imm h = absurd (cc (h.0))

pub save_form : (o : Op) (rs1 rs2 : ℕ) (imm : ℤ) → IsValid (Save o rs1 rs2 imm) → op_form o ≡ form.Save
save_form op.Sb rs1 rs2 imm h = refl
save_form op.Sh rs1 rs2 imm h = refl
save_form op.Sw rs1 rs2 imm h = refl
save_form op.Sd rs1 rs2 imm h = refl
save_form _ rs1 rs2 imm h = absurd (cc (h.0))

pub three_form : (o : Op) (rd rs1 rs2 : ℕ) → IsValid (Three o rd rs1 rs2) → op_form o ≡ form.Three
three_form op.Add rd rs1 rs2 h = refl
three_form op.Sub rd rs1 rs2 h = refl
three_form op.Sll rd rs1 rs2 h = refl
three_form op.Slt rd rs1 rs2 h = refl
three_form op.Sltu rd rs1 rs2 h = refl
three_form op.Xor rd rs1 rs2 h = refl
three_form op.Srl rd rs1 rs2 h = refl
three_form op.Sra rd rs1 rs2 h = refl
three_form op.Or rd rs1 rs2 h = refl
three_form op.And rd rs1 rs2 h = refl
three_form op.Mul rd rs1 rs2 h = refl
three_form op.Mulh rd rs1 rs2 h = refl
three_form op.Mulhsu rd rs1 rs2 h = refl
three_form op.Mulhu rd rs1 rs2 h = refl
three_form op.Div rd rs1 rs2 h = refl
three_form op.Divu rd rs1 rs2 h = refl
three_form op.Rem rd rs1 rs2 h = refl
three_form op.Remu rd rs1 rs2 h = refl
three_form op.Addw rd rs1 rs2 h = refl
three_form op.Subw rd rs1 rs2 h = refl
three_form op.Sllw rd rs1 rs2 h = refl
three_form op.Srlw rd rs1 rs2 h = refl
three_form op.Sraw rd rs1 rs2 h = refl
three_form op.Mulw rd rs1 rs2 h = refl
three_form op.Divw rd rs1 rs2 h = refl
three_form op.Divuw rd rs1 rs2 h = refl
three_form op.Remw rd rs1 rs2 h = refl
three_form op.Remuw rd rs1 rs2 h = refl
three_form _ rd rs1 rs2 h = absurd (cc (h))

pub within_small : (half : ℕ) (z : ℤ) → half ≤ 2 ^ 31 → IsWithin half z → mag z < 2 ^ 31
within_small half (pos n) le h = omega (arith, ints, h.0, h.1)
within_small half (negsuc n) le h = omega (arith, ints, h.0, h.1)

pub amount_small : (limit : ℕ) (z : ℤ) → limit ≤ 64 → IsAmount limit z → mag z < 2 ^ 31
amount_small limit (pos n) le h = omega (arith, ints, h.0, h.1)
amount_small limit (negsuc n) le h = absurd (omega (arith, ints, h.0, h.1))

pub fits_small : (o : Op) (r s : ℕ) (z : ℤ) → IsValid (Imm o r s z) → mag z < 2 ^ 31
fits_small op.Addi r s z h = within_small (2 ^ 11) z (omega arith) h
fits_small op.Slti r s z h = within_small (2 ^ 11) z (omega arith) h
fits_small op.Sltiu r s z h = within_small (2 ^ 11) z (omega arith) h
fits_small op.Xori r s z h = within_small (2 ^ 11) z (omega arith) h
fits_small op.Ori r s z h = within_small (2 ^ 11) z (omega arith) h
fits_small op.Andi r s z h = within_small (2 ^ 11) z (omega arith) h
fits_small op.Addiw r s z h = within_small (2 ^ 11) z (omega arith) h
fits_small op.Slli r s z h = amount_small 64 z (omega arith) h
fits_small op.Srli r s z h = amount_small 64 z (omega arith) h
fits_small op.Srai r s z h = amount_small 64 z (omega arith) h
fits_small op.Slliw r s z h = amount_small 32 z (omega arith) h
fits_small op.Srliw r s z h = amount_small 32 z (omega arith) h
fits_small op.Sraiw r s z h = amount_small 32 z (omega arith) h
fits_small _ r s z h = absurd h

-- an operation on two registers and a number
imm_made : (o : Op) (r s : ℕ) (imm : ℤ) (a b c : List ℕ) → IsValid (Imm o r s imm) → two_and_number a b c ≡ Some (r, s, imm)
    → of_form (op_form o) o a b c ≡ Some (Imm o r s imm)
imm_made op.Addi r s imm a b c h e = ap (option_map (λ (x : ℕ × ℕ × ℤ). with_number form.Imm op.Addi x.0 x.1 x.2)) e
imm_made op.Slti r s imm a b c h e = ap (option_map (λ (x : ℕ × ℕ × ℤ). with_number form.Imm op.Slti x.0 x.1 x.2)) e
imm_made op.Sltiu r s imm a b c h e = ap (option_map (λ (x : ℕ × ℕ × ℤ). with_number form.Imm op.Sltiu x.0 x.1 x.2)) e
imm_made op.Xori r s imm a b c h e = ap (option_map (λ (x : ℕ × ℕ × ℤ). with_number form.Imm op.Xori x.0 x.1 x.2)) e
imm_made op.Ori r s imm a b c h e = ap (option_map (λ (x : ℕ × ℕ × ℤ). with_number form.Imm op.Ori x.0 x.1 x.2)) e
imm_made op.Andi r s imm a b c h e = ap (option_map (λ (x : ℕ × ℕ × ℤ). with_number form.Imm op.Andi x.0 x.1 x.2)) e
imm_made op.Addiw r s imm a b c h e = ap (option_map (λ (x : ℕ × ℕ × ℤ). with_number form.Imm op.Addiw x.0 x.1 x.2)) e
imm_made op.Slli r s imm a b c h e = ap (option_map (λ (x : ℕ × ℕ × ℤ). with_number form.Shift op.Slli x.0 x.1 x.2)) e
imm_made op.Srli r s imm a b c h e = ap (option_map (λ (x : ℕ × ℕ × ℤ). with_number form.Shift op.Srli x.0 x.1 x.2)) e
imm_made op.Srai r s imm a b c h e = ap (option_map (λ (x : ℕ × ℕ × ℤ). with_number form.Shift op.Srai x.0 x.1 x.2)) e
imm_made op.Slliw r s imm a b c h e = ap (option_map (λ (x : ℕ × ℕ × ℤ). with_number form.ShiftWord op.Slliw x.0 x.1 x.2)) e
imm_made op.Srliw r s imm a b c h e = ap (option_map (λ (x : ℕ × ℕ × ℤ). with_number form.ShiftWord op.Srliw x.0 x.1 x.2)) e
imm_made op.Sraiw r s imm a b c h e = ap (option_map (λ (x : ℕ × ℕ × ℤ). with_number form.ShiftWord op.Sraiw x.0 x.1 x.2)) e
imm_made _ r s imm a b c h e = absurd h

-- ---- lines of one register and a number, of two and a number, of three

one_line : (m : Mnemonic) (r : ℕ) (imm : ℤ) → r < 32 → mag imm < 2 ^ 31 → guessed (name_of m ++ (register 32 r ++ number imm)) ≡ made m (120 ∷ decimal r) (signed_decimal imm) []
one_line m r imm h k = guessed_with m ((120 ∷ decimal r) ++ number imm) ∙ two_parts m (120 ∷ decimal r) (signed_decimal imm) (free_register 44 (omega arith) r h) (free_signed 44 (omega arith) imm k)

regroup : (a b c : List ℕ) → ((a ++ 44 ∷ b) ++ 44 ∷ c) ≡ a ++ 44 ∷ (b ++ 44 ∷ c)
regroup a b c = append_assoc a (44 ∷ b) (44 ∷ c)

two_line : (m : Mnemonic) (r s : ℕ) (c : List ℕ) → r < 32 → s < 32 → guessed (name_of m ++ (register 32 r ++ register 44 s ++ 44 ∷ c)) ≡ made m (120 ∷ decimal r) (120 ∷ decimal s) c
two_line m r s c h k =
    ap (λ (t : List ℕ). guessed (name_of m ++ 32 ∷ t)) (regroup (120 ∷ decimal r) (120 ∷ decimal s) c)
    ∙ guessed_with m ((120 ∷ decimal r) ++ 44 ∷ ((120 ∷ decimal s) ++ 44 ∷ c))
    ∙ three_parts m (120 ∷ decimal r) (120 ∷ decimal s) c (free_register 44 (omega arith) r h) (free_register 44 (omega arith) s k)

two_made : (o : Op) (f : Form) (r s : ℕ) (imm : ℤ) (a b c : List ℕ) → op_form o ≡ f → two_and_number a b c ≡ Some (r, s, imm)
    → of_form f o a b c ≡ option_map (λ (x : ℕ × ℕ × ℤ). with_number f o x.0 x.1 x.2) (two_and_number a b c)
    → made (mnemonic.Table o) a b c ≡ Some (with_number f o r s imm)
two_made o f r s imm a b c e t same = ap (λ (g : Form). of_form g o a b c) e ∙ same ∙ ap (option_map (λ (x : ℕ × ℕ × ℤ). with_number f o x.0 x.1 x.2)) t

-- ---- the text of an instruction

alone_ecall : guessed (instr_text Ecall) ≡ Some Ecall
unfolding guessed named place name_of op_name operands
alone_ecall = refl

alone_ebreak : guessed (instr_text Ebreak) ≡ Some Ebreak
unfolding guessed named place name_of op_name operands
alone_ebreak = refl

pub instr_again : (i : Instr) → IsInstr i → guessed (instr_text i) ≡ Some i
unfolding operands
instr_again (Upper o rd imm) h =
    let fits : mag imm < 2 ^ 31 = within_small (2 ^ 31) imm (omega arith) h.valid.1.0 in
    let f : op_form o ≡ form.Upper = upper_form o rd imm h.valid in
    one_line (mnemonic.Table o) rd imm h.registers fits
    ∙ ap (λ (g : Form). of_form g o (120 ∷ decimal rd) (signed_decimal imm) []) f
    ∙ ap (option_map (λ (x : ℕ × ℤ). Upper o x.0 x.1)) (one_again rd imm h.registers fits)
instr_again (Jal rd imm) h =
    let fits : mag imm < 2 ^ 31 = within_small (2 ^ 20) imm (omega arith) h.valid.0 in
    one_line mnemonic.Jal rd imm h.registers fits ∙ ap (option_map (λ (x : ℕ × ℤ). Jal x.0 x.1)) (one_again rd imm h.registers fits)
instr_again (Jalr rd rs1 imm) h =
    let fits : mag imm < 2 ^ 31 = within_small (2 ^ 11) imm (omega arith) h.valid in
    two_line mnemonic.Jalr rd rs1 (signed_decimal imm) h.registers.0 h.registers.1
    ∙ ap (option_map (λ (x : ℕ × ℕ × ℤ). Jalr x.0 x.1 x.2)) (two_again rd rs1 imm h.registers.0 h.registers.1 fits)
instr_again (Branch o rs1 rs2 imm) h =
    let fits : mag imm < 2 ^ 31 = within_small (2 ^ 12) imm (omega arith) h.valid.1.0 in
    two_line (mnemonic.Table o) rs1 rs2 (signed_decimal imm) h.registers.0 h.registers.1
    ∙ two_made o form.Branch rs1 rs2 imm (120 ∷ decimal rs1) (120 ∷ decimal rs2) (signed_decimal imm) (branch_form o rs1 rs2 imm h.valid) (two_again rs1 rs2 imm h.registers.0 h.registers.1 fits) refl
instr_again (Load o rd rs1 imm) h =
    let fits : mag imm < 2 ^ 31 = within_small (2 ^ 11) imm (omega arith) h.valid.1 in
    two_line (mnemonic.Table o) rd rs1 (signed_decimal imm) h.registers.0 h.registers.1
    ∙ two_made o form.Load rd rs1 imm (120 ∷ decimal rd) (120 ∷ decimal rs1) (signed_decimal imm) (load_form o rd rs1 imm h.valid) (two_again rd rs1 imm h.registers.0 h.registers.1 fits) refl
instr_again (Save o rs1 rs2 imm) h =
    let fits : mag imm < 2 ^ 31 = within_small (2 ^ 11) imm (omega arith) h.valid.1 in
    two_line (mnemonic.Table o) rs1 rs2 (signed_decimal imm) h.registers.0 h.registers.1
    ∙ two_made o form.Save rs1 rs2 imm (120 ∷ decimal rs1) (120 ∷ decimal rs2) (signed_decimal imm) (save_form o rs1 rs2 imm h.valid) (two_again rs1 rs2 imm h.registers.0 h.registers.1 fits) refl
instr_again (Imm o rd rs1 imm) h =
    let fits : mag imm < 2 ^ 31 = fits_small o rd rs1 imm h.valid in
    two_line (mnemonic.Table o) rd rs1 (signed_decimal imm) h.registers.0 h.registers.1
    ∙ imm_made o rd rs1 imm (120 ∷ decimal rd) (120 ∷ decimal rs1) (signed_decimal imm) h.valid (two_again rd rs1 imm h.registers.0 h.registers.1 fits)
instr_again (Three o rd rs1 rs2) h =
    two_line (mnemonic.Table o) rd rs1 (120 ∷ decimal rs2) h.registers.0 h.registers.1
    ∙ ap (λ (g : Form). of_form g o (120 ∷ decimal rd) (120 ∷ decimal rs1) (120 ∷ decimal rs2)) (three_form o rd rs1 rs2 h.valid)
    ∙ ap (option_map (λ (x : ℕ × ℕ × ℕ). Three o x.0 x.1 x.2)) (registers_again rd rs1 rs2 h.registers.0 h.registers.1 h.registers.2)
instr_again (Fence rd rs1 imm) h =
    let fits : mag imm < 2 ^ 31 = within_small (2 ^ 11) imm (omega arith) h.valid in
    two_line mnemonic.Fence rd rs1 (signed_decimal imm) h.registers.0 h.registers.1
    ∙ ap (option_map (λ (x : ℕ × ℕ × ℤ). Fence x.0 x.1 x.2)) (two_again rd rs1 imm h.registers.0 h.registers.1 fits)
instr_again Ecall h = alone_ecall
instr_again Ebreak h = alone_ebreak

-- another word's text is that of no instruction
pub word_unread : (digits : List ℕ) → guessed (codes "word " ++ digits) ≡ None
unfolding guessed named place name_of op_name
word_unread digits = refl

-- the text of a code word is that of its instruction, or of a word that is none
abbrev pub CodeCases : ℕ → Type 0
CodeCases w = ((i : Instr) × IsWordOf w i × (code_text w ≡ instr_text i)) ⊎ ((decoded w ≡ None) × (code_text w ≡ word_text w))

cases_by : (o : Option Instr) (w : ℕ) → IfSome o (IsWordOf w) → ((i : Instr) × IsWordOf w i × (option_map_or instr_text o (word_text w) ≡ instr_text i)) ⊎ ((o ≡ None) × (option_map_or instr_text o (word_text w) ≡ word_text w))
cases_by None w h = inr (refl, refl)
cases_by (Some i) w h = inl (i, h, refl)

pub code_cases : (w : ℕ) → w < 2 ^ 32 → CodeCases w
unfolding code_text
code_cases w lt = cases_by (decoded w) w (encoded-decoded w lt)
