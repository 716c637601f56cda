-- The word of an instruction is that instruction.

use Rattle.std.proofs.Common.{◌≡◌, ℕ, ℤ, pos, negsuc, ◌+◌, ◌*◌, ◌%◌, ◌^◌, ◌<◌, Option, Some, None, IfNone, refl, arith, ◌∙◌}
use Rattle.std.proofs.lemmas.Int.{ints}
use Rattle.std.specs.Int.{w32, cast_unsigned}
use Rattle.rv_isa.specs.declared.op.Form.{Form}
use Rattle.rv_isa.specs.declared.op.Form.TheVariants as form
use Rattle.rv_isa.specs.declared.op.Op.{Op}
use Rattle.rv_isa.specs.declared.instr.Instr.{Instr}
use Rattle.rv_isa.specs.declared.instr.Instr.TheVariants.{Upper, Jal, Jalr, Branch, Load, Save, Imm, Three, Fence, Ecall, Ebreak}
use Rattle.rv_isa.specs.Table.{row_of}
use Rattle.rv_isa.specs.Fields.{bits_of, opcode_of, rd_of, funct3_of, rs1_of, rs2_of, funct6_of, funct7_of, i_imm, s_imm, b_imm, u_imm, j_imm}
use Rattle.rv_isa.specs.Valid.{IsInstr, IsWithin, IsDistance, IsUpper, FitsForm}
use Rattle.rv_isa.specs.Decoded.{named, named_by, instr_of, decoded}
use Rattle.rv_isa.specs.Encoded.{encoded, imm_word, IsWordOf}
use Rattle.rv_isa.proofs.Immediates.{shortened_12, shortened_13, shortened_21, upper_bits}
use Rattle.rv_isa.proofs.RowLemmas.{fields_of, named_by-own, funct3_in, funct6_in, funct7_in}

-- the fields of w are those of the row of op, where its form names them
record IsNamed (op : Op) (w : ℕ) : Type 0 where
  opcode : opcode_of w ≡ (row_of op).opcode
  funct3 : funct3_of w ≡ funct3_in (row_of op).form (row_of op).funct3 (funct3_of w)
  funct6 : funct6_of w ≡ funct6_in (row_of op).form (row_of op).funct7 (funct6_of w)
  funct7 : funct7_of w ≡ funct7_in (row_of op).form (row_of op).funct7 (funct7_of w)

decoded-named : (op : Op) (w : ℕ) → IsNamed op w → decoded w ≡ Some (instr_of (row_of op).form op w)
decoded-named op w h =
    let e : named w ≡ Some op =
    rw (h.opcode, h.funct3, h.funct6, h.funct7) (named_by-own op (funct3_of w) (funct6_of w) (funct7_of w)) in
    rw e refl

-- each form of word, read again

upper_back : (op : Op) (rd : ℕ) (imm : ℤ) (w : ℕ) → (row_of op).form ≡ form.Upper → IsUpper imm → rd < 32
    → w ≡ encoded (Upper op rd imm) → decoded w ≡ Some (Upper op rd imm)
upper_back op rd imm w f u d e =
    let r = fields_of op in
    let names : IsNamed op w = record { opcode = omega arith; funct3 = rw f refl; funct6 = rw f refl; funct7 = rw f refl } in
    let rd_is : rd_of w ≡ rd = omega arith in
    let bits : bits_of w 12 20 ≡ bits_of (cast_unsigned w32 imm) 12 20 = omega arith in
    let imm_is : u_imm w ≡ imm = rw bits (upper_bits imm u) in
    decoded-named op w names ∙ rw (f, rd_is, imm_is) refl

branch_back : (op : Op) (rs1 rs2 : ℕ) (imm : ℤ) (w : ℕ) → (row_of op).form ≡ form.Branch → IsDistance (2 ^ 12) imm → rs1 < 32 → rs2 < 32
    → w ≡ encoded (Branch op rs1 rs2 imm) → decoded w ≡ Some (Branch op rs1 rs2 imm)
branch_back op rs1 rs2 imm w f b s t e =
    let r = fields_of op in
    let n = cast_unsigned w32 imm in
    let names : IsNamed op w = record { opcode = omega arith; funct3 = rw f (omega arith); funct6 = rw f refl; funct7 = rw f refl } in
    let rs1_is : rs1_of w ≡ rs1 = omega arith in
    let rs2_is : rs2_of w ≡ rs2 = omega arith in
    let bits : bits_of w 31 1 * 2 ^ 12 + bits_of w 7 1 * 2 ^ 11 + bits_of w 25 6 * 2 ^ 5 + bits_of w 8 4 * 2 ≡ cast_unsigned w32 imm % 2 ^ 13 = omega arith in
    let imm_is : b_imm w ≡ imm = rw bits (shortened_13 imm b.0) in
    decoded-named op w names ∙ rw (f, rs1_is, rs2_is, imm_is) refl

load_back : (op : Op) (rd rs1 : ℕ) (imm : ℤ) (w : ℕ) → (row_of op).form ≡ form.Load → IsWithin (2 ^ 11) imm → rd < 32 → rs1 < 32
    → w ≡ encoded (Load op rd rs1 imm) → decoded w ≡ Some (Load op rd rs1 imm)
load_back op rd rs1 imm w f b d s e =
    let r = fields_of op in
    let names : IsNamed op w = record { opcode = omega arith; funct3 = rw f (omega arith); funct6 = rw f refl; funct7 = rw f refl } in
    let rd_is : rd_of w ≡ rd = omega arith in
    let rs1_is : rs1_of w ≡ rs1 = omega arith in
    let bits : bits_of w 20 12 ≡ cast_unsigned w32 imm % 2 ^ 12 = omega arith in
    let imm_is : i_imm w ≡ imm = rw bits (shortened_12 imm b) in
    decoded-named op w names ∙ rw (f, rd_is, rs1_is, imm_is) refl

save_back : (op : Op) (rs1 rs2 : ℕ) (imm : ℤ) (w : ℕ) → (row_of op).form ≡ form.Save → IsWithin (2 ^ 11) imm → rs1 < 32 → rs2 < 32
    → w ≡ encoded (Save op rs1 rs2 imm) → decoded w ≡ Some (Save op rs1 rs2 imm)
save_back op rs1 rs2 imm w f b s t e =
    let r = fields_of op in
    let names : IsNamed op w = record { opcode = omega arith; funct3 = rw f (omega arith); funct6 = rw f refl; funct7 = rw f refl } in
    let rs1_is : rs1_of w ≡ rs1 = omega arith in
    let rs2_is : rs2_of w ≡ rs2 = omega arith in
    let bits : bits_of w 25 7 * 2 ^ 5 + bits_of w 7 5 ≡ cast_unsigned w32 imm % 2 ^ 12 = omega arith in
    let imm_is : s_imm w ≡ imm = rw bits (shortened_12 imm b) in
    decoded-named op w names ∙ rw (f, rs1_is, rs2_is, imm_is) refl

three_back : (op : Op) (rd rs1 rs2 w : ℕ) → (row_of op).form ≡ form.Three → rd < 32 → rs1 < 32 → rs2 < 32
    → w ≡ encoded (Three op rd rs1 rs2) → decoded w ≡ Some (Three op rd rs1 rs2)
three_back op rd rs1 rs2 w f d s t e =
    let r = fields_of op in
    let names : IsNamed op w = record { opcode = omega arith; funct3 = rw f (omega arith); funct6 = rw f refl; funct7 = rw f (omega arith) } in
    let rd_is : rd_of w ≡ rd = omega arith in
    let rs1_is : rs1_of w ≡ rs1 = omega arith in
    let rs2_is : rs2_of w ≡ rs2 = omega arith in
    decoded-named op w names ∙ rw (f, rd_is, rs1_is, rs2_is) refl

imm_back : (f : Form) (op : Op) (rd rs1 : ℕ) (imm : ℤ) (w : ℕ) → (row_of op).form ≡ f → FitsForm f imm → rd < 32 → rs1 < 32
    → w ≡ imm_word f (row_of op) rd rs1 (cast_unsigned w32 imm) → decoded w ≡ Some (Imm op rd rs1 imm)
imm_back form.Imm op rd rs1 imm w f b d s e =
    let r = fields_of op in
    let names : IsNamed op w = record { opcode = omega arith; funct3 = rw f (omega arith); funct6 = rw f refl; funct7 = rw f refl } in
    let rd_is : rd_of w ≡ rd = omega arith in
    let rs1_is : rs1_of w ≡ rs1 = omega arith in
    let bits : bits_of w 20 12 ≡ cast_unsigned w32 imm % 2 ^ 12 = omega arith in
    let imm_is : i_imm w ≡ imm = rw bits (shortened_12 imm b) in
    decoded-named op w names ∙ rw (f, rd_is, rs1_is, imm_is) refl
imm_back form.Shift op rd rs1 (pos n) w f b d s e =
    let r = fields_of op in
    let small : n < 64 = omega (arith, ints) in
    let names : IsNamed op w = record { opcode = omega arith; funct3 = rw f (omega arith); funct6 = rw f (omega arith); funct7 = rw f refl } in
    let rd_is : rd_of w ≡ rd = omega arith in
    let rs1_is : rs1_of w ≡ rs1 = omega arith in
    let amount_is : bits_of w 20 6 ≡ n = omega arith in
    decoded-named op w names ∙ rw (f, rd_is, rs1_is, amount_is) refl
imm_back form.ShiftWord op rd rs1 (pos n) w f b d s e =
    let r = fields_of op in
    let small : n < 32 = omega (arith, ints) in
    let names : IsNamed op w = record { opcode = omega arith; funct3 = rw f (omega arith); funct6 = rw f refl; funct7 = rw f (omega arith) } in
    let rd_is : rd_of w ≡ rd = omega arith in
    let rs1_is : rs1_of w ≡ rs1 = omega arith in
    let amount_is : bits_of w 20 5 ≡ n = omega arith in
    decoded-named op w names ∙ rw (f, rd_is, rs1_is, amount_is) refl
imm_back form.Shift op rd rs1 (negsuc n) w f b d s e = absurd (omega (arith, ints))
imm_back form.ShiftWord op rd rs1 (negsuc n) w f b d s e = absurd (omega (arith, ints))
imm_back form.Upper op rd rs1 imm w f b d s e = absurd b
imm_back form.Branch op rd rs1 imm w f b d s e = absurd b
imm_back form.Load op rd rs1 imm w f b d s e = absurd b
imm_back form.Save op rd rs1 imm w f b d s e = absurd b
imm_back form.Three op rd rs1 imm w f b d s e = absurd b

-- the words that no mnemonic names

jal_back : (rd : ℕ) (imm : ℤ) (w : ℕ) → IsDistance (2 ^ 20) imm → rd < 32 → w ≡ encoded (Jal rd imm) → decoded w ≡ Some (Jal rd imm)
unfolding named_by
jal_back rd imm w b d e =
    let opcode : opcode_of w ≡ 0x6f = omega arith in
    let rd_is : rd_of w ≡ rd = omega arith in
    let bits : bits_of w 31 1 * 2 ^ 20 + bits_of w 12 8 * 2 ^ 12 + bits_of w 20 1 * 2 ^ 11 + bits_of w 21 10 * 2 ≡ cast_unsigned w32 imm % 2 ^ 21 = omega arith in
    let imm_is : j_imm w ≡ imm = rw bits (shortened_21 imm b.0) in
    rw (opcode, rd_is, imm_is) refl

jalr_back : (rd rs1 : ℕ) (imm : ℤ) (w : ℕ) → IsWithin (2 ^ 11) imm → rd < 32 → rs1 < 32 → w ≡ encoded (Jalr rd rs1 imm) → decoded w ≡ Some (Jalr rd rs1 imm)
unfolding named_by
jalr_back rd rs1 imm w b d s e =
    let opcode : opcode_of w ≡ 0x67 = omega arith in
    let funct3 : funct3_of w ≡ 0 = omega arith in
    let rd_is : rd_of w ≡ rd = omega arith in
    let rs1_is : rs1_of w ≡ rs1 = omega arith in
    let bits : bits_of w 20 12 ≡ cast_unsigned w32 imm % 2 ^ 12 = omega arith in
    let imm_is : i_imm w ≡ imm = rw bits (shortened_12 imm b) in
    rw (opcode, funct3, rd_is, rs1_is, imm_is) refl

fence_back : (rd rs1 : ℕ) (imm : ℤ) (w : ℕ) → IsWithin (2 ^ 11) imm → rd < 32 → rs1 < 32 → w ≡ encoded (Fence rd rs1 imm) → decoded w ≡ Some (Fence rd rs1 imm)
unfolding named_by
fence_back rd rs1 imm w b d s e =
    let opcode : opcode_of w ≡ 0x0f = omega arith in
    let funct3 : funct3_of w ≡ 0 = omega arith in
    let rd_is : rd_of w ≡ rd = omega arith in
    let rs1_is : rs1_of w ≡ rs1 = omega arith in
    let bits : bits_of w 20 12 ≡ cast_unsigned w32 imm % 2 ^ 12 = omega arith in
    let imm_is : i_imm w ≡ imm = rw bits (shortened_12 imm b) in
    rw (opcode, funct3, rd_is, rs1_is, imm_is) refl

pub decoded-encoded : (i : Instr) → IsInstr i → decoded (encoded i) ≡ Some i
unfolding named_by
decoded-encoded (Upper op rd imm) h = upper_back op rd imm _ h.valid.0 h.valid.1 h.registers refl
decoded-encoded (Jal rd imm) h = jal_back rd imm _ h.valid h.registers refl
decoded-encoded (Jalr rd rs1 imm) h = jalr_back rd rs1 imm _ h.valid h.registers.0 h.registers.1 refl
decoded-encoded (Branch op rs1 rs2 imm) h = branch_back op rs1 rs2 imm _ h.valid.0 h.valid.1 h.registers.0 h.registers.1 refl
decoded-encoded (Load op rd rs1 imm) h = load_back op rd rs1 imm _ h.valid.0 h.valid.1 h.registers.0 h.registers.1 refl
decoded-encoded (Save op rs1 rs2 imm) h = save_back op rs1 rs2 imm _ h.valid.0 h.valid.1 h.registers.0 h.registers.1 refl
decoded-encoded (Imm op rd rs1 imm) h = imm_back (row_of op).form op rd rs1 imm _ refl h.valid h.registers.0 h.registers.1 refl
decoded-encoded (Three op rd rs1 rs2) h = three_back op rd rs1 rs2 _ h.valid h.registers.0 h.registers.1 h.registers.2 refl
decoded-encoded (Fence rd rs1 imm) h = fence_back rd rs1 imm _ h.valid h.registers.0 h.registers.1 refl
decoded-encoded Ecall h = refl
decoded-encoded Ebreak h = refl

-- a word that is no instruction is the word of none

none_of : (w : ℕ) (found : Option Instr) → decoded w ≡ found → IfNone found ((i : Instr) → ¬ IsWordOf w i)
none_of w None e = λ i h. let back : decoded (encoded i) ≡ Some i = decoded-encoded i h.instr in
    let here : decoded w ≡ Some i = rw h.word at back in
    cc
none_of w (Some i) e = tt

pub decoded-none : (w : ℕ) → IfNone (decoded w) ((i : Instr) → ¬ IsWordOf w i)
decoded-none w = none_of w (decoded w) refl
