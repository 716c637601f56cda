-- The instruction that a word is has that word.

use Rattle.std.proofs.Common.{◌≡◌, ℕ, ◌^◌, ◌<◌, ◌==◌, ◌&&◌, Bool, true, false, cond, Option, Some, None, IfSome, refl, arith, sym}
use Rattle.std.proofs.lemmas.Bool.Decides.{nat_tests}
use Rattle.std.proofs.lemmas.Int.{ints}
use Rattle.std.specs.Option.{option_map_or}
use Rattle.rv_isa.specs.declared.op.Form.{Form}
use Rattle.rv_isa.specs.declared.op.Form.TheVariants as form
use Rattle.rv_isa.specs.declared.op.Op.{Op}
use Rattle.rv_isa.specs.declared.instr.Instr.{Instr}
use Rattle.rv_isa.specs.declared.instr.Instr.TheVariants.{Jal, Jalr, Fence}
use Rattle.rv_isa.specs.Table.{row_of, is_named}
use Rattle.rv_isa.specs.Fields.{opcode_of, rd_of, funct3_of, rs1_of, funct6_of, funct7_of, i_imm, j_imm}
use Rattle.rv_isa.specs.Decoded.{named, instr_of, unnamed, decoded}
use Rattle.rv_isa.specs.Encoded.{IsWordOf}
use Rattle.rv_isa.proofs.Immediates.{i_of, s_of, b_of, u_of, j_of}
use Rattle.rv_isa.proofs.RowLemmas.{has_row-named}

-- what a true test of two fields says
both : (a b : Bool) → a && b ≡ true → (a ≡ true) × (b ≡ true)
both true true e = (refl, refl)
both true false e = cc
both false b e = cc

same : (m n : ℕ) → (m == n) ≡ true → m ≡ n
same m n e = grind (arith, nat_tests)

-- a word with the fields of a row, by the row's form
of_form : (f : Form) (op : Op) (w : ℕ) → w < 2 ^ 32 → (row_of op).form ≡ f → (row_of op).opcode ≡ opcode_of w
    → is_named f (row_of op) (funct3_of w) (funct6_of w) (funct7_of w) ≡ true → IsWordOf w (instr_of f op w)
of_form form.Upper op w h f o n =
    let u = u_of w in
    record { instr = record { valid = (f, u.upper); registers = omega arith }; word = omega arith }
of_form form.Branch op w h f o n =
    let b = b_of w in
    let g = same (row_of op).funct3 (funct3_of w) n in
    record { instr = record { valid = (f, b.distance); registers = (omega arith, omega arith) }; word = omega arith }
of_form form.Load op w h f o n =
    let i = i_of w in
    let g = same (row_of op).funct3 (funct3_of w) n in
    record { instr = record { valid = (f, i.within); registers = (omega arith, omega arith) }; word = omega arith }
of_form form.Save op w h f o n =
    let s = s_of w in
    let g = same (row_of op).funct3 (funct3_of w) n in
    record { instr = record { valid = (f, s.within); registers = (omega arith, omega arith) }; word = omega arith }
of_form form.Imm op w h f o n =
    let i = i_of w in
    let g = same (row_of op).funct3 (funct3_of w) n in
    record { instr = record { valid = rw f i.within; registers = (omega arith, omega arith) }; word = rw f (omega arith) }
of_form form.Shift op w h f o n =
    let t = both ((row_of op).funct3 == funct3_of w) ((row_of op).funct7 == funct6_of w) n in
    let g = same (row_of op).funct3 (funct3_of w) t.0 in
    let k = same (row_of op).funct7 (funct6_of w) t.1 in
    record {
      instr = record { valid = rw f (omega (arith, ints), omega (arith, ints)); registers = (omega arith, omega arith) };
      word = rw f (omega arith);
    }
of_form form.ShiftWord op w h f o n =
    let t = both ((row_of op).funct3 == funct3_of w) ((row_of op).funct7 == funct7_of w) n in
    let g = same (row_of op).funct3 (funct3_of w) t.0 in
    let k = same (row_of op).funct7 (funct7_of w) t.1 in
    record {
      instr = record { valid = rw f (omega (arith, ints), omega (arith, ints)); registers = (omega arith, omega arith) };
      word = rw f (omega arith);
    }
of_form form.Three op w h f o n =
    let t = both ((row_of op).funct3 == funct3_of w) ((row_of op).funct7 == funct7_of w) n in
    let g = same (row_of op).funct3 (funct3_of w) t.0 in
    let k = same (row_of op).funct7 (funct7_of w) t.1 in
    record { instr = record { valid = f; registers = (omega arith, omega arith, omega arith) }; word = omega arith }

-- a word that no mnemonic of the table names

tested : (b : Bool) (x y : Option Instr) (P : Instr → Type 0) → (b ≡ true → IfSome x P) → IfSome y P → IfSome (cond b x y) P
tested true x y P f g = f refl
tested false x y P f g = g

of_jal : (w : ℕ) → w < 2 ^ 32 → opcode_of w ≡ 0x6f → IsWordOf w (Jal (rd_of w) (j_imm w))
of_jal w h o =
    let j = j_of w in
    record { instr = record { valid = j.distance; registers = omega arith }; word = omega arith }

of_jalr : (w : ℕ) → w < 2 ^ 32 → opcode_of w ≡ 0x67 → funct3_of w ≡ 0 → IsWordOf w (Jalr (rd_of w) (rs1_of w) (i_imm w))
of_jalr w h o g =
    let i = i_of w in
    record { instr = record { valid = i.within; registers = (omega arith, omega arith) }; word = omega arith }

of_fence : (w : ℕ) → w < 2 ^ 32 → opcode_of w ≡ 0x0f → funct3_of w ≡ 0 → IsWordOf w (Fence (rd_of w) (rs1_of w) (i_imm w))
of_fence w h o g =
    let i = i_of w in
    record { instr = record { valid = i.within; registers = (omega arith, omega arith) }; word = omega arith }

of_unnamed : (w : ℕ) → w < 2 ^ 32 → IfSome (unnamed w) (IsWordOf w)
of_unnamed w h =
    tested (opcode_of w == 0x6f) _ _ (IsWordOf w) (λ t. of_jal w h (same (opcode_of w) 0x6f t))
    (tested (opcode_of w == 0x67 && funct3_of w == 0) _ _ (IsWordOf w)
    (λ t. let fields = both (opcode_of w == 0x67) (funct3_of w == 0) t in
    of_jalr w h (same (opcode_of w) 0x67 fields.0) (same (funct3_of w) 0 fields.1))
    (tested (opcode_of w == 0x0f && funct3_of w == 0) _ _ (IsWordOf w)
    (λ t. let fields = both (opcode_of w == 0x0f) (funct3_of w == 0) t in
    of_fence w h (same (opcode_of w) 0x0f fields.0) (same (funct3_of w) 0 fields.1))
    (tested (w == 0x73) _ _ (IsWordOf w)
    (λ t. record { instr = record { valid = tt; registers = tt }; word = sym (same w 0x73 t) })
    (tested (w == 0x100073) _ _ (IsWordOf w)
    (λ t. record { instr = record { valid = tt; registers = tt }; word = sym (same w 0x100073 t) })
    tt))))

of_named : (w : ℕ) (found : Option Op) → w < 2 ^ 32 → named w ≡ found
    → IfSome (option_map_or (λ op. Some (instr_of (row_of op).form op w)) found (unnamed w)) (IsWordOf w)
of_named w None h e = of_unnamed w h
of_named w (Some op) h e =
    let t = has_row-named (opcode_of w) (funct3_of w) (funct6_of w) (funct7_of w) op e in
    let parts = both ((row_of op).opcode == opcode_of w) (is_named (row_of op).form (row_of op) (funct3_of w) (funct6_of w) (funct7_of w)) t in
    of_form (row_of op).form op w h refl (same (row_of op).opcode (opcode_of w) parts.0) parts.1

pub encoded-decoded : (w : ℕ) → w < 2 ^ 32 → IfSome (decoded w) (IsWordOf w)
encoded-decoded w h = of_named w (named w) h refl
