-- A decoded instruction is of its mnemonic's form.
use Rattle.std.proofs.Common.{ℕ, Bool, true, false, cond, Option, Some, None, refl}
use Rattle.std.specs.Prelude.{IfSome, ◌==◌, ◌&&◌}
use Rattle.rv_isa.specs.declared.op.Op.{Op}
use Rattle.rv_isa.specs.declared.op.Op.TheVariants as op
use Rattle.rv_isa.specs.declared.instr.Instr.{Instr}
use Rattle.rv_isa.specs.Decoded.{decoded, named, unnamed, instr_of}
use Rattle.rv_isa.specs.declared.instr.Instr.TheVariants as instr
use Rattle.rv_isa.specs.Fields.{opcode_of, funct3_of}
use Rattle.rv_isa.specs.Table.{row_of}
use Rattle.rv_machine.specs.Rows.{HasForm}

of_mnemonic : (op : Op) (w : ℕ) → HasForm (instr_of (row_of op).form op w)
of_mnemonic op.Lui w = λ rd rs1 rs2 imm. refl
of_mnemonic other w = λ rd rs1 rs2 imm. refl

tested : (b : Bool) (x y : Option Instr) → IfSome x HasForm → IfSome y HasForm → IfSome (cond b x y) HasForm
tested true x y p q = p
tested false x y p q = q

unnamed_formed : (w : ℕ) → IfSome (unnamed w) HasForm
unnamed_formed w =
    let known : Unit {0} = tt in
    tested (opcode_of w == 0x6f) _ _ known
    (tested (opcode_of w == 0x67 && funct3_of w == 0) _ _ known
    (tested (opcode_of w == 0x0f && funct3_of w == 0) _ _ known
    (tested (w == 0x73) (Some instr.Ecall) _ known
    (tested (w == 0x100073) (Some instr.Ebreak) None known known))))

pub formed : (w : ℕ) → IfSome (decoded w) HasForm
formed w = elim (named w) as (λ o. IfSome (Rattle.std.specs.Option.option_map_or (λ op. Some (instr_of (row_of op).form op w)) o (unnamed w)) HasForm) [ None ↦ unnamed_formed w | Some op ↦ of_mnemonic op w ]
