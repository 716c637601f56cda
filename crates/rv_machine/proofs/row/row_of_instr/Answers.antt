use Rattle.std.proofs.Common.{◌∙◌, Some, ap, sym, w32, FitsSigned, rules}
use Rattle.std.proofs.lemmas.Int.{to_z-of_z}
use Rattle.rv_isa.specs.declared.instr.Instr.TheVariants as instr
use Rattle.rv_machine.specs.Rows.{HasForm}
use Rattle.rv_machine.proofs.row.row_of_instr.Goals as goal

pub returns-in-Upper : goal.returns-in-Upper
returns-in-Upper c =
    let fits : FitsSigned w32 c.in-Upper.imm = search rules in
    let form : HasForm (instr.Upper c.in-Upper.op c.in-Upper.rd c.in-Upper.imm) = rw c.in-Upper.is at c.requires in
    (rw (to_z-of_z w32 c.in-Upper.imm fits) at c.new.ensures) ∙ c.code_of.ensures c.in-Upper.rd c.zero-x0.result c.zero-x0.result c.in-Upper.imm ∙ ap Some (form c.in-Upper.rd c.zero-x0.result c.zero-x0.result c.in-Upper.imm ∙ sym c.in-Upper.is)

pub returns-in-Branch : goal.returns-in-Branch
returns-in-Branch c =
    let fits : FitsSigned w32 c.in-Branch.imm = search rules in
    let form : HasForm (instr.Branch c.in-Branch.op c.in-Branch.rs1 c.in-Branch.rs2 c.in-Branch.imm) = rw c.in-Branch.is at c.requires in
    (rw (to_z-of_z w32 c.in-Branch.imm fits) at c.new-in-Branch.ensures) ∙ c.code_of-in-Branch.ensures c.zero-x0.result c.in-Branch.rs1 c.in-Branch.rs2 c.in-Branch.imm ∙ ap Some (form c.zero-x0.result c.in-Branch.rs1 c.in-Branch.rs2 c.in-Branch.imm ∙ sym c.in-Branch.is)

pub returns-in-Load : goal.returns-in-Load
returns-in-Load c =
    let fits : FitsSigned w32 c.in-Load.imm = search rules in
    let form : HasForm (instr.Load c.in-Load.op c.in-Load.rd c.in-Load.rs1 c.in-Load.imm) = rw c.in-Load.is at c.requires in
    (rw (to_z-of_z w32 c.in-Load.imm fits) at c.new-in-Load.ensures) ∙ c.code_of-in-Load.ensures c.in-Load.rd c.in-Load.rs1 c.zero-x0.result c.in-Load.imm ∙ ap Some (form c.in-Load.rd c.in-Load.rs1 c.zero-x0.result c.in-Load.imm ∙ sym c.in-Load.is)

pub returns-in-Save : goal.returns-in-Save
returns-in-Save c =
    let fits : FitsSigned w32 c.in-Save.imm = search rules in
    let form : HasForm (instr.Save c.in-Save.op c.in-Save.rs1 c.in-Save.rs2 c.in-Save.imm) = rw c.in-Save.is at c.requires in
    (rw (to_z-of_z w32 c.in-Save.imm fits) at c.new-in-Save.ensures) ∙ c.code_of-in-Save.ensures c.zero-x0.result c.in-Save.rs1 c.in-Save.rs2 c.in-Save.imm ∙ ap Some (form c.zero-x0.result c.in-Save.rs1 c.in-Save.rs2 c.in-Save.imm ∙ sym c.in-Save.is)

pub returns-in-Imm : goal.returns-in-Imm
returns-in-Imm c =
    let fits : FitsSigned w32 c.in-Imm.imm = search rules in
    let form : HasForm (instr.Imm c.in-Imm.op c.in-Imm.rd c.in-Imm.rs1 c.in-Imm.imm) = rw c.in-Imm.is at c.requires in
    (rw (to_z-of_z w32 c.in-Imm.imm fits) at c.new-in-Imm.ensures) ∙ c.code_of-in-Imm.ensures c.in-Imm.rd c.in-Imm.rs1 c.zero-x0.result c.in-Imm.imm ∙ ap Some (form c.in-Imm.rd c.in-Imm.rs1 c.zero-x0.result c.in-Imm.imm ∙ sym c.in-Imm.is)
