use Rattle.clu_asm.proofs.CutLemmas.{instr_any}
use Rattle.clu_asm.proofs.FrontLemmas.{both}
use Rattle.clu_asm.proofs.cut_lines.begins_instr.Goals as goal

pub returns : goal.returns
returns c = both c.begins_one.ensures (instr_any c.args.cut.now)
