use Rattle.clu_asm.proofs.FaultLemmas.{cut_entry_on, cut_entry_bad}
use Rattle.clu_asm.proofs.FrontLemmas.{not_so}
use Rattle.clu_asm.proofs.reading.cut_entry.Goals as goal

pub returns-then-begins_entry : goal.returns-then-begins_entry
returns-then-begins_entry c = cut_entry_on c.args.b.now (c.begins_entry.ensures.0 c.if-begins_entry.true)

pub returns-else-begins_entry : goal.returns-else-begins_entry
returns-else-begins_entry c = cut_entry_bad c.args.b.now c.requires (not_so c.begins_entry.result c.if-begins_entry.false c.begins_entry.ensures)
