use Rattle.clu_asm.proofs.EntryLemmas.{entry_within, entry_so}
use Rattle.clu_asm.proofs.FrontLemmas.{yes, not_so}
use Rattle.clu_asm.proofs.reading.begins_entry.Goals as goal

pub returns-then-is_front : goal.returns-then-is_front
returns-then-is_front c = yes (entry_within c.args.cut.now (c.is_front.ensures.0 c.if-is_front.true))

pub returns-else-is_front : goal.returns-else-is_front
returns-else-is_front c =
    entry_so c.args.cut.now c.entry.result c.is_some.result c.is_some.ensures (not_so c.is_front.result c.if-is_front.false c.is_front.ensures) c.entry.ensures.text c.entry.ensures.bound c.entry.ensures.only
