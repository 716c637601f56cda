use Rattle.clu_asm.proofs.PlaceLemmas.{line_splits, line_free}
use Rattle.clu_asm.proofs.places.first_line.Goals as goal

pub returns-then-at-text-clause-splits : goal.returns-then-at-text-clause-splits
returns-then-at-text-clause-splits c = line_splits c.place-at.result c.args.text.now c.place-at.ensures.value c.if-at-text.true

pub returns-then-at-text-clause-free : goal.returns-then-at-text-clause-free
returns-then-at-text-clause-free c = line_free c.place-at.result c.args.text.now c.place-at.ensures.value c.if-at-text.true
