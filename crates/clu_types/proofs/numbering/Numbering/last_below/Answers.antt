use Rattle.clu_types.proofs.Ends.{last_entry}
use Rattle.clu_types.proofs.numbering.Numbering.last_below.Goals as goal

pub returns-in-Some : goal.returns-in-Some
returns-in-Some c =
    let ends = c.range.ensures.in_range tt in
    last_entry c.args.self.now.entries c.args.n c.in-Some.last.now _ (ends.3 _ _ c.in-Some.ensures.steps) (ends.4 _ _ c.in-Some.ensures.steps)
