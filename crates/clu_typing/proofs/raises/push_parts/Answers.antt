use Rattle.std.proofs.Common.{flat_map}
use Rattle.clu_typing.specs.Facts.{raised_at}
use Rattle.clu_typing.specs.Raises.{parts, raised_told}
use Rattle.clu_typing.proofs.Gathered.{parts_gathered}
use Rattle.clu_typing.proofs.raises.push_parts.Goals as goal

pub returns-clause-parts : goal.returns-clause-parts
returns-clause-parts c = λ terms empty right sets.
    let facts = c.args.facts.now in
    c.push_guarded.ensures.passed terms (flat_map (raised_told terms facts) (parts c.args.file c.args.n)) sets
    (parts_gathered terms facts.finding.words facts.raising right (raised_at facts) sets c.args.list.now.items c.push_raised.new.list.items c.parts.result.now (parts c.args.file c.args.n)
    empty c.parts.ensures c.in_ok-push_raised.ensures)
