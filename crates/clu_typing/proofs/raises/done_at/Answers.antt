use Rattle.std.proofs.Common.{rules}
use Rattle.clu_typing.proofs.Gathered.{but_on, done_if}
use Rattle.clu_typing.proofs.raises.done_at.Goals as goal

pub returns-clause-kept : goal.returns-clause-kept
returns-clause-kept c =
    let its = but_on c.args.facts.now c.push_parts.new.facts c.push_own.new.facts c.in_ok-push_parts.ensures.kept c.in_ok-push_own.ensures.kept in
    record { types = its.types; invocations = its.invocations; invoked = its.invoked; raises = its.raises; founds = its.founds; asked = its.asked; wished = its.wished; given = its.given; shown = its.shown }

pub returns-clause-row : goal.returns-clause-row
returns-clause-row c = λ right sets one two.
    done_if c.args.headed.file c.args.types.now c.args.facts.now c.push_parts.new.facts c.push_own.new.facts c.args.applied c.args.n c.push_own.new.list.items c.together.result c.together.new.self c.push_parts.new.list.items
    one two c.in_ok-push_parts.ensures.kept (c.in_ok-push_parts.ensures.parts c.args.types.now (search rules) right sets)
    (c.in_ok-push_own.ensures.own c.args.facts.now.finding.words c.args.facts.now.raising) c.together.ensures
