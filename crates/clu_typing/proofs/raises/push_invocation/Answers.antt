use Rattle.std.proofs.Common.{refl}
use Rattle.clu_types.specs.Arena.{type_at, types_of}
use Rattle.clu_typing.specs.Raising.{invoked_by}
use Rattle.clu_typing.proofs.Gathered.{pushed_on}
use Rattle.clu_typing.proofs.raises.push_invocation.Goals as goal

pub returns-clause-invoked : goal.returns-clause-invoked
returns-clause-invoked c = λ names first told within are.
    let facts = c.args.facts.now in
    let new = c.raised_by.new.facts in
    pushed_on c.args.types.now names first facts.finding.words facts.raising c.args.list.now.items told are new.finding.words new.finding.words new.raising c.in_ok-set.set
    (invoked_by (type_at (types_of c.args.types.now) c.args.of)) c.push.new.self.items refl c.in_ok-push.ensures.items (c.in_ok-set.ensures.invoked are.right within)
