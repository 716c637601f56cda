use Rattle.clu_typing.proofs.Telling.{behind_on, finds_on, invoked_given}
use Rattle.clu_typing.proofs.applied.invoked.Goals as goal

pub returns-in_ok-second-in-Some-clause-found : goal.returns-in_ok-second-in-Some-clause-found
returns-in_ok-second-in-Some-clause-found c = λ text named.
    invoked_given c.args.headed c.args.types.now c.behind.new.types c.args.finding.now c.behind.new.finding c.args.of c.in-Some.of c.in-Some.is c.args.n text c.args.negated _
    (λ within finding.
    let first = c.in_ok-first-in-Some.ensures.found text named within finding in
    let second = c.in_ok-second-in-Some.ensures.found first.0.finding in (
      finds_on c.args.headed c.behind.new.types c.args.finding.now c.used.new.finding c.behind.new.finding first.0.follows second.0,
      behind_on c.args.headed c.used.new.types c.behind.new.types c.in_ok-second-in-Some.ensures.kept c.used.new.finding c.behind.new.finding second.0.follows first.0.finding c.args.n c.in-Some.of text c.args.negated c.in_ok-first-in-Some.first c.in_ok-second-in-Some.second first.1 second.1,
    ))
