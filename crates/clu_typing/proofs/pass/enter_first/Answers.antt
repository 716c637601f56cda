use Rattle.clu_typing.proofs.Passing.{begun_if}
use Rattle.clu_typing.proofs.pass.enter_first.Goals as goal

pub returns-clause-nothing : goal.returns-clause-nothing
returns-clause-nothing c = λ nothing.
    begun_if c.args.headed c.args.types.now c.begin.new.types c.args.facts.now c.begin.new.words c.begin.new.self c.enter_given.new.finding c.in_ok-begin.ensures.kept c.in_ok-begin.ensures.right nothing c.enter_given.result
    c.enter_given.ensures.found c.enter_given.ensures.words
