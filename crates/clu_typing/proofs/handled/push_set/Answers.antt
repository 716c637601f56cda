use Rattle.clu_typing.specs.Raises.{passed_on, raised_told}
use Rattle.clu_typing.proofs.Gathered.{pushed_on}
use Rattle.clu_typing.proofs.handled.push_set.Goals as goal

pub returns-clause-passed : goal.returns-clause-passed
returns-clause-passed c = λ terms told sets are.
    let words = c.args.facts.now.finding.words in
    let all = c.args.facts.now.raising in
    pushed_on terms words all words all c.args.list.now.items told are words c.passed_of.new.facts.finding.words c.passed_of.new.facts.raising c.in_ok-set.set
    (passed_on c.args.file c.args.n c.args.arms.now (raised_told terms c.args.facts.now c.args.statement)) c.push.new.self.items
    c.in_ok-set.ensures.named c.in_ok-push.ensures.items (c.in_ok-set.ensures.passed terms sets are.right)
