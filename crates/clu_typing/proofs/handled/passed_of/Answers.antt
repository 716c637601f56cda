use Rattle.clu_typing.specs.Facts.{raised_at}
use Rattle.clu_typing.proofs.Gathered.{passed_if}
use Rattle.clu_typing.proofs.handled.passed_of.Goals as goal

pub returns-clause-passed : goal.returns-clause-passed
returns-clause-passed c = λ terms sets right.
    passed_if c.passed_on.result c.args.file c.args.n c.args.arms.now terms c.args.facts.now.finding.words c.args.facts.now.raising c.passed_on.new.raising right
    c.raised_at-set.result (raised_at c.args.facts.now c.args.statement) c.raised_at-set.ensures (sets c.args.statement) c.passed_on.ensures
