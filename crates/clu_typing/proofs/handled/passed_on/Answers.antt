use Rattle.std.proofs.Common.{◌∙◌, sym}
use Rattle.clu_typing.specs.Raising.{set_told}
use Rattle.clu_typing.proofs.Gathered.{named_if, others_passed}
use Rattle.clu_typing.proofs.handled.passed_on.Goals as goal

pub returns-then-has_others : goal.returns-then-has_others
returns-then-has_others c = λ terms right there.
    others_passed c.args.file c.args.n c.args.arms.now terms c.args.words.now c.args.raising.now right (set_told terms c.args.words.now c.args.raising.now c.args.set) (sym c.has_others.ensures ∙ c.if-has_others.true)

pub returns-else-has_others : goal.returns-else-has_others
returns-else-has_others c = λ terms right there.
    named_if c.left.result c.args.file c.args.n c.args.arms.now terms c.args.words.now c.args.raising.now c.left.new.raising right (set_told terms c.args.words.now c.args.raising.now c.args.set)
    (sym c.has_others.ensures ∙ c.if-has_others.false) (c.left.ensures terms right there)
