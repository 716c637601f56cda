use Rattle.clu_typing.proofs.Gathered.{left_if}
use Rattle.clu_typing.proofs.handled.left.Goals as goal

pub returns : goal.returns
returns c = λ terms right there.
    left_if c.without.result c.args.file c.args.n c.args.arms.now terms c.args.words.now c.args.raising.now c.without.new.self right c.args.set there
    c.in_ok-names.names.items c.as_slice.result.now c.as_slice.ensures.value c.in_ok-names.ensures.ascends c.in_ok-names.ensures.same c.without.ensures
