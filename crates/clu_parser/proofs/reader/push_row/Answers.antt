use Rattle.std.proofs.Common.{◌++◌, reverse, ap, ◌∙◌}
use Rattle.clu_parser.proofs.Stack.{pushed}
use Rattle.clu_parser.proofs.reader.push_row.Goals as goal

pub row-preserved : goal.row-preserved
row-preserved c =
    ap (λ items. c.in-Some.rest.now ++ reverse items) c.in_ok-push.ensures.items ∙
    pushed c.row.left.now c.in-Some.rest.now c.row.stack.items c.in-Some.last.now c.in-Some.ensures.cases.0 ∙ c.row.invariant
