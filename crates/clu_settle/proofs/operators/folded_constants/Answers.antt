use Rattle.std.proofs.Common.{◌∙◌, ap, Some}
use Rattle.clu_settle.specs.Values.{constant_at}
use Rattle.clu_settle.proofs.Made.{ok_more}
use Rattle.clu_settle.proofs.Folded.{folded_as}
use Rattle.clu_settle.proofs.operators.folded_constants.Goals as goal

pub returns-clause-known : goal.returns-clause-known
returns-clause-known c = ok_more _ _ c.keep.result c.keep.ensures.known (λ v p types. p types ∙ ap Some
    (folded_as c.args.operator c.folded_by.result c.in_ok-left.left c.in_ok-right.right (constant_at c.args.constants.now c.args.a) (constant_at c.args.constants.now c.args.b) c.in_ok-found.found c.folded_by.ensures
    c.in_ok-left.ensures c.in_ok-right.ensures c.in_range.ensures c.in_range-2.ensures c.in_ok-found.ensures))
