use Rattle.std.proofs.Common.{[], arith}
use Rattle.std.proofs.lemmas.Result.{err_from_is_err_and}
use Rattle.clu_types.specs.Arena.{actuals_at, types_of}
use Rattle.clu_specs.proofs.Rows.{begun_marked_fails}
use Rattle.clu_specs.proofs.next_items.begin_actual.Goals as goal

pub end_actual-requires-clause-actual : goal.end_actual-requires-clause-actual
end_actual-requires-clause-actual c = c.in_ok-actual.ensures.within _

pub returns-in_err-actual-clause-reads : goal.returns-in_err-actual-clause-reads
returns-in_err-actual-clause-reads c =
    let p = err_from_is_err_and c.from_residual.result c.from_residual.ensures.1 in
    rw (p.1, p.2) (begun_marked_fails c.args.scope.now c.args.actuals.name c.args.actuals.left (actuals_at (types_of c.args.types.now) c.args.actuals.made) c.in_err-actual.field-0.0 _ _ (omega (arith, c.if-left-eq0.false)) (c.in_err-actual.ensures.reads []) (cc) (cc))
