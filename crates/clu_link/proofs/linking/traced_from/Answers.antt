use Rattle.std.proofs.lemmas.Result.{err_from_is_err_and}
use Rattle.clu_link.proofs.linking.traced_from.Goals as goal

pub returns-in_err-map-in-Ok-clause-exact : goal.returns-in_err-map-in-Ok-clause-exact
returns-in_err-map-in-Ok-clause-exact c = λ start is.
    let p = err_from_is_err_and c.from_residual.result c.from_residual.ensures.1 in
    rw (p.1, p.2) (c.in_err-map-in-Ok.ensures.exact c.args.lib.now start)
