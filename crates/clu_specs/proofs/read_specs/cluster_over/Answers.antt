use Rattle.std.proofs.lemmas.Result.{err_from_is_err_and}
use Rattle.clu_types.specs.Arena.{types_of}
use Rattle.clu_specs.specs.Seen.{form_seen}
use Rattle.clu_specs.proofs.Wholes.{cluster_fails, cluster_made}
use Rattle.clu_specs.proofs.read_specs.cluster_over.Goals as goal

pub returns-in_err-form-clause-reads : goal.returns-in_err-form-clause-reads
returns-in_err-form-clause-reads c =
    let p = err_from_is_err_and c.from_residual-in_err-form.result c.from_residual-in_err-form.ensures.1 in
    rw (p.1, p.2) (cluster_fails c.args.name.now c.args.kinds.items c.args.depth c.args.bytes.now c.scope_of-scope.result c.scope_of-scope.ensures c.in_err-form.field-0.0 c.in_err-form.ensures.reads)

pub returns-clause-reads : goal.returns-clause-reads
returns-clause-reads c =
    cluster_made c.args.name.now c.args.kinds.items c.args.depth c.args.bytes.now c.scope_of-scope.result c.scope_of-scope.ensures c.in_ok-name.name (form_seen (types_of c.last_form_at.new.types) c.in_ok-form.form) c.in_ok-name.ensures c.in_ok-form.ensures.reads
