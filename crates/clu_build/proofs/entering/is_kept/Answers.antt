use Rattle.clu_build.proofs.Keeping.{kept_text}
use Rattle.clu_build.proofs.entering.is_kept.Goals as goal

pub returns-then-eq : goal.returns-then-eq
returns-then-eq c =
    kept_text c.args.library.now c.args.name.now c.args.source.now c.args.stale.now.keys c.in-Some.body.now c.as_slice.result.now c.eq.result c.contains.result c.in-Some.ensures c.as_slice.ensures c.if-eq.true c.eq.ensures c.contains.ensures
