use Rattle.std.proofs.Common.{◌≡◌, IfOk, subst}
use Rattle.clu_types.specs.Arena.{types_of}
use Rattle.clu_specs.specs.Seen.{target_seen, use_text}
use Rattle.clu_specs.specs.declared.read_uses.Target.{Target}
use Rattle.clu_wir.specs.Plain.{expr_of}
use Rattle.clu_lower_expr.specs.Low.{low_of}
use Rattle.clu_lower_expr.specs.Values.{described}
use Rattle.clu_lower_expr.proofs.uses.module_operation.Goals as goal

pub returns : goal.returns
returns c =
    subst (λ (t : Target). IfOk c.used.result (λ e. described (use_text (target_seen (types_of c.args.c.now.types) t)) (low_of c.args.out.now) ≡ (expr_of e, low_of c.used.new.out)))
    c.in_ok-target.ensures c.used.ensures
