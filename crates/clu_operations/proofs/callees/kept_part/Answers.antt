use Rattle.std.proofs.Common.{sym, subst}
use Rattle.clu_operations.specs.declared.bundles.Shown.{Shown}
use Rattle.clu_operations.specs.Bundles.{IsShown}
use Rattle.clu_operations.proofs.Showing.{value_shown, none_kept}
use Rattle.clu_operations.proofs.callees.kept_part.Goals as goal

pub returns-in-Some-clause-put : goal.returns-in-Some-clause-put
returns-in-Some-clause-put c = λ source form some right below.
    c.put.ensures.of_type source form
    (subst (λ (shown : Shown). IsShown source shown form) (sym c.deref.ensures) (value_shown source c.args.kept.now c.args.callee.id form c.in-Some.shown.now right c.in-Some.ensures.value)) below

pub returns-in-None-clause-put : goal.returns-in-None-clause-put
returns-in-None-clause-put c = λ source form some right below. none_kept c.args.kept.now c.args.callee.id c.in-None.ensures.value some
