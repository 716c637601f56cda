use Rattle.std.proofs.Common.{IfOk, subst}
use Rattle.clu_types.specs.CluType.{CluType}
use Rattle.clu_operations.specs.Bundles.{HasAll}
use Rattle.clu_operations.proofs.bundles.shown_by.Goals as goal

pub returns-clause-shown : goal.returns-clause-shown
returns-clause-shown c = λ below. subst (λ (t : CluType). IfOk c.apart.result (λ shown. HasAll t shown.value)) (c.in_ok-all.ensures.of_type below) (c.apart.ensures c.in_ok-all.ensures.within)
