use Rattle.std.proofs.Common.{List, Option, IfSome, subst}
use Rattle.clu_types.specs.declared.spec.Demand.{Demand}
use Rattle.clu_head.specs.declared.head.Demanded.{Demanded}
use Rattle.clu_head.specs.Kept.{AreDemandsOf}
use Rattle.clu_head.proofs.Keeping.{found_so}
use Rattle.clu_head.proofs.specs.cluster_form.Goals as goal

pub returns-in-Some-clause-form : goal.returns-in-Some-clause-form
returns-in-Some-clause-form c =
    found_so _ _ c.cluster_with.result c.cluster_with.ensures.form
    (λ made form. form c.args.demands.now
    (subst (λ (ds : List Demanded). AreDemandsOf c.args.from.now c.moved_demands.new.to ds c.in-Some.demands) c.as_slice.ensures
    (subst (λ (o : Option (List Demand)). IfSome o (AreDemandsOf c.args.from.now c.moved_demands.new.to c.as_slice.result.now)) c.in-Some.is c.in_ok-demands.ensures.demands)))
