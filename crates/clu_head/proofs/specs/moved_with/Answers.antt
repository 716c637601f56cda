use Rattle.std.proofs.Common.{List, Option, IfSome, sym, subst}
use Rattle.clu_types.specs.declared.spec.Demand.{Demand}
use Rattle.clu_types.specs.declared.term.Heading.{Heading}
use Rattle.clu_head.specs.declared.head.Demanded.{Demanded}
use Rattle.clu_head.specs.Kept.{AreMovedParts, AreDemandsOf}
use Rattle.clu_head.proofs.Keeping.{parts_wider}
use Rattle.clu_head.proofs.specs.moved_with.Goals as goal

pub returns-in_ok-routine_with-in-Some-clause-routine : goal.returns-in_ok-routine_with-in-Some-clause-routine
returns-in_ok-routine_with-in-Some-clause-routine c = λ parts.
    let its = c.in_ok-routine_with-in-Some.ensures in
    record {
      name = its.name;
      iter = its.iter;
      heading = subst (AreMovedParts c.args.from.now c.moved_demands.new.to c.args.routine.now.of_type) (sym its.heading)
          (parts_wider c.args.from.now c.args.to.now c.moved_demands.new.to c.moved_demands.ensures.kept c.args.routine.now.of_type c.args.heading parts);
      demands = subst (AreDemandsOf c.args.from.now c.moved_demands.new.to c.args.routine.now.demands) (sym its.demands)
          (subst (λ (ds : List Demanded). AreDemandsOf c.args.from.now c.moved_demands.new.to ds c.in-Some.demands) c.as_slice.ensures
          (subst (λ (o : Option (List Demand)). IfSome o (AreDemandsOf c.args.from.now c.moved_demands.new.to c.as_slice.result.now)) c.in-Some.is c.in_ok-demands.ensures.demands));
    }
