use Rattle.std.proofs.Common.{Option, IfSome, refl, subst}
use Rattle.clu_types.specs.declared.term.TypeId.{TypeId}
use Rattle.clu_head.specs.Kept.{IsMoved, IsDemandOf}
use Rattle.clu_head.proofs.Adding.{adds_one}
use Rattle.clu_head.proofs.specs.push_demand.Goals as goal

pub returns-in_ok-push-in-Some-clause-more : goal.returns-in_ok-push-in-Some-clause-more
returns-in_ok-push-in-Some-clause-more c = λ is.
    adds_one (IsDemandOf c.args.from.now c.moved.new.to) c.args.demand.now _ c.args.all.now.items c.push.new.self.items c.in_ok-push-in-Some.ensures.items
    (record {
      param = refl;
      op = c.in_ok-op-in-Some.ensures;
      wanted = subst (λ (o : Option TypeId). IfSome o (IsMoved c.args.from.now c.moved.new.to c.args.demand.now.wanted)) c.in-Some.is c.in_ok-wanted.ensures.moved;
    })
