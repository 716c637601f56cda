use Rattle.std.proofs.Common.{[], sym}
use Rattle.std.proofs.lemmas.List.{append-nil}
use Rattle.clu_types.proofs.Carrying.{grows_on}
use Rattle.clu_bindings.proofs.Owning.{none_owned, owned_next}
use Rattle.clu_bindings.proofs.binding.own_to.Goals as goal

pub loop-n-init : goal.loop-n-init
loop-n-init c = record { own = none_owned _ _ _ _ c.new-all.ensures.items; kept = ([], sym (append-nil _)) }

pub loop-n-preserved : goal.loop-n-preserved
loop-n-preserved c = record {
  own = owned_next c.loop-n.types c.own_at.new.types c.own_at.ensures.kept c.args.values.now c.args.syntax.now c.loop-n.n c.loop-n.all.items c.push.new.self.items c.in_ok-found.found
      c.loop-n.invariant.own c.in_ok-found.ensures.own c.in_ok-push.ensures.items;
  kept = grows_on _ _ _ c.loop-n.invariant.kept c.own_at.ensures.kept;
}
