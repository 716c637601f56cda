use Rattle.std.proofs.Common.{◌∙◌, ℕ, [], get_or, None, sym, subst}
use Rattle.std.proofs.lemmas.List.{append-nil}
use Rattle.clu_types.proofs.Carrying.{grows_on}
use Rattle.clu_head.specs.OwnTypes.{IsOwnActual}
use Rattle.clu_head.proofs.Owning.{none_own, own_next}
use Rattle.clu_head.proofs.parameter_kinds.own_actuals.Goals as goal

pub loop-kind-init : goal.loop-kind-init
loop-kind-init c = record { own = none_own _ _ c.new-actuals.ensures.items; kept = ([], sym (append-nil _)) }

pub loop-kind-preserved : goal.loop-kind-preserved
loop-kind-preserved c = record {
  own = own_next c.loop-kind.types c.own_actual.new.types c.own_actual.ensures.kept c.args.kinds.now c.loop-kind.kind-index c.loop-kind-test.true c.loop-kind.actuals.items c.push.new.self.items c.in_ok-own.own c.len.result
      c.loop-kind.invariant.own (c.len.ensures ∙ c.loop-kind.actuals.ok.0)
      (subst (λ (n : ℕ). IsOwnActual c.own_actual.new.types (get_or c.args.kinds.now c.loop-kind.kind-index None) n c.in_ok-own.own) c.number_at.ensures c.in_ok-own.ensures.own) c.in_ok-push.ensures.items;
  kept = grows_on _ _ _ c.loop-kind.invariant.kept c.own_actual.ensures.kept;
}
