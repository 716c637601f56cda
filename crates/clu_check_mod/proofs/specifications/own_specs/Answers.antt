use Rattle.std.proofs.Common.{◌∙◌, Some, ap, refl, subst, sym, take}
use Rattle.std.proofs.lemmas.Result.{err_from_is_err_and}
use Rattle.std.specs.Option.{option_copied}
use Rattle.clu_types.specs.declared.spec.Spec.{Spec}
use Rattle.clu_check_mod.specs.Modules.{AreOf, IsMadeIf}
use Rattle.clu_check_mod.proofs.Losing.{none_next}
use Rattle.clu_check_mod.proofs.Making.{made_first, made_more, named_more}
use Rattle.clu_check_mod.proofs.specifications.own_specs.Goals as goal

pub returns-in_err-spec-clause-lost : goal.returns-in_err-spec-clause-lost
returns-in_err-spec-clause-lost c =
    let p = err_from_is_err_and c.from_residual.result c.from_residual.ensures.1 in
    rw (p.1, p.2)
    (none_next c.args.tree.now c.args.types.now c.in_err-spec.field-0.0 c.args.heads.now c.modules-numbers.result.now c.loop-n.own.items c.loop-n.n-index _ c.len.result (option_copied c.head_at.result) c.modules-numbers.ensures c.loop-n-test.true c.loop-n.invariant.own (c.len.ensures ∙ c.loop-n.own.ok.0) c.head_at.ensures
    c.in_err-spec.ensures.lost)

pub loop-n-init : goal.loop-n-init
loop-n-init c = record {
  own = subst (AreOf c.args.tree.now (take 0 c.modules-numbers.result.now)) (sym c.new-own.ensures.items) refl;
  made = made_first c.args.types.now c.args.heads.now c.new-own.result.items c.new-own.ensures.items;
}

pub loop-n-preserved : goal.loop-n-preserved
loop-n-preserved c =
    let put = c.into_inner.ensures in
    let more = c.in_ok-push.ensures.items in
    record {
      own =
          named_more c.args.tree.now c.modules-numbers.result.now c.loop-n.own.items c.push.new.self.items c.loop-n.n-index _ c.into_inner.result c.loop-n-test.true c.loop-n.invariant.own
          (c.in_ok-spec.ensures.named ∙ ap (λ (s : Spec). Some s.name) (sym put)) more;
      made =
          made_more c.args.types.now c.args.heads.now c.loop-n.own.items c.push.new.self.items c.into_inner.result (option_copied c.head_at.result) c.len.result c.loop-n.invariant.made (c.len.ensures ∙ c.loop-n.own.ok.0) c.head_at.ensures
          (subst (IsMadeIf c.args.types.now (option_copied c.head_at.result)) (sym put) c.in_ok-spec.ensures.made) more;
    }
