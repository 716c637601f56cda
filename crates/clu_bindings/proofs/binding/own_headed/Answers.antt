use Rattle.std.proofs.Common.{◌∙◌, List, Option, sym, subst}
use Rattle.clu_types.specs.declared.spec.ParamKind.{ParamKind}
use Rattle.clu_head.specs.OwnTypes.{IsOwnType}
use Rattle.clu_settle.proofs.Made.{ok_more}
use Rattle.clu_bindings.proofs.binding.own_headed.Goals as goal

pub returns-clause-own : goal.returns-clause-own
returns-clause-own c = ok_more _ _ c.own_type.result c.own_type.ensures.own (λ found own. record {
  seen = c.args.types.now;
  own = subst (λ (kinds : List (Option ParamKind)). IsOwnType c.own_type.new.types c.args.headline.name.now kinds found) (c.as_slice.ensures ∙ c.in_ok-kinds.ensures) own;
})
