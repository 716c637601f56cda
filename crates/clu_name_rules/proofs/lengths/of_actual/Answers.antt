use Rattle.std.proofs.Common.{◌≡◌, ◌∙◌, ap, subst, sym}
use Rattle.clu_types.specs.declared.term.Actual.{Actual}
use Rattle.clu_name_rules.specs.Lengths.{actual_length, outline_length}
use Rattle.clu_name_rules.proofs.Outlined.{length_told}
use Rattle.clu_name_rules.proofs.lengths.of_actual.Goals as goal

pub returns-in-Const : goal.returns-in-Const
returns-in-Const c = subst (λ (a : Actual). c.of_constant.result ≡ actual_length c.args.lengths.now a) (sym c.in-Const.is)
    (c.of_constant.ensures ∙ ap outline_length c.outline_of.ensures ∙ length_told c.in-Const.constant)
