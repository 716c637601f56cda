use Rattle.std.proofs.Common.{IfOk, ◌∙◌, ap, sym, subst}
use Rattle.std.proofs.lemmas.Option.{same_Some}
use Rattle.clu_base.proofs.Lists.{none_is_not, is_there}
use Rattle.clu_type_rules.specs.declared.unmet.Need.{Need}
use Rattle.clu_type_rules.specs.Needs.{world, Steps}
use Rattle.clu_type_rules.proofs.unmet.ask.Goals as goal

pub returns-in-Some-clause-asked : goal.returns-in-Some-clause-asked
returns-in-Some-clause-asked c = λ s place stands need at under.
    let same = same_Some c.in-Some.need.now need (c.in-Some.ensures.key ∙ at) in
    subst (λ (x : Need). IfOk c.is_answered.result (Steps c.args.place.headed s (world c.args.types.now c.args.finding.now) (world c.is_answered.new.types c.is_answered.new.finding) c.args.met.now.keys c.is_answered.new.met.keys x)) same
    (c.is_answered.ensures.asked s place (ap (λ (x : Need). x.under) same ∙ under) stands (stands.there c.in-Some.need.now (is_there c.args.met.now.keys c.args.at c.in-Some.need.now (sym c.in-Some.ensures.key))))

pub returns-in-None-clause-asked : goal.returns-in-None-clause-asked
returns-in-None-clause-asked c = λ s place stands need at under. none_is_not need (c.in-None.ensures.key ∙ at)
