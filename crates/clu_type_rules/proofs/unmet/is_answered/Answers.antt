use Rattle.std.proofs.Common.{◌∙◌}
use Rattle.clu_type_rules.specs.Needs.{world}
use Rattle.clu_type_rules.proofs.Needing.{step_some, step_none}
use Rattle.clu_type_rules.proofs.unmet.is_answered.Goals as goal

pub returns-in-Some-clause-asked : goal.returns-in-Some-clause-asked
returns-in-Some-clause-asked c = λ s place under stands there.
    step_some c.args.place.headed s c.args.place.node (world c.args.types.now c.args.finding.now) (world c.operation_of.new.types c.operation_of.new.finding) c.args.met.now.keys c.args.need (under ∙ place) stands there c.in_ok-found.ensures.kept
    c.in_ok-found.found (c.in_ok-found.ensures.found there stands.finding) c.in-Some.found c.in-Some.is c.answers.result c.answers.new.met.keys c.answers.ensures.fits c.answers.ensures.keys

pub returns-in-None-clause-asked : goal.returns-in-None-clause-asked
returns-in-None-clause-asked c = λ s place under stands there.
    step_none c.args.place.headed s c.args.place.node (world c.args.types.now c.args.finding.now) (world c.operation_of.new.types c.operation_of.new.finding) c.args.met.now.keys c.args.need (under ∙ place) stands there c.in_ok-found.ensures.kept
    c.in_ok-found.found (c.in_ok-found.ensures.found there stands.finding) c.in-None.is
