use Rattle.std.proofs.Common.{◌≡◌, ◌∙◌}
use Rattle.clu_operations.specs.Finding.{asked_by}
use Rattle.clu_type_rules.specs.Needs.{world}
use Rattle.clu_type_rules.proofs.Unmeeting.{asked_needs, brings_asked}
use Rattle.clu_type_rules.proofs.unmet.unmet_anew.Goals as goal

pub returns-clause-asked : goal.returns-clause-asked
returns-clause-asked c = λ s place under keeps is.
    let all : c.as_slice.result.now ≡ asked_by c.args.finding.now c.args.asker.found = c.as_slice.ensures.value ∙ c.in_ok-asked.ensures.items_if_clones_equal (λ x y e. e) ∙ c.asked_by.ensures in
    brings_asked c.args.place.headed s (world c.args.types.now c.args.finding.now) (world c.unmet_among.new.types c.unmet_among.new.finding) c.args.meeting.now _ keeps c.args.asker is c.args.place.clauses under c.as_slice.result.now all c.in_ok-unmet.unmet
    (c.in_ok-unmet.ensures.asked s place keeps.rests (asked_needs c.args.place.headed s (world c.args.types.now c.args.finding.now) keeps.rests.stands.finding c.args.place.clauses c.args.asker.found c.as_slice.result.now all))
    c.in_ok-insert.ensures.updates.0
