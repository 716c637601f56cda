use Rattle.std.proofs.Common.{◌∙◌, refl, sym}
use Rattle.clu_type_rules.specs.Needs.{world}
use Rattle.clu_type_rules.proofs.Unmeeting.{brings_kept}
use Rattle.clu_type_rules.proofs.unmet.unmet_by.Goals as goal

pub returns-in-Some-clause-asked : goal.returns-in-Some-clause-asked
returns-in-Some-clause-asked c = λ s place keeps is.
    brings_kept c.args.place.headed s (world c.args.types.now c.args.finding.now) c.args.meeting.now keeps (record { found = c.args.found; under = c.args.place.clauses }) c.in-Some.unmet (sym c.get.ensures.value ∙ sym c.in-Some.ensures)

pub returns-in-None-clause-asked : goal.returns-in-None-clause-asked
returns-in-None-clause-asked c = λ s place keeps is. c.unmet_anew.ensures.asked s place refl keeps is
