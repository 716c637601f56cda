use Rattle.std.proofs.Common.{IfOk, subst}
use Rattle.clu_type_rules.specs.declared.unmet.Clauses.{Clauses}
use Rattle.clu_type_rules.specs.Askers.{asks_by_all, Brings}
use Rattle.clu_type_rules.specs.Needs.{world}
use Rattle.clu_type_rules.proofs.unmet.unmet_asked.Goals as goal

pub returns-clause-asked : goal.returns-clause-asked
returns-clause-asked c = λ s keeps askers.
    subst
    (λ (under : Clauses). IfOk c.unmet_by_all.result (Brings c.args.headed s (world c.args.types.now c.args.finding.now) (world c.unmet_by_all.new.types c.unmet_by_all.new.finding) c.unmet_by_all.new.meeting under (asks_by_all (world c.args.types.now c.args.finding.now) c.args.askers.now)))
    c.clauses_at.ensures (c.unmet_by_all.ensures.asked s c.clauses_at.ensures keeps askers)
