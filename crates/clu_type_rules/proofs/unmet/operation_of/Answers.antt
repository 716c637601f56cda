use Rattle.std.proofs.Common.{IfOk, Option, ◌∙◌, sym, subst}
use Rattle.clu_operations.specs.declared.found.FoundId.{FoundId}
use Rattle.clu_operations.specs.Told.{Told}
use Rattle.clu_operations.specs.Wished.{FindsOf}
use Rattle.clu_type_rules.specs.Needs.{told_asked}
use Rattle.clu_type_rules.proofs.Giving.{given_found}
use Rattle.clu_type_rules.proofs.Needing.{grows_self, parameter_told, builtin_told, cluster_told}
use Rattle.clu_type_rules.proofs.unmet.operation_of.Goals as goal

pub returns-in-Parameter : goal.returns-in-Parameter
returns-in-Parameter c = record {
  found = λ there finding.
      subst (λ (o : Option FoundId). FindsOf c.args.place.headed c.args.types.now c.args.types.now c.args.finding.now c.args.finding.now c.args.need.of (told_asked c.args.place.headed c.args.types.now c.args.finding.now.words c.args.place.node c.args.need) o) (sym c.given_for.ensures)
      (given_found c.args.place.headed c.args.types.now c.args.finding.now finding c.args.place.node c.in-Parameter.number c.args.need there c.args.need.of
      (told_asked c.args.place.headed c.args.types.now c.args.finding.now.words c.args.place.node c.args.need)
      (parameter_told c.args.place.headed c.args.types.now c.args.finding.now.words c.args.place.node c.args.need c.in-Parameter.number (sym c.shape_of.ensures ∙ c.in-Parameter.is)));
  kept = grows_self c.args.types.now;
}

pub returns-in-Builtin-clause-found : goal.returns-in-Builtin-clause-found
returns-in-Builtin-clause-found c = λ there finding.
    subst (λ (it : Option Told). IfOk c.exported_operation.result (FindsOf c.args.place.headed c.args.types.now c.exported_operation.new.types c.args.finding.now c.exported_operation.new.finding c.args.need.of it))
    (builtin_told c.args.place.headed c.args.types.now c.args.finding.now.words c.args.place.node c.args.need (sym c.shape_of.ensures ∙ c.in-Builtin.is)) (c.exported_operation.ensures.found there.of there.operation finding)

pub returns-in-Cluster-clause-found : goal.returns-in-Cluster-clause-found
returns-in-Cluster-clause-found c = λ there finding.
    subst (λ (it : Option Told). IfOk c.exported_operation-in-Cluster.result (FindsOf c.args.place.headed c.args.types.now c.exported_operation-in-Cluster.new.types c.args.finding.now c.exported_operation-in-Cluster.new.finding c.args.need.of it))
    (cluster_told c.args.place.headed c.args.types.now c.args.finding.now.words c.args.place.node c.args.need (sym c.shape_of.ensures ∙ c.in-Cluster.is)) (c.exported_operation-in-Cluster.ensures.found there.of there.operation finding)
