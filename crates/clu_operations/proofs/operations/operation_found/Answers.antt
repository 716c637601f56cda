use Rattle.std.proofs.Common.{sym, subst}
use Rattle.clu_operations.specs.Wished.{told_at, FindsOf}
use Rattle.clu_operations.proofs.Looking.{at_is, found_as, given_found}
use Rattle.clu_operations.proofs.operations.operation_found.Goals as goal

pub returns-in-Parameter-clause-found : goal.returns-in-Parameter-clause-found
returns-in-Parameter-clause-found c = λ of name was.
    subst (λ found. FindsOf c.args.headed c.args.types.now c.args.types.now c.args.finding.now c.args.finding.now c.args.of (told_at c.args.headed c.args.types.now c.args.finding.now.words c.args.n c.args.of c.args.operation) found) (sym c.given.ensures)
    (given_found c.args.headed c.args.types.now c.args.finding.now was c.args.n c.in-Parameter.number c.args.operation c.args.of _ name (at_is c.args.headed c.args.types.now c.args.finding.now.words c.args.n c.args.of c.args.operation _ c.in-Parameter.ensures))

pub returns-in-Builtin-clause-found : goal.returns-in-Builtin-clause-found
returns-in-Builtin-clause-found c = λ of name was.
    found_as c.found_at.result c.args.headed c.args.types.now c.found_at.new.types c.args.finding.now c.found_at.new.finding c.args.of _ _ (at_is c.args.headed c.args.types.now c.args.finding.now.words c.args.n c.args.of c.args.operation _ c.in-Builtin.ensures) (c.found_at.ensures.found of name was)

pub returns-in-Cluster-clause-found : goal.returns-in-Cluster-clause-found
returns-in-Cluster-clause-found c = λ of name was.
    found_as c.found_at-in-Cluster.result c.args.headed c.args.types.now c.found_at-in-Cluster.new.types c.args.finding.now c.found_at-in-Cluster.new.finding c.args.of _ _ (at_is c.args.headed c.args.types.now c.args.finding.now.words c.args.n c.args.of c.args.operation _ c.in-Cluster.ensures) (c.found_at-in-Cluster.ensures.found of name was)
