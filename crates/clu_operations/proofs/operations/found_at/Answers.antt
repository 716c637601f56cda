use Rattle.clu_operations.proofs.Looking.{seen_is, found_as, found_none}
use Rattle.clu_operations.proofs.operations.found_at.Goals as goal

pub returns-in-Some-clause-found : goal.returns-in-Some-clause-found
returns-in-Some-clause-found c = λ of name was.
    found_as c.find_once.result c.args.headed c.args.types.now c.find_once.new.types c.args.finding.now c.find_once.new.finding c.args.of _ _ (seen_is c.args.headed c.args.types.now c.args.finding.now.words c.args.n c.args.of c.args.operation _ c.in-Some.ensures) (c.find_once.ensures.found of name was)

pub returns-in-None-clause-found : goal.returns-in-None-clause-found
returns-in-None-clause-found c = λ of name was.
    found_none c.args.headed c.args.types.now c.args.finding.now c.args.of _ was (seen_is c.args.headed c.args.types.now c.args.finding.now.words c.args.n c.args.of c.args.operation _ c.in-None.ensures)
