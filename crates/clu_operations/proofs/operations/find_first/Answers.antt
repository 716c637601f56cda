use Rattle.std.proofs.Common.{refl}
use Rattle.clu_operations.proofs.Looking.{first_found}
use Rattle.clu_operations.proofs.operations.find_first.Goals as goal

pub returns-clause-found : goal.returns-clause-found
returns-clause-found c = λ of name was.
    first_found c.args.headed c.args.types.now c.find.new.types c.in_ok-found.ensures.kept c.args.finding.now c.find.new.finding _ c.args.wished c.in_ok-found.found was of name
    (c.in_ok-found.ensures.stays was.ready) (c.in_ok-found.ensures.ready was.ready) (λ up. c.in_ok-found.ensures.found of was.ready up) refl refl refl refl refl c.in_ok-insert.ensures.updates
