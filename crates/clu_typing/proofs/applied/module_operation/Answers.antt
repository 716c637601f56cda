use Rattle.clu_typing.proofs.Telling.{module_given, module_told}
use Rattle.clu_typing.proofs.applied.module_operation.Goals as goal

pub returns-in_ok-module_found-in-Some-clause-found : goal.returns-in_ok-module_found-in-Some-clause-found
returns-in_ok-module_found-in-Some-clause-found c =
    module_given c.args.headed c.args.types.now c.module_found.new.types c.args.finding.now c.module_found.new.finding c.args.of c.in-Some.of c.in-Some.is _
    (λ within finding.
    module_told c.args.headed c.args.types.now c.module_found.new.types c.in_ok-module_found-in-Some.ensures.kept c.args.finding.now c.module_found.new.finding c.in-Some.of _ _ c.operation_of.ensures within finding
    (c.in_ok-module_found-in-Some.ensures.found within finding))
