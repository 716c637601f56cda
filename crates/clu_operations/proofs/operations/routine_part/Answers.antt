use Rattle.clu_operations.specs.Modules.{module_seen}
use Rattle.clu_operations.proofs.Wishing.{some_told, none_told}
use Rattle.clu_operations.proofs.operations.routine_part.Goals as goal

pub returns-in-Some : goal.returns-in-Some
returns-in-Some c = λ up types given. some_told types given (module_seen c.args.known) c.args.inside c.args.name.now c.in-Some.place c.in-Some.ensures.named c.in-Some.ensures.there up

pub returns-in-None : goal.returns-in-None
returns-in-None c = λ up types given. none_told types given (module_seen c.args.known) c.args.inside c.args.name.now c.in-None.ensures.named up
