use Rattle.std.proofs.Common.{◌∙◌, ℕ, List, option_and_then, Some, ap}
use Rattle.clu_operations.specs.Modules.{module_seen}
use Rattle.clu_operations.specs.Wished.{told_in}
use Rattle.clu_operations.proofs.operations.part_numbered.Goals as goal

pub returns-in-Some : goal.returns-in-Some
returns-in-Some c = λ up types given. c.routine_part.ensures up types given ∙ ap (option_and_then (λ (name : List ℕ). told_in types c.args.inside (module_seen c.args.known) (Some name) given)) c.in-Some.ensures

pub returns-in-None : goal.returns-in-None
returns-in-None c = λ up types given. ap (option_and_then (λ (name : List ℕ). told_in types c.args.inside (module_seen c.args.known) (Some name) given)) c.in-None.ensures
