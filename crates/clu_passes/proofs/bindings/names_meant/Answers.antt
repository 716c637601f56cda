use Rattle.clu_passes.proofs.ModuleMeant.{named_said, named_types_said, restricted_said, reps_said}
use Rattle.clu_passes.proofs.bindings.names_meant.Goals as goal

pub returns-clause-names : goal.returns-clause-names
returns-clause-names c = λ t r library refused types made. named_said t r library refused types made.arena made.values made.parsed made.rounds made.few made.names made.bindings made.kept made.modules made.few_modules

pub returns-clause-types : goal.returns-clause-types
returns-clause-types c = λ t r library refused types made. named_types_said t r library refused types made.arena made.values made.parsed made.rounds made.few made.names made.bindings made.kept made.modules made.few_modules

pub returns-clause-restricted : goal.returns-clause-restricted
returns-clause-restricted c = λ t r library refused types made. restricted_said t r library refused types made.arena made.values made.parsed made.rounds made.few made.names made.bindings made.kept made.modules made.few_modules

pub returns-clause-reps : goal.returns-clause-reps
returns-clause-reps c = λ t r library refused types made. reps_said t r library refused types made.arena made.values made.parsed made.rounds made.few made.names made.bindings made.kept made.modules made.few_modules
