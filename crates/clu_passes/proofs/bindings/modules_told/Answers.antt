use Rattle.clu_passes.proofs.ModulesTold.{modules_told, type_modules_told}
use Rattle.clu_passes.proofs.bindings.modules_told.Goals as goal

pub returns : goal.returns
returns c = record {
  names = λ t r library refused types made. modules_told t r library refused types made.arena made.values made.parsed made.rounds made.few made.names made.bindings made.kept made.modules made.few_modules;
  types = λ t r library refused types made. type_modules_told t r library refused types made.arena made.values made.parsed made.rounds made.few made.names made.bindings made.kept made.modules made.few_modules;
}
