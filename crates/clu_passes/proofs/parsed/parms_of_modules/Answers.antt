use Rattle.clu_passes.proofs.ParmsOfModules.{parms_of_modules}
use Rattle.clu_passes.proofs.parsed.parms_of_modules.Goals as goal

pub returns : goal.returns
returns c = parms_of_modules
