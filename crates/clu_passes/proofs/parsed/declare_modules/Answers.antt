use Rattle.clu_passes.proofs.Units.{declare_modules}
use Rattle.clu_passes.proofs.parsed.declare_modules.Goals as goal

pub returns : goal.returns
returns c = declare_modules
