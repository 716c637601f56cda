use Rattle.clu_passes.proofs.KindsStay.{kinds_stay}
use Rattle.clu_passes.proofs.head_specs.head_kinds_stay.Goals as goal

pub returns : goal.returns
returns c = kinds_stay
