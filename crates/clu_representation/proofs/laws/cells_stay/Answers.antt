use Rattle.clu_representation.proofs.Whole.{handed_out, one_added, one_changed}
use Rattle.clu_representation.proofs.laws.cells_stay.Goals as goal

pub returns : goal.returns
returns c = record { handed_out = handed_out; one_changed = one_changed; one_added = one_added }
