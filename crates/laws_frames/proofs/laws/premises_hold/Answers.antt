use Rattle.laws_frames.proofs.Samples.{sample}
use Rattle.laws_frames.proofs.laws.premises_hold.Goals as goal

pub returns : goal.returns
returns c = sample
