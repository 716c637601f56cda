use Rattle.laws_program.proofs.Samples.{stands}
use Rattle.laws_program.proofs.laws.an_image_stands.Goals as goal

pub returns : goal.returns
returns c = stands
