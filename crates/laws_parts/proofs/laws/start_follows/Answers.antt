use Rattle.laws_parts.proofs.Starting.{start_follows}
use Rattle.laws_parts.proofs.laws.start_follows.Goals as goal

pub returns : goal.returns
returns c = λ image m standing world fresh body table is. start_follows image m standing world fresh body table is
