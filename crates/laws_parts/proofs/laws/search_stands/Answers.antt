use Rattle.laws_parts.proofs.Placed.{search_stands}
use Rattle.laws_parts.proofs.laws.search_stands.Goals as goal

pub returns : goal.returns
returns c = λ image m standing. search_stands image m standing
