use Rattle.laws_parts.proofs.Framing.{searched}
use Rattle.laws_parts.proofs.laws.arms_are_found.Goals as goal

pub returns : goal.returns
returns c = λ m base table stood target regions code step r laid framed back small near low.
    searched m base table stood target regions code step r laid framed back small near low
