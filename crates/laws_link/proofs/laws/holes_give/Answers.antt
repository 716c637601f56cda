use Rattle.laws_link.proofs.Holes.{high_half, keeps_lower, keeps_upper, low_half}
use Rattle.laws_link.proofs.laws.holes_give.Goals as goal

pub returns : goal.returns
returns c = λ word other v b. record {
  low = low_half word other v b;
  high = high_half word other v b;
  upper_kept = keeps_upper word v;
  lower_kept = keeps_lower other v;
}
