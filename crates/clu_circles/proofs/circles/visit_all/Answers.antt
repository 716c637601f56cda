use Rattle.std.proofs.Common.{◌≡◌, inl, inr, arith}
use Rattle.std.proofs.lemmas.Bool.{cases_lt}
use Rattle.clu_circles.proofs.circles.visit_all.Goals as goal

pub loop-number-init : goal.loop-number-init
loop-number-init c = record {
  none = c.requires.none;
  search = c.requires.search;
  ordered = c.requires.ordered;
  seen = λ k l e. absurd (omega (arith, l));
}

pub loop-number-preserved : goal.loop-number-preserved
loop-number-preserved c = record {
  none = c.in_ok-visit.ensures.over;
  search = c.in_ok-visit.ensures.search;
  ordered = c.in_ok-visit.ensures.ordered;
  seen = λ k l e. elim (cases_lt k c.loop-number.number) [
    | inl less ↦ c.loop-number.invariant.seen k less (c.in_ok-visit.ensures.fewer k e)
    | inr more ↦ let same : k ≡ c.loop-number.number = omega (arith, l, more) in c.in_ok-visit.ensures.seen (rw same at e)
  ];
}
