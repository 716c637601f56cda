use Rattle.std.proofs.Common.{sym, arith}
use Rattle.clu_circles.proofs.Marks.{one_more}
use Rattle.clu_circles.proofs.states.first_open.Goals as goal

pub places-init : goal.places-init
places-init c = record { onward = omega arith; straight = λ i low high. absurd (omega (arith, low, high)) }

pub places-preserved : goal.places-preserved
places-preserved c = record {
  onward = omega (arith, c.places.invariant.onward);
  straight = one_more c.args.states.now c.args.targets.now c.args.from c.places.place c.places.invariant.straight (sym c.in-None.ensures);
}

pub returns-in-Some : goal.returns-in-Some
returns-in-Some c = record { onward = c.places.invariant.onward; before = c.places-test.true; found = sym c.in-Some.ensures; straight = c.places.invariant.straight }

pub returns : goal.returns
returns c = λ i low high. c.places.invariant.straight i low (omega (arith, high, c.places-test.false))
