use Rattle.std.proofs.Common.{◌≡◌, ℕ, ◌+◌, get_or}
use Rattle.clu_settle.specs.Parameters.{counted}
use Rattle.clu_settle.proofs.Numbering.{counted_next, numbers_next}
use Rattle.clu_settle.proofs.parameters.number_all.Goals as goal

pub loop-place-preserved : goal.loop-place-preserved
loop-place-preserved c =
    let counts : (u : ℕ) → get_or c.number_one.new.counts u 0 ≡ counted c.args.tree.now c.args.rounds.now c.args.declared.now u (c.loop-place.place + 1) = λ u.
    counted_next c.args.tree.now c.args.rounds.now c.args.declared.now c.loop-place.place u (get_or c.loop-place.counts u 0) (get_or c.number_one.new.counts u 0) c.index-declared-place.result c.loop-place-test.true c.index-declared-place.is (c.loop-place.invariant.counts u) (c.number_one.ensures.counts u) in
    record {
      numbers = numbers_next c.args.tree.now c.args.rounds.now c.args.declared.now c.loop-place.place c.number_one.result c.index-declared-place.result c.number_one.new.counts c.loop-place.numbers.items c.push.new.self.items c.loop-place-test.true c.index-declared-place.is counts c.loop-place.invariant.numbers c.number_one.ensures.number c.in_ok-push.ensures.items;
      counts = counts;
    }
