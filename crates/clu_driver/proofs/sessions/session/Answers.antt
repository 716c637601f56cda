use Rattle.std.proofs.Common.{ap, map, rules, string_bytes}
use Rattle.clu_driver.proofs.OneMore.{next_call}
use Rattle.clu_driver.proofs.sessions.session.Goals as goal

-- the call of this turn is one more
pub loop-words-preserved : goal.loop-words-preserved
loop-words-preserved g c = record {
  calls = next_call (λ words. map string_bytes words.items) c.args.runs.now c.loop-words.words-index c.words-item.result _ c.loop-words.statuses.items _ c.call.result _ _ _
      c.loop-words-test.true c.words-item.is (ap (map string_bytes) c.deref.ensures.value) c.push_reserved.ensures.items c.loop-words.invariant.calls c.call.ensures;
  count = search rules;
  room = search rules;
}
