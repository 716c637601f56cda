use Rattle.std.proofs.Common.{◌≡◌, ◌-◌}
use Rattle.clu_object.specs.Ahead.{items_skipped, text_skipped}
use Rattle.clu_object.proofs.counts_ahead.skip_texts.Given as goal

-- what is left to skip from here
abbrev pub invariant-loop : goal.invariant-loop
invariant-loop l = items_skipped text_skipped (l.count - l.counter) l.rest ≡ items_skipped text_skipped l.count l.bytes
