use Rattle.std.proofs.Common.{◌≡◌, ◌∙◌, ◌<◌, ◌++◌, ◌∷◌, [], Bool, List, length, slice_get, add-one, ap, sym, arith}
use Rattle.clu_name_rules.specs.Lengths.{is_long_at}
use Rattle.clu_name_rules.proofs.Outlined.{long_next}
use Rattle.clu_name_rules.proofs.lengths.long_constants.Goals as goal

pub loop-place-preserved : goal.loop-place-preserved
loop-place-preserved c =
    let there : c.loop-place.place < length c.args.constants.now = omega (arith, c.loop-place-test.true, c.len-place-end.ensures) in
    rw (add-one c.loop-place.place) (c.in_ok-push.ensures.items
    ∙ ap (λ (b : Bool). c.loop-place.long.items ++ b ∷ []) c.is_long.ensures
    ∙ ap (λ (l : List Bool). l ++ is_long_at (slice_get c.args.constants.now c.loop-place.place) ∷ []) c.loop-place.invariant
    ∙ sym (long_next c.args.constants.now c.loop-place.place there))
