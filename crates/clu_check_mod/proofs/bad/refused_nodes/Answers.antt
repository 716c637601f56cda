use Rattle.std.proofs.Common.{◌≡◌, ◌∙◌, ◌+◌, ◌-◌, ◌<◌, ◌++◌, ◌∷◌, [], Bool, List, ap, arith, length, map}
use Rattle.std.specs.List.{range_with_len}
use Rattle.clu_check_mod.specs.Bad.{fault_of_types}
use Rattle.clu_check_mod.proofs.Looking.{mapped_next}
use Rattle.clu_check_mod.proofs.bad.refused_nodes.Goals as goal

pub loop-n-preserved : goal.loop-n-preserved
loop-n-preserved c items ascending =
    let same : length c.tree.result.now ≡ length c.args.t.now.file.syntax.now = ap length c.tree.ensures.same in
    let less : c.loop-n.n < length c.args.t.now.file.syntax.now = omega (arith, c.loop-n-test.true, c.len-n-end.ensures.len, same) in
    ap (λ (xs : List Bool). xs ++ map (fault_of_types items c.args.t.now c.in_ok-bad.bad.items) (range_with_len (c.loop-n.n + 1) (length c.args.t.now.file.syntax.now - (c.loop-n.n + 1))))
    (c.in_ok-push.ensures.items ∙ ap (λ (b : Bool). c.loop-n.refused.items ++ b ∷ []) (c.is_refused.ensures items ascending ∙ ap (λ (bad : List Bool). fault_of_types items c.args.t.now bad c.loop-n.n) c.as_slice.ensures.value))
    ∙ mapped_next (fault_of_types items c.args.t.now c.in_ok-bad.bad.items) c.loop-n.refused.items c.loop-n.n (length c.args.t.now.file.syntax.now) less
    ∙ c.loop-n.invariant items ascending
