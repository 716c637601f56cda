use Rattle.std.proofs.Common.{◌≡◌, ◌∙◌, ◌+◌, ◌-◌, ◌<◌, ap, arith, fold, length}
use Rattle.std.specs.List.{range_with_len}
use Rattle.clu_bindings.specs.declared.file.File.{File}
use Rattle.clu_type_rules.specs.Walking.{Asked}
use Rattle.clu_check_mod.specs.Bad.{arms_by, file_by, state}
use Rattle.clu_check_mod.proofs.Looking.{fold_next}
use Rattle.clu_check_mod.proofs.bad.Asking.settle_arms.Goals as goal

pub loop-n-preserved : goal.loop-n-preserved
loop-n-preserved c items ascending =
    let same : length c.tree.result.now ≡ length (file_by c.args.by).syntax.now = ap length (c.tree.ensures.same ∙ ap (λ (f : File). f.syntax.now) c.file_of.ensures) in
    let less : c.loop-n.n < length (file_by c.args.by).syntax.now = omega (arith, c.loop-n-test.true, c.len-n-end.ensures.len, same) in
    ap (λ (a : Asked). fold (arms_by c.args.by items) a (range_with_len (c.loop-n.n + 1) (length (file_by c.args.by).syntax.now - (c.loop-n.n + 1)))) (c.settle_arm.ensures items ascending)
    ∙ fold_next (arms_by c.args.by items) (state c.loop-n.self) c.loop-n.n (length (file_by c.args.by).syntax.now) less
    ∙ c.loop-n.invariant items ascending
