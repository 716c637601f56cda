use Rattle.std.proofs.Common.{◌∙◌, ◌+◌, ◌-◌, List, ℕ, ap, fold}
use Rattle.std.specs.List.{range_with_len}
use Rattle.clu_check_mod.specs.Naming.{with_other}
use Rattle.clu_check_mod.proofs.Looking.{fold_next}
use Rattle.clu_check_mod.proofs.naming.meet_all.Goals as goal

pub loop-n-preserved : goal.loop-n-preserved
loop-n-preserved c =
    ap (λ (names : List (List ℕ)). fold (with_other c.args.tree.now c.args.names.now.declared.items c.args.first c.args.last) names (range_with_len (c.loop-n.n + 1) (c.args.last - (c.loop-n.n + 1)))) c.in_ok-meet_at.ensures
    ∙ fold_next (with_other c.args.tree.now c.args.names.now.declared.items c.args.first c.args.last) c.loop-n.found.keys c.loop-n.n c.args.last c.loop-n-test.true
    ∙ c.loop-n.invariant
