use Rattle.std.proofs.Common.{◌≡◌, Some, slice_get, ap, sym, ◌∙◌}
use Rattle.std.specs.Option.{option_copied}
use Rattle.clu_library.specs.Bounds.{in_table, rank_in, reaches_spec}
use Rattle.clu_library.specs.Resting.{with_changed}
use Rattle.clu_library.proofs.Walking.{all_more}
use Rattle.clu_library.proofs.latest.Table.reaches_specs.Goals as goal

pub loop-n-preserved : goal.loop-n-preserved
loop-n-preserved c =
    let here : Some c.in-Some.spec.now ≡ slice_get c.args.specs.now c.loop-n.n = sym (ap option_copied c.in-Some.is) ∙ c.at.ensures.nth in
    all_more (reaches_spec (with_changed c.args.specs.now (option_copied c.args.changed)) c.args.changes.now (in_table c.args.self.now) (rank_in c.args.self.now)) c.args.specs.now c.loop-n.n
    c.in-Some.spec.now _ here (sym c.reaches_spec.ensures ∙ c.if-not-reaches_spec.false) c.loop-n.invariant
