use Rattle.std.proofs.Common.{◌∙◌, ℕ, ◌+◌, List, [], ◌∷◌, ◌++◌, drop, sym, ap}
use Rattle.clu_base.proofs.Lists.{dropped}
use Rattle.clu_name_rules.specs.Lengths.{term_length, lengths_behind}
use Rattle.clu_name_rules.proofs.lengths.lengths_of.Goals as goal

pub loop-id-preserved : goal.loop-id-preserved
loop-id-preserved c =
    ap (λ (ls : List ℕ). lengths_behind ls (drop (c.loop-id.id + 1) c.args.types.now))
    (c.in_ok-push.ensures.items ∙ ap (λ (n : ℕ). c.loop-id.lengths.items ++ n ∷ []) (c.of_term-length.ensures ∙ ap (λ (ls : List ℕ). term_length ls c.view.result.now) c.as_slice.ensures.value))
    ∙ sym (ap (lengths_behind c.loop-id.lengths.items) (dropped c.args.types.now c.loop-id.id c.view.result.now c.view.ensures.term))
    ∙ c.loop-id.invariant
