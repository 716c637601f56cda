use Rattle.std.proofs.Common.{◌∙◌, ap, bytes_eq, ◌||◌, ℕ, List}
use Rattle.std.specs.List.{list_any}
use Rattle.clu_head.proofs.OfModules.{exported_next}
use Rattle.clu_head.proofs.heads.exports_of.Goals as goal

pub loop-name-preserved : goal.loop-name-preserved
loop-name-preserved c = λ x. exported_next x c.args.names.now c.loop-name.exports.value.keys _ c.loop-name.name-index c.name-item.result c.loop-name-test.true c.name-item.is (c.loop-name.invariant x) (c.in_ok-push_export.ensures x ∙ ap (λ (ks : List (List ℕ)). list_any (bytes_eq x) ks || bytes_eq x c.name-item.result) (ap (λ s. s.keys) c.deref_mut.ensures.value))
