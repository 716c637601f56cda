use Rattle.std.proofs.Common.{◌≡◌, ◌∙◌, ◌≤◌, List, length, slice_get, Some, sym, subst}
use Rattle.clu_specs.specs.Seen.{Used}
use Rattle.clu_link_meaning.specs.Walk.{most}
use Rattle.laws_link.specs.Reached.{Fated}
use Rattle.laws_link.proofs.Closure.{all_fated}
use Rattle.laws_link.proofs.Least.{take_short}
use Rattle.laws_link.proofs.laws.reach_is_closed.Goals as goal

pub returns : goal.returns
returns c = λ made library start us fates r few i u e.
    let same : us ≡ r.all = r.listed ∙ take_short r.all most (subst (λ (xs : List Used). length xs ≤ most) r.listed few) in
    subst (λ (xs : List Used). Fated made library xs u) (sym same)
    (all_fated made library fates _ r.all r.walk (subst (λ (xs : List Used). length xs ≤ most) same few) i u (subst (λ (xs : List Used). slice_get xs i ≡ Some u) same e))
