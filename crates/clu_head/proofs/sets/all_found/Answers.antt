use Rattle.std.proofs.Common.{◌≡◌, ◌∙◌, ℕ, List, Option, length, fold, ap, sym}
use Rattle.std.proofs.lemmas.List.{take_at}
use Rattle.clu_head.specs.Sets.{with_set}
use Rattle.clu_head.proofs.sets.all_found.Goals as goal

pub returns : goal.returns
returns c =
    let size : length c.find_sets.new.sets ≡ c.in_ok-sets.sets.len = c.find_sets.ensures.size ∙ ap length c.deref_mut.ensures.value ∙ sym c.in_ok-sets.sets.ok.0 in
    take_at c.find_sets.new.sets _ c.in_ok-sets.sets.len size
    ∙ c.find_sets.ensures.exact
    ∙ ap (λ (s : List (Option ℕ)). fold (with_set c.args.said.now) s c.args.order.now) (c.deref_mut.ensures.value ∙ c.in_ok-sets.ensures)
