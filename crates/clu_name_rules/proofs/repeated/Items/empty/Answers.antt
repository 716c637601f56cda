use Rattle.std.proofs.Common.{refl}
use Rattle.clu_name_rules.proofs.repeated.Items.empty.Goals as goal

pub returns : goal.returns
returns c = record { first = λ name. rw c.new-first.ensures.empty refl; repeated = c.in_ok-repeated.ensures.items_if_clones_equal (λ y e. e) }
