use Rattle.clu_bindings.proofs.Appending.{nothing_named}
use Rattle.clu_bindings.proofs.modules.no_modules.Goals as goal

pub returns : goal.returns
returns c = record { known = c.new-known.ensures.items; named = λ name. rw c.new-by_name.ensures.empty (nothing_named name) }
