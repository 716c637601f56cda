use Rattle.std.proofs.Common.{refl}
use Rattle.std.specs.Str.{bytes_eq}
use Rattle.indexmap.specs.IndexMap.{get}
use Rattle.clu_names.proofs.Counts.{none_begun}
use Rattle.clu_names.proofs.binding.bind_over.Goals as goal

pub walk-requires-clause-locals : goal.walk-requires-clause-locals
walk-requires-clause-locals c = none_begun c.args.declared.now (get bytes_eq c.new-locals.result) (λ name. rw c.new-locals.ensures.empty refl)
