use Rattle.std.proofs.Common.{refl}
use Rattle.std.specs.Str.{bytes_eq}
use Rattle.indexmap.specs.IndexMap.{get}
use Rattle.clu_names.proofs.Counts.{no_modules}
use Rattle.clu_names.proofs.binding.bind.Goals as goal

pub bind_over-requires-clause-modules : goal.bind_over-requires-clause-modules
bind_over-requires-clause-modules c = no_modules c.args.declared.now (get bytes_eq c.new-modules.result) (λ name. rw c.new-modules.ensures.empty refl)
