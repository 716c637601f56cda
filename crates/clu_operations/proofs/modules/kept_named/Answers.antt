use Rattle.std.proofs.Common.{◌∙◌}
use Rattle.clu_operations.specs.Modules.{operation_name}
use Rattle.clu_operations.proofs.Ascending.{found_at}
use Rattle.clu_operations.proofs.modules.kept_named.Goals as goal

pub returns-clause-named : goal.returns-clause-named
returns-clause-named c up = c.kept_if_named.ensures.named ∙ found_at operation_name c.args.operations.now c.args.name.now c.place_among_kept.result up (c.place_among_kept.ensures up)
