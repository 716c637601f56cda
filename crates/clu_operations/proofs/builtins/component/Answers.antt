use Rattle.std.proofs.Common.{◌∙◌}
use Rattle.clu_operations.specs.Builtins.{field_name}
use Rattle.clu_operations.proofs.Ascending.{found_at}
use Rattle.clu_operations.proofs.builtins.component.Goals as goal

pub returns : goal.returns
returns c up = c.if_named.ensures ∙ found_at field_name c.args.fields.now c.args.name.now c.place_among.result up (c.place_among.ensures up)
