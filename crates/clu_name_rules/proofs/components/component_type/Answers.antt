use Rattle.std.proofs.Common.{◌∙◌}
use Rattle.clu_name_rules.proofs.Found.{found_at}
use Rattle.clu_name_rules.proofs.components.component_type.Goals as goal

pub returns : goal.returns
returns c up = c.type_if_named.ensures ∙ found_at c.args.fields.now c.args.name.now c.place_of.result up (c.place_of.ensures up)
