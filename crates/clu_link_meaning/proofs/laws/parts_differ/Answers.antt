use Rattle.clu_link_meaning.proofs.Places.{descriptors_differ, strings_differ, tables_differ, variables_apart}
use Rattle.clu_link_meaning.proofs.laws.parts_differ.Goals as goal

pub returns : goal.returns
returns c = λ p. record { descriptors = descriptors_differ p; tables = tables_differ p; strings = strings_differ p; variables = variables_apart p }
