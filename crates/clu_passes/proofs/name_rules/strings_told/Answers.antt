use Rattle.clu_passes.proofs.Strings.{strings_told}
use Rattle.clu_passes.proofs.name_rules.strings_told.Goals as goal

pub returns : goal.returns
returns c = strings_told
