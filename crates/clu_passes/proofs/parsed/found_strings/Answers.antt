use Rattle.clu_passes.proofs.FoundStrings.{found_strings}
use Rattle.clu_passes.proofs.parsed.found_strings.Goals as goal

pub returns : goal.returns
returns c = found_strings
