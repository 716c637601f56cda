use Rattle.std.proofs.Common.{refl}
use Rattle.clu_checking.specs.Files.{kind_in}
use Rattle.clu_passes.proofs.ByNotes.{selectors_told}
use Rattle.clu_passes.proofs.repeated.v17_of_selectors.Goals as goal

pub returns : goal.returns
returns c = λ f parents modules bits are n h. selectors_told f parents modules bits are n (kind_in f n) refl h
