use Rattle.std.proofs.Common.{refl}
use Rattle.clu_checking.specs.Files.{kind_in}
use Rattle.clu_passes.proofs.ByNotes.{items_told}
use Rattle.clu_passes.proofs.repeated.items_repeated.Goals as goal

pub returns : goal.returns
returns c = λ f parents modules bits are n h. items_told f parents modules bits are n (kind_in f n) refl h
