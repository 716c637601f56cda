use Rattle.std.proofs.Common.{refl}
use Rattle.clu_checking.specs.Files.{kind_in}
use Rattle.clu_passes.proofs.ByNotes.{arms_told}
use Rattle.clu_passes.proofs.repeated.arms_repeated.Goals as goal

pub returns : goal.returns
returns c = λ f parents modules bits are n h. arms_told f parents modules bits are n (kind_in f n) refl h
