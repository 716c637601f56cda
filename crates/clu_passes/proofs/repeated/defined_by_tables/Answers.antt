use Rattle.clu_passes.proofs.DefinedTwice.{defined_told}
use Rattle.clu_passes.proofs.repeated.defined_by_tables.Goals as goal

pub returns : goal.returns
returns c = λ t f parsed are same few table named bits repeated items n. defined_told t f parsed are same few table named bits repeated items n
