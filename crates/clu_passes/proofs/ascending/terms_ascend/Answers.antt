use Rattle.clu_passes.proofs.TermsAscend.{arena_ascends}
use Rattle.clu_passes.proofs.ascending.terms_ascend.Goals as goal

pub returns : goal.returns
returns c = arena_ascends
