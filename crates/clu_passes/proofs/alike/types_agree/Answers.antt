use Rattle.clu_passes.proofs.MeaningsThere.{meanings_are}
use Rattle.clu_passes.proofs.TypesAgree.{types_agree}
use Rattle.clu_passes.proofs.alike.types_agree.Goals as goal

pub returns : goal.returns
returns c = λ t its library refused all items bits bad are_bad.
    types_agree t its library refused all.made all.lost (meanings_are t its.file library refused its.types.now all.made.file) all.noted.repeated items bits bad are_bad
