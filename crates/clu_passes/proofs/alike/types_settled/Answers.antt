use Rattle.clu_passes.proofs.MeaningsThere.{meanings_are}
use Rattle.clu_passes.proofs.TypesSettled.{agree_in_equates, agree_within, bits_right}
use Rattle.clu_passes.proofs.alike.types_settled.Goals as goal

pub returns-clause-bits : goal.returns-clause-bits
returns-clause-bits c = λ t its library refused all items order circular its_order.
    bits_right t its library refused all.made all.lost (meanings_are t its.file library refused its.types.now all.made.file) all.noted.repeated items order circular its_order

pub returns-clause-equates : goal.returns-clause-equates
returns-clause-equates c = λ t its library refused all items order circular its_order.
    agree_in_equates t its library refused all.made all.lost (meanings_are t its.file library refused its.types.now all.made.file) all.noted.repeated items order circular its_order

pub returns-clause-within : goal.returns-clause-within
returns-clause-within c = λ t its library refused all items order circular its_order.
    agree_within t its library refused all.made all.lost (meanings_are t its.file library refused its.types.now all.made.file) all.noted.repeated items order circular its_order
