use Rattle.std.proofs.Common.{◌∙◌, suc, take, ap, sym}
use Rattle.clu_link_meaning.specs.Walk.{most}
use Rattle.laws_link.proofs.Unique.{one_walk}
use Rattle.laws_link.proofs.laws.one_reach.Goals as goal

pub returns : goal.returns
returns c = λ made library start us vs fates others x y.
    let one = one_walk library made fates others 0 _ x.all y.all x.walk y.walk in
    (x.listed ∙ ap (take (suc most)) one.1 ∙ sym y.listed, one.0)
