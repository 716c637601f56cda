use Rattle.clu_library.proofs.Amiss.{amiss_among, amiss_outside}
use Rattle.clu_library.proofs.unmet.is_amiss.Goals as goal

pub returns-then-is_among : goal.returns-then-is_among
returns-then-is_among c = amiss_among c.args.specs.now c.args.besides.now c.args.spec.now (c.is_among.ensures.0 c.if-is_among.true)

pub returns-else-is_among : goal.returns-else-is_among
returns-else-is_among c = amiss_outside c.args.specs.now c.args.besides.now c.args.spec.now (λ there. let found = c.is_among.ensures.1 there in let none = c.if-is_among.false in cc) _ c.is_unsound.ensures
