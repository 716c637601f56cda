use Rattle.clu_peep.proofs.Placed.{peeped_placed}
use Rattle.clu_peep.proofs.Shorter.{peeped_shorter}
use Rattle.clu_peep.proofs.peeping.peep.Goals as goal

pub returns-clause-flat : goal.returns-clause-flat
returns-clause-flat c =
    (peeped_shorter c.args.f.code.items c.args.r.now c.in_ok-steps.field-0.steps.items c.in_ok-steps.field-0.regions c.in_ok-steps.ensures).flat c.requires.flat

pub returns-clause-placed : goal.returns-clause-placed
returns-clause-placed c =
    peeped_placed c.args.f.code.items c.args.r.now c.in_ok-steps.field-0.steps.items c.in_ok-steps.field-0.regions c.requires.flat.ends c.requires.placed c.in_ok-steps.ensures

pub returns-clause-words : goal.returns-clause-words
returns-clause-words c =
    (peeped_shorter c.args.f.code.items c.args.r.now c.in_ok-steps.field-0.steps.items c.in_ok-steps.field-0.regions c.in_ok-steps.ensures).words

pub returns-clause-within : goal.returns-clause-within
returns-clause-within c = λ within.
    (peeped_shorter c.args.f.code.items c.args.r.now c.in_ok-steps.field-0.steps.items c.in_ok-steps.field-0.regions c.in_ok-steps.ensures).within c.args.f.frame within
