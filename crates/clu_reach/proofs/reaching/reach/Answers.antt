use Rattle.clu_reach.proofs.reaching.reach.Goals as goal

pub returns-clause-exact : goal.returns-clause-exact
returns-clause-exact c = c.of_step.ensures.exact c.args.lib.now c.args.first

pub returns-clause-exact_from : goal.returns-clause-exact_from
returns-clause-exact_from c = λ start is. c.of_step.ensures.exact_from c.args.lib.now start
