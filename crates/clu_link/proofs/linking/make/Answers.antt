use Rattle.clu_link.proofs.linking.make.Goals as goal

pub returns-in-Err-clause-exact : goal.returns-in-Err-clause-exact
returns-in-Err-clause-exact c = λ start is. c.of_step.ensures.exact_from c.args.lib.now start
