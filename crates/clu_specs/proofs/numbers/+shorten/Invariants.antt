use Rattle.clu_specs.proofs.numbers.+shorten.Given as goal

abbrev pub decreases-shorten : goal.decreases-shorten
decreases-shorten l = l.digits
