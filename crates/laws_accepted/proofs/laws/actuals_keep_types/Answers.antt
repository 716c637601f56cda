use Rattle.laws_accepted.proofs.Staying.{meets_put, legal_put}
use Rattle.laws_accepted.proofs.laws.actuals_keep_types.Goals as goal

pub returns : goal.returns
returns c = λ specified from to given legal p t l. (legal_put specified legal from to given p t l, λ name wanted h. meets_put specified legal from to given p t name wanted l h)
