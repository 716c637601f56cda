use Rattle.clu_settle.proofs.Made.{ok_more}
use Rattle.clu_settle.proofs.Joined.{joined_by}
use Rattle.clu_settle.proofs.operators.joined_place.Goals as goal

pub returns-in-Concatenate-clause-joined : goal.returns-in-Concatenate-clause-joined
returns-in-Concatenate-clause-joined c = ok_more _ _ c.join.result c.join.ensures.joined (λ found j. joined_by c.args.operator c.args.constants.now c.join.new.self c.args.a c.args.b found c.in-Concatenate.is j)
