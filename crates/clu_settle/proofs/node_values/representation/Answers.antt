use Rattle.std.proofs.Common.{subst, List, ℕ}
use Rattle.std.specs.Prelude.{codes}
use Rattle.clu_types.specs.CluType.{no_actuals}
use Rattle.clu_types.specs.Arena.{types_of}
use Rattle.clu_meaning.specs.Scoping.{meaning_of}
use Rattle.clu_meaning.specs.Settling.{settled_type, type_in, value_of_meaning}
use Rattle.clu_settle.specs.Values.{told, Agrees}
use Rattle.clu_settle.specs.Agreeing.{no_more_actuals}
use Rattle.clu_settle.proofs.Made.{ok_more}
use Rattle.clu_settle.proofs.node_values.representation.Goals as goal

pub returns-clause-known : goal.returns-clause-known
returns-clause-known c = ok_more _ _ c.named_type.result c.named_type.ensures.known (λ v p scope unfolded a.
    subst (λ (name : List ℕ). Agrees (told (types_of c.named_type.new.types) c.args.constants.now v) (settled_type (type_in (value_of_meaning scope unfolded name no_actuals (meaning_of scope c.args.n (codes "rep"))))))
    c.in_ok-name.ensures (p scope unfolded (meaning_of scope c.args.n (codes "rep")) no_actuals a no_more_actuals))

pub returns-clause-lost : goal.returns-clause-lost
returns-clause-lost c = ok_more _ _ c.named_type.result c.named_type.ensures.lost (λ v p lost within. p lost within)

pub returns-clause-same : goal.returns-clause-same
returns-clause-same c = ok_more _ _ c.named_type.result c.named_type.ensures.same (λ v p r e. p r e)
