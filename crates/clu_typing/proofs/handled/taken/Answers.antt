use Rattle.std.proofs.Common.{List, subst}
use Rattle.clu_operations.specs.declared.words.NameId.{NameId}
use Rattle.clu_typing.specs.Sets.{HaveSame}
use Rattle.clu_typing.proofs.handled.taken.Goals as goal

pub returns-clause-same : goal.returns-clause-same
returns-clause-same c = subst (λ (l : List NameId). HaveSame c.ascending.result.items l) c.in_ok-list.ensures c.ascending.ensures.same
