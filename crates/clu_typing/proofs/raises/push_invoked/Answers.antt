use Rattle.std.proofs.Common.{◌++◌, Option, sym, subst}
use Rattle.clu_types.specs.declared.term.TypeId.{TypeId}
use Rattle.clu_typing.specs.Raises.{AreGathered, invoked_told}
use Rattle.clu_typing.proofs.Gathered.{none_more}
use Rattle.clu_typing.proofs.raises.push_invoked.Goals as goal

pub returns-in-None-clause-invoked : goal.returns-in-None-clause-invoked
returns-in-None-clause-invoked c = λ names first told within are.
    let facts = c.args.facts.now in
    subst (λ (o : Option TypeId). AreGathered c.args.types.now names first facts.finding.words facts.raising c.args.list.now.items (told ++ invoked_told c.args.types.now o)) (sym c.in-None.is)
    (none_more c.args.types.now names first facts.finding.words facts.raising c.args.list.now.items told are)
