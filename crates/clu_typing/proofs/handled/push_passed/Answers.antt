use Rattle.std.proofs.Common.{◌++◌, ℕ, List, Option, OnOk, subst}
use Rattle.clu_typing.specs.Raises.{AreGathered, passed_from, passed_on, raised_told}
use Rattle.clu_typing.proofs.Gathered.{none_more}
use Rattle.clu_typing.proofs.handled.push_passed.Goals as goal

pub returns-in-Some-clause-passed : goal.returns-in-Some-clause-passed
returns-in-Some-clause-passed c = λ terms told sets are.
    let facts = c.args.facts.now in
    let new = c.push_set.new.facts in
    subst (λ (o : Option ℕ). OnOk c.push_set.result (AreGathered terms facts.finding.words facts.raising new.finding.words new.raising c.push_set.new.list.items (told ++ passed_from c.args.file terms facts c.args.n o)))
    c.in-Some.ensures
    (subst (λ (l : List ℕ). OnOk c.push_set.result (AreGathered terms facts.finding.words facts.raising new.finding.words new.raising c.push_set.new.list.items (told ++ passed_on c.args.file c.args.n l (raised_told terms facts c.in-Some.statement))))
    c.arms.ensures (c.push_set.ensures.passed terms told sets are))

pub returns-in-None-clause-passed : goal.returns-in-None-clause-passed
returns-in-None-clause-passed c = λ terms told sets are.
    let facts = c.args.facts.now in
    subst (λ (o : Option ℕ). AreGathered terms facts.finding.words facts.raising facts.finding.words facts.raising c.args.list.now.items (told ++ passed_from c.args.file terms facts c.args.n o))
    c.in-None.ensures
    (none_more terms facts.finding.words facts.raising facts.finding.words facts.raising c.args.list.now.items told are)
