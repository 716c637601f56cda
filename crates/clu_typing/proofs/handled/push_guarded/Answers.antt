use Rattle.std.proofs.Common.{◌∙◌, ◌++◌, List, OnOk, sym}
use Rattle.clu_typing.specs.Raises.{AreGathered, guards, passed_from, statement_in}
use Rattle.clu_typing.specs.Raising.{Told}
use Rattle.clu_typing.proofs.Gathered.{if_not, if_so, none_more}
use Rattle.clu_typing.proofs.handled.push_guarded.Goals as goal

pub returns-then-guards-clause-passed : goal.returns-then-guards-clause-passed
returns-then-guards-clause-passed c = λ terms told sets are.
    let facts = c.args.facts.now in
    let new = c.push_passed.new.facts in
    if_so (guards c.args.file c.args.n) (λ (l : List Told). OnOk c.push_passed.result (AreGathered terms facts.finding.words facts.raising new.finding.words new.raising c.push_passed.new.list.items (told ++ l)))
    (passed_from c.args.file terms facts c.args.n (statement_in c.args.file c.args.n)) (sym c.guards.ensures ∙ c.if-guards.true) (c.push_passed.ensures.passed terms told sets are)

pub returns-else-guards-clause-passed : goal.returns-else-guards-clause-passed
returns-else-guards-clause-passed c = λ terms told sets are.
    let facts = c.args.facts.now in
    if_not (guards c.args.file c.args.n) (λ (l : List Told). AreGathered terms facts.finding.words facts.raising facts.finding.words facts.raising c.args.list.now.items (told ++ l))
    (passed_from c.args.file terms facts c.args.n (statement_in c.args.file c.args.n)) (sym c.guards.ensures ∙ c.if-guards.false)
    (none_more terms facts.finding.words facts.raising facts.finding.words facts.raising c.args.list.now.items told are)
