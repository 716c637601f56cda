use Rattle.std.proofs.Common.{◌∙◌, List, IfOk, sym}
use Rattle.clu_typing.specs.Raised.{nothing}
use Rattle.clu_typing.specs.Raises.{done_told, is_done}
use Rattle.clu_typing.specs.Raising.{IsSetOf, Told}
use Rattle.clu_typing.proofs.Gathered.{if_not, if_so, none_told}
use Rattle.clu_typing.proofs.raises.raises_at.Goals as goal

pub returns-then-is_done-clause-row : goal.returns-then-is_done-clause-row
returns-then-is_done-clause-row c = λ right sets one two.
    let facts = c.args.facts.now in
    let new = c.done_at.new.facts in
    if_so (is_done c.args.headed.file c.args.n) (λ (l : List Told). IfOk c.done_at.result (IsSetOf c.args.types.now facts.finding.words new.finding.words facts.raising new.raising l))
    (done_told c.args.headed.file c.args.types.now facts c.args.applied c.args.n) (sym c.is_done.ensures ∙ c.if-is_done.true) (c.done_at.ensures.row right sets one two)

pub returns-else-is_done-clause-row : goal.returns-else-is_done-clause-row
returns-else-is_done-clause-row c = λ right sets one two.
    let facts = c.args.facts.now in
    if_not (is_done c.args.headed.file c.args.n) (λ (l : List Told). IsSetOf c.args.types.now facts.finding.words facts.finding.words facts.raising facts.raising l nothing)
    (done_told c.args.headed.file c.args.types.now facts c.args.applied c.args.n) (sym c.is_done.ensures ∙ c.if-is_done.false) (none_told c.args.types.now facts.finding.words facts.raising right)
