use Rattle.std.proofs.Common.{◌∙◌, refl, sym}
use Rattle.std.proofs.lemmas.Result.{on_ok_weaker}
use Rattle.clu_operations.specs.declared.finding.Finding.{Finding}
use Rattle.clu_operations.proofs.Entered.{number_found, name_entered, known_entered, put_entered, none_there}
use Rattle.clu_operations.proofs.clauses.enter_one.Goals as goal

pub returns-then-contains_key-clause-entered : goal.returns-then-contains_key-clause-entered
returns-then-contains_key-clause-entered c = λ asked terms wanted was.
    let now : Finding = record c.args.finding.now { words = c.number.new.self } in
    known_entered asked terms now c.args.n c.args.demand.now c.in_ok-number.field-0 (number_found c.args.finding.now now c.args.demand.now.operation c.in_ok-number.field-0 was.once c.in_ok-number.ensures.0 c.in_ok-number.ensures.1)
    (name_entered asked terms c.args.finding.now now c.args.demand.now.operation c.in_ok-number.ensures.0 refl refl refl refl refl was) wanted (sym c.contains_key.ensures ∙ c.if-contains_key.true)

pub returns-else-contains_key-clause-entered : goal.returns-else-contains_key-clause-entered
returns-else-contains_key-clause-entered c = λ asked terms wanted was.
    let now : Finding = record c.args.finding.now { words = c.number.new.self } in
    on_ok_weaker c.put.result
    (put_entered asked terms now c.args.n c.args.demand.now c.in_ok-number.field-0 (number_found c.args.finding.now now c.args.demand.now.operation c.in_ok-number.field-0 was.once c.in_ok-number.ensures.0 c.in_ok-number.ensures.1)
    (name_entered asked terms c.args.finding.now now c.args.demand.now.operation c.in_ok-number.ensures.0 refl refl refl refl refl was) c.put.new.finding (none_there _ (sym c.contains_key.ensures ∙ c.if-contains_key.false)) wanted) c.put.ensures

pub returns-else-contains_key-clause-words : goal.returns-else-contains_key-clause-words
returns-else-contains_key-clause-words c = on_ok_weaker c.put.result (λ put. put.words ∙ c.in_ok-number.ensures.0) c.put.ensures
