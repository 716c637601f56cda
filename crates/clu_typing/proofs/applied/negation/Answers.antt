use Rattle.std.proofs.Common.{codes, refl, rules}
use Rattle.clu_operations.specs.Words.{IsNumber}
use Rattle.clu_operations.proofs.Looking.{finding_named, follows_named}
use Rattle.clu_typing.proofs.Telling.{finds_on, number_got, number_read, use_given}
use Rattle.clu_typing.proofs.applied.negation.Goals as goal

pub returns-in_ok-used-in-Some-clause-found : goal.returns-in_ok-used-in-Some-clause-found
returns-in_ok-used-in-Some-clause-found c =
    let kept : IsNumber c.args.finding.now.words c.number_of.new.self (codes "not") c.in_ok-name-in-Some.name = number_read c.args.finding.now.words c.number_of.new.self c.as_slice.result.now (codes "not") c.in_ok-name-in-Some.name c.in_ok-name-in-Some.ensures (search rules) in
    use_given c.args.headed c.args.types.now c.used.new.types c.args.finding.now c.used.new.finding c.args.of c.in-Some.of c.in-Some.is c.args.n (codes "not") c.in_ok-used-in-Some.field-0
    (λ within finding.
    let found = c.in_ok-used-in-Some.ensures.found (codes "not") (number_got c.args.finding.now.words c.number_of.new.self (codes "not") c.in_ok-name-in-Some.name kept.0 kept.1) within (finding_named _ _ c.args.finding.now _ (codes "not") kept.0 refl refl refl refl refl finding) in
    (finds_on _ _ _ _ _ (follows_named c.args.finding.now _ (codes "not") kept.0 refl refl refl) found.0, found.1))
