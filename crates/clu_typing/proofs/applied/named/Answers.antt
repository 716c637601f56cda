use Rattle.std.proofs.Common.{refl}
use Rattle.clu_operations.proofs.Looking.{finding_named, follows_named}
use Rattle.clu_typing.proofs.Telling.{finds_on, number_got, use_given}
use Rattle.clu_typing.proofs.applied.named.Goals as goal

pub returns-in_ok-used-in-Some-clause-found : goal.returns-in_ok-used-in-Some-clause-found
returns-in_ok-used-in-Some-clause-found c =
    let kept = c.in_ok-name-in-Some.ensures in
    use_given c.args.headed c.args.types.now c.used.new.types c.args.finding.now c.used.new.finding c.args.of c.in-Some.of c.in-Some.is c.args.n c.args.name.now c.in_ok-used-in-Some.used
    (λ within finding.
    let found = c.in_ok-used-in-Some.ensures.found c.args.name.now (number_got _ _ _ _ kept.0 kept.1) within (finding_named _ _ _ _ _ kept.0 refl refl refl refl refl finding) in
    (finds_on _ _ _ _ _ (follows_named _ _ _ kept.0 refl refl refl) found.0, found.1))
