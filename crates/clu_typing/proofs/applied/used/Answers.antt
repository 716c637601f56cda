use Rattle.std.proofs.lemmas.Option.{slice_get_within}
use Rattle.clu_typing.proofs.Telling.{use_told}
use Rattle.clu_typing.proofs.applied.used.Goals as goal

pub returns-clause-found : goal.returns-clause-found
returns-clause-found c = λ text named within finding.
    use_told c.args.headed c.args.types.now c.operation_found.new.types c.in_ok-found.ensures.kept c.args.finding.now c.operation_found.new.finding c.args.n c.args.of c.args.name text c.in_ok-found.found c.operation_of.result
    c.operation_of.ensures named within finding (c.in_ok-found.ensures.found within (slice_get_within _ _ text named) finding)
