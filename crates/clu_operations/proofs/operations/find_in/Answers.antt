use Rattle.std.proofs.Common.{[], length, option_and_then, IfOk, Option, append-nil, refl, sym, ap, subst}
use Rattle.clu_types.specs.Arena.{type_at, types_of}
use Rattle.clu_operations.specs.Found.{Finds}
use Rattle.clu_operations.specs.Modules.{Module, module_seen}
use Rattle.clu_operations.specs.Wished.{cluster_given, told_by}
use Rattle.clu_operations.proofs.Founds.{finds_nothing}
use Rattle.clu_operations.proofs.Wishing.{ready_if}
use Rattle.clu_operations.proofs.operations.find_in.Goals as goal

pub returns-in-Some-clause-found : goal.returns-in-Some-clause-found
returns-in-Some-clause-found c = λ ready.
    let its = ready c.args.id (module_seen c.in-Some.known) (sym c.in-Some.ensures) in
    subst
    (λ (o : Option Module). IfOk c.find_known.result (Finds (length c.args.types.now) c.find_known.new.types c.args.finding.now c.find_known.new.finding
    (option_and_then (λ its. option_and_then (told_by (types_of c.args.types.now) c.args.inside its c.args.finding.now.words c.args.wished.operation) (cluster_given (type_at (types_of c.args.types.now) c.args.wished.of))) o)))
    c.in-Some.ensures (c.find_known.ensures.found its.ascending its.below its.shown)

pub returns-in-Some-clause-ready : goal.returns-in-Some-clause-ready
returns-in-Some-clause-ready c = λ ready.
    let its = ready c.args.id (module_seen c.in-Some.known) (sym c.in-Some.ensures) in
    ready_if c.find_known.result c.args.headed c.args.types.now c.find_known.new.types c.find_known.ensures.kept c.args.finding.now c.find_known.new.finding c.args.id (module_seen c.in-Some.known) (sym c.in-Some.ensures)
    (c.find_known.ensures.shown its.ascending its.below its.shown) ready

pub returns-in-None-clause-found : goal.returns-in-None-clause-found
returns-in-None-clause-found c = λ ready.
    finds_nothing c.args.types.now c.args.types.now ([], sym (append-nil c.args.types.now)) c.args.finding.now c.args.finding.now refl refl refl refl refl _
    (ap (option_and_then (λ (its : Module). option_and_then (told_by (types_of c.args.types.now) c.args.inside its c.args.finding.now.words c.args.wished.operation) (cluster_given (type_at (types_of c.args.types.now) c.args.wished.of)))) c.in-None.ensures)

pub returns-in-None-clause-ready : goal.returns-in-None-clause-ready
returns-in-None-clause-ready c = λ ready. ready
