use Rattle.std.proofs.Common.{[], length, IfOk, Option, append-nil, refl, sym, subst}
use Rattle.clu_types.specs.CluType.{Actuals}
use Rattle.clu_types.specs.Arena.{type_at, types_of}
use Rattle.clu_operations.specs.Found.{Finds}
use Rattle.clu_operations.specs.Modules.{module_seen}
use Rattle.clu_operations.specs.Told.{Told, module_told}
use Rattle.clu_operations.specs.Wished.{cluster_given, told_by}
use Rattle.clu_operations.proofs.Founds.{finds_nothing}
use Rattle.clu_operations.proofs.Wishing.{same_over, none_over, no_more_shown}
use Rattle.clu_operations.proofs.operations.find_known.Goals as goal

pub returns-in-Some-clause-found : goal.returns-in-Some-clause-found
returns-in-Some-clause-found c = λ up below right.
    subst (λ (o : Option Told). IfOk c.find_part.result (Finds (length c.args.types.now) c.find_part.new.types c.args.finding.now c.find_part.new.finding o))
    (same_over (cluster_given (type_at (types_of c.args.types.now) c.args.wished.of)) (λ (given : Actuals). module_told (types_of c.args.types.now) given (module_seen c.args.known) c.in-Some.part)
    (told_by (types_of c.args.types.now) c.args.inside (module_seen c.args.known) c.args.finding.now.words c.args.wished.operation) (λ given. c.in-Some.ensures up (types_of c.args.types.now) given))
    (c.find_part.ensures.found below right)

pub returns-in-Some-clause-shown : goal.returns-in-Some-clause-shown
returns-in-Some-clause-shown c = λ up below right. c.find_part.ensures.shown below right

pub returns-in-None-clause-found : goal.returns-in-None-clause-found
returns-in-None-clause-found c = λ up below right.
    finds_nothing c.args.types.now c.args.types.now ([], sym (append-nil c.args.types.now)) c.args.finding.now c.args.finding.now refl refl refl refl refl _
    (none_over (cluster_given (type_at (types_of c.args.types.now) c.args.wished.of)) _ (λ given. c.in-None.ensures up (types_of c.args.types.now) given))

pub returns-in-None-clause-shown : goal.returns-in-None-clause-shown
returns-in-None-clause-shown c = λ up below right. no_more_shown (types_of c.args.types.now) c.args.finding.now c.args.id (module_seen c.args.known)
