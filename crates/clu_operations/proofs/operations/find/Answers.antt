use Rattle.std.proofs.Common.{length}
use Rattle.clu_types.specs.Arena.{types_of}
use Rattle.clu_operations.proofs.Looking.{wished_is, tells_as, tells_itself, still_ready}
use Rattle.clu_operations.proofs.operations.find.Goals as goal

pub returns-in-Builtin-clause-found : goal.returns-in-Builtin-clause-found
returns-in-Builtin-clause-found c = λ of ready up.
    tells_as c.find_builtin.result (length c.args.types.now) c.find_builtin.new.types c.args.finding.now c.find_builtin.new.finding _ _ (wished_is c.args.headed (types_of c.args.types.now) c.args.finding.now.words c.args.wished _ c.in-Builtin.is) (c.find_builtin.ensures.found of up)

pub returns-in-Builtin-clause-stays : goal.returns-in-Builtin-clause-stays
returns-in-Builtin-clause-stays c = λ ready. c.find_builtin.ensures.stays

pub returns-in-Builtin-clause-ready : goal.returns-in-Builtin-clause-ready
returns-in-Builtin-clause-ready c = λ ready. still_ready c.find_builtin.result c.args.headed c.args.types.now c.find_builtin.new.types c.args.finding.now c.find_builtin.new.finding c.find_builtin.ensures.kept c.find_builtin.ensures.shown ready

pub returns-in-Inside-clause-found : goal.returns-in-Inside-clause-found
returns-in-Inside-clause-found c = λ of ready up.
    tells_as c.find_in.result (length c.args.types.now) c.find_in.new.types c.args.finding.now c.find_in.new.finding _ _ (wished_is c.args.headed (types_of c.args.types.now) c.args.finding.now.words c.args.wished _ c.in-Inside.is) (c.find_in.ensures.found ready)

pub returns-in-Inside-clause-stays : goal.returns-in-Inside-clause-stays
returns-in-Inside-clause-stays c = λ ready. tells_itself c.find_in.result (length c.args.types.now) c.find_in.new.types c.args.finding.now c.find_in.new.finding _ (c.find_in.ensures.found ready)

pub returns-in-Outside-clause-found : goal.returns-in-Outside-clause-found
returns-in-Outside-clause-found c = λ of ready up.
    tells_as c.find_in-in-Outside.result (length c.args.types.now) c.find_in-in-Outside.new.types c.args.finding.now c.find_in-in-Outside.new.finding _ _ (wished_is c.args.headed (types_of c.args.types.now) c.args.finding.now.words c.args.wished _ c.in-Outside.is) (c.find_in-in-Outside.ensures.found ready)

pub returns-in-Outside-clause-stays : goal.returns-in-Outside-clause-stays
returns-in-Outside-clause-stays c = λ ready. tells_itself c.find_in-in-Outside.result (length c.args.types.now) c.find_in-in-Outside.new.types c.args.finding.now c.find_in-in-Outside.new.finding _ (c.find_in-in-Outside.ensures.found ready)
