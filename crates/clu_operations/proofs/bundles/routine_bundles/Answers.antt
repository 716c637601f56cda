use Rattle.clu_operations.specs.Modules.{part_seen}
use Rattle.clu_operations.proofs.Bundling.{AreBundled, bundled_first, bundled_more, bundled_all}
use Rattle.clu_operations.proofs.bundles.routine_bundles.Goals as goal

pub loop-routine-init : goal.loop-routine-init
loop-routine-init c = rw c.new-made.ensures.items (bundled_first c.args.types.now c.args.routines.now)

pub loop-routine-preserved : goal.loop-routine-preserved
loop-routine-preserved c =
    rw c.in_ok-push.ensures.items
    (bundled_more c.args.types.now c.loop-routine.types c.part_bundle.new.types c.args.routines.now c.loop-routine.made.items c.loop-routine.routine-index c.routine-item.result (part_seen c.of_routine.result) c.in_ok-part.part
    c.loop-routine-test.true c.routine-item.is c.of_routine.ensures c.loop-routine.invariant c.in_ok-part.ensures.kept c.in_ok-part.ensures.within c.in_ok-part.ensures.of_type)

pub returns-clause-of_types : goal.returns-clause-of_types
returns-clause-of_types c =
    let all : AreBundled c.args.types.now c.args.routines.now c.loop-routine.types c.args.routines.now c.loop-routine.made.items =
    bundled_all c.args.types.now c.loop-routine.types c.args.routines.now c.loop-routine.made.items c.loop-routine.routine-index c.loop-routine-test.false c.loop-routine.invariant in
    all.types
