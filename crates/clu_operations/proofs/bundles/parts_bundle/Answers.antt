use Rattle.clu_types.proofs.Carrying.{grows_on}
use Rattle.clu_operations.specs.Modules.{part_seen}
use Rattle.clu_operations.proofs.Bundling.{parts_bundled}
use Rattle.clu_operations.proofs.bundles.parts_bundle.Goals as goal

pub returns-clause-of_type : goal.returns-clause-of_type
returns-clause-of_type c = λ below.
    parts_bundled c.bundle.result c.args.types.now c.part_bundle.new.types c.routines_bundle.new.types c.bundle.new.types c.args.form.now (part_seen c.whole.result) c.routines_in.result.now c.in_ok-own.own c.in_ok-routines.routines c.in_ok-all.all.items
    c.in_ok-own.ensures.kept c.in_ok-routines.ensures.kept c.whole.ensures c.routines_in.ensures c.in_ok-own.ensures.within c.in_ok-routines.ensures.within c.in_ok-all.ensures c.in_ok-own.ensures.of_type c.in_ok-routines.ensures.of_type c.bundle.ensures.of_type below

pub returns-clause-kept : goal.returns-clause-kept
returns-clause-kept c = grows_on _ _ _ (grows_on _ _ _ c.in_ok-own.ensures.kept c.in_ok-routines.ensures.kept) c.bundle.ensures.kept
