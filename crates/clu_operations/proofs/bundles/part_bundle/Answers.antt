use Rattle.clu_types.proofs.Carrying.{grows_on}
use Rattle.clu_operations.specs.Modules.{part_seen}
use Rattle.clu_operations.proofs.Bundling.{part_bundled}
use Rattle.clu_operations.proofs.bundles.part_bundle.Goals as goal

pub returns-clause-of_type : goal.returns-clause-of_type
returns-clause-of_type c = λ below.
    part_bundled c.bundle.result c.args.types.now c.intern.new.self c.bundle.new.types c.in_ok-ids.ids.items c.in_ok-null.null (part_seen c.args.part)
    c.in_ok-null.ensures.kept c.in_ok-null.ensures.within c.in_ok-null.ensures.of_type c.in_ok-ids.ensures c.bundle.ensures.of_type below

pub returns-clause-kept : goal.returns-clause-kept
returns-clause-kept c = grows_on _ _ _ c.in_ok-null.ensures.kept c.bundle.ensures.kept
