use Rattle.std.proofs.Common.{ap}
use Rattle.clu_types.proofs.Carrying.{grows_on}
use Rattle.clu_demands.proofs.Bringing.{typed_as}
use Rattle.clu_operations.specs.Bundles.{bundle_type}
use Rattle.clu_operations.proofs.bundles.routines_bundle.Goals as goal

pub returns-clause-of_type : goal.returns-clause-of_type
returns-clause-of_type c = λ below. typed_as _ _ _ _ (ap bundle_type (c.in_ok-parts.ensures.of_types below)) (c.bundle.ensures.of_type c.in_ok-parts.ensures.within)

pub returns-clause-kept : goal.returns-clause-kept
returns-clause-kept c = grows_on _ _ _ c.in_ok-parts.ensures.kept c.bundle.ensures.kept
