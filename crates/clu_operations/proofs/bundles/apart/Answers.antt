use Rattle.std.proofs.Common.{sym, subst}
use Rattle.clu_types.specs.Arena.{type_at, types_of}
use Rattle.clu_operations.specs.declared.bundles.Shown.{Shown}
use Rattle.clu_operations.specs.Bundles.{HasAll}
use Rattle.clu_operations.proofs.Bundling.{has_all}
use Rattle.clu_operations.proofs.bundles.apart.Goals as goal

pub returns : goal.returns
returns c = λ lt.
    subst (λ (s : Shown). HasAll (type_at (types_of c.args.types.now) c.args.all) s) (sym c.in_ok-shown.ensures.ok)
    (has_all c.put_in.new.types c.in_ok-parts.parts (type_at (types_of c.args.types.now) c.args.all) (c.in_ok-parts.ensures.found lt tt) c.in_ok-parts.ensures.of_type c.in_ok-parts.ensures.within)
