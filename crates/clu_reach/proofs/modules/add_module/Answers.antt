use Rattle.std.proofs.Common.{subst, sym}
use Rattle.clu_reach.specs.Causes.{HasBody}
use Rattle.clu_reach.specs.Found.{IsKept}
use Rattle.clu_reach.proofs.Keeping.{bodies_with}
use Rattle.clu_reach.proofs.modules.add_module.Goals as goal

pub returns-in_ok-push : goal.returns-in_ok-push
returns-in_ok-push c =
    λ library one all. bodies_with library c.args.modules.now.items c.push.new.self.items c.in_ok-copy.field-0 c.in_ok-push.ensures.items
    (subst (HasBody library) (sym c.in_ok-copy.ensures) (subst (IsKept library) c.in-Kept.is one)) all
