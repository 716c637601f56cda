use Rattle.std.proofs.Common.{subst, sym}
use Rattle.clu_check_mod.specs.Answered.{AreOwn}
use Rattle.clu_check_mod.specs.declared.checking.Found.{Found}
use Rattle.clu_check_mod.specs.declared.walk.Extent.TheVariants as extent
use Rattle.clu_check_mod.proofs.Answered.{own_found}
use Rattle.clu_check_mod.proofs.checking.specs_of.Goals as goal

pub returns-clause-made : goal.returns-clause-made
returns-clause-made c =
    subst (λ (f : Found). AreOwn c.args.syntax.now c.args.library.now extent.Headings f.own.items) (sym c.into_inner-own.ensures)
    (own_found _ _ _ _ _ c.in_ok-found.ensures.noted c.in_ok-found.ensures.found.0)
