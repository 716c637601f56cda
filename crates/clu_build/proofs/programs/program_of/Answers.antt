use Rattle.std.proofs.Common.{◌∙◌, ap, subst, sym}
use Rattle.clu_library.specs.declared.program.Program.{Program}
use Rattle.clu_reach.specs.Causes.{HaveBodies}
use Rattle.clu_build.proofs.programs.program_of.Goals as goal

pub returns-clause-bodies : goal.returns-clause-bodies
returns-clause-bodies c =
    let same = ap (λ (p : Program). p.modules) c.in_ok-new.ensures.ok ∙ c.program.ensures.modules in
    subst (HaveBodies c.args.library.now) (sym same) c.in_ok-linked.ensures.bodies
