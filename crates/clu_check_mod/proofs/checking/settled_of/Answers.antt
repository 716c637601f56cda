use Rattle.std.proofs.Common.{subst, sym}
use Rattle.clu_check_mod.specs.Answered.{AreValues}
use Rattle.clu_check_mod.proofs.checking.settled_of.Goals as goal

pub returns : goal.returns
returns c =
    let its = c.in_ok-settle.ensures in
    subst (AreValues c.args.syntax.now c.args.rounds.now c.args.names.now) (sym c.in_ok-new.ensures.ok) (record { meanings = its.meanings; known = its.known; lost = its.lost; read = its.read })
