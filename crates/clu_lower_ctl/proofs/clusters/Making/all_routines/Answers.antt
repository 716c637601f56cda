use Rattle.std.proofs.Common.{All, List, sym, subst}
use Rattle.std.proofs.lemmas.List.Elements.{All-push}
use Rattle.clu_wir.specs.declared.routine.WRoutine.{WRoutine}
use Rattle.clu_lower_expr.specs.Bounds.{IsBounded}
use Rattle.clu_lower_ctl.proofs.clusters.Making.all_routines.Goals as goal

pub loop-n-preserved : goal.loop-n-preserved
loop-n-preserved c = subst (λ (rs : List WRoutine). All IsBounded rs) (sym c.in_ok-push.ensures.items) (All-push IsBounded c.loop-n.routines.items c.in_ok-routine.field-0 c.loop-n.invariant c.in_ok-routine.ensures)
