use Rattle.std.proofs.Common.{[], sym}
use Rattle.std.proofs.lemmas.List.{append-nil}
use Rattle.clu_types.proofs.Carrying.{grows_on}
use Rattle.clu_head.proofs.Wanting.{have_none, have_next}
use Rattle.clu_head.proofs.clauses.push_all_asked.Goals as goal

pub loop-asking-init : goal.loop-asking-init
loop-asking-init c = record { asked = have_none c.args.known c.args.types.now c.args.demands.now.items; kept = ([], sym (append-nil _)) }

pub loop-asking-preserved : goal.loop-asking-preserved
loop-asking-preserved c = record {
  asked = have_next c.args.known c.args.types.now c.loop-asking.types c.push_asked.new.types c.loop-asking.invariant.kept c.push_asked.ensures.kept
      c.args.all.now c.loop-asking.asking-index c.loop-asking-test.true _ c.args.demands.now.items c.loop-asking.demands.items c.push_asked.new.demands.items
      c.loop-asking.invariant.asked c.in_ok-push_asked.ensures.asked;
  kept = grows_on _ _ _ c.loop-asking.invariant.kept c.push_asked.ensures.kept;
}
