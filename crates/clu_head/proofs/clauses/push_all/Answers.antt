use Rattle.std.proofs.Common.{◌∙◌, ℕ, List, [], sym, ap, map}
use Rattle.std.proofs.lemmas.List.{append-nil}
use Rattle.clu_types.proofs.Carrying.{grows_on}
use Rattle.clu_head.specs.declared.head.Demanded.{Demanded}
use Rattle.clu_head.specs.Asked.{demands_at}
use Rattle.clu_head.proofs.Asking.{none_demanded, none_started, demands_next, starts_next}
use Rattle.clu_head.proofs.Wanting.{asked_first, asked_next, node_untyped}
use Rattle.clu_head.proofs.clauses.push_all.Goals as goal

pub loop-n-init : goal.loop-n-init
loop-n-init c =
    let k = c.args.known in
    let of : ℕ → List Demanded = demands_at k.syntax.now k.rounds.now k.counts.now k.restricted.now in
    record {
      starts = none_started of c.args.starts.now.items c.requires.starts;
      demands = none_demanded of c.args.demands.now.items c.requires.demands;
      asked = asked_first k c.args.types.now c.args.demands.now.items c.requires.demands;
      kept = ([], sym (append-nil _));
    }

pub loop-n-preserved : goal.loop-n-preserved
loop-n-preserved c =
    let k = c.args.known in
    let of : ℕ → List Demanded = demands_at k.syntax.now k.rounds.now k.counts.now k.restricted.now in
    record {
      starts = starts_next of c.loop-n.n c.len.result c.loop-n.demands.items c.loop-n.starts.items c.push.new.self.items c.loop-n.invariant.starts c.loop-n.invariant.demands (c.len.ensures ∙ c.loop-n.demands.ok.0) c.in_ok-push.ensures.items;
      demands = demands_next of c.loop-n.n c.loop-n.demands.items c.push_node.new.demands.items c.loop-n.invariant.demands (node_untyped k c.loop-n.types c.push_node.new.types c.loop-n.n c.loop-n.demands.items c.push_node.new.demands.items c.in_ok-push_node.ensures.asked);
      asked = asked_next k c.args.types.now c.loop-n.types c.push_node.new.types c.loop-n.invariant.kept c.push_node.ensures.kept c.loop-n.n c.loop-n.demands.items c.push_node.new.demands.items c.loop-n.invariant.asked c.in_ok-push_node.ensures.asked;
      kept = grows_on _ _ _ c.loop-n.invariant.kept c.push_node.ensures.kept;
    }
