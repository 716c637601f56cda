use Rattle.std.proofs.Common.{◌≡◌, List, length, ap, arith}
use Rattle.clu_tree.specs.declared.node.Node.{Node}
use Rattle.clu_types.proofs.Carrying.{grows_on}
use Rattle.clu_type_rules.specs.declared.unmet.Unmet.{Unmet}
use Rattle.clu_type_rules.specs.Needs.{world}
use Rattle.clu_type_rules.proofs.Lists.{one_longer}
use Rattle.clu_type_rules.proofs.Needing.{grows_self}
use Rattle.clu_type_rules.proofs.Unmeeting.{nodes_first, nodes_next}
use Rattle.clu_type_rules.proofs.unmet.unmet_of_nodes.Goals as goal

pub loop-n-init : goal.loop-n-init
loop-n-init c = (
  grows_self c.args.types.now,
  ap (λ (l : List Unmet). length l) c.new-all.ensures.items,
  λ s keeps askers.
      nodes_first c.args.headed s (world c.args.types.now c.args.finding.now) c.args.invocations.now c.args.meeting.now keeps askers c.new-all.result.items c.new-all.ensures.items,
)

pub loop-n-preserved : goal.loop-n-preserved
loop-n-preserved c = (
  grows_on c.args.types.now c.loop-n.types c.unmet_of_node.new.types c.loop-n.invariant.0 c.in_ok-unmet_of_node.ensures.kept,
  one_longer c.loop-n.all.items c.push.new.self.items c.in_ok-unmet_of_node.field-0 c.loop-n.n c.loop-n.invariant.1 c.in_ok-push.ensures.items,
  λ s keeps askers.
      (let nodes = c.loop-n.invariant.2 s keeps askers in
      nodes_next c.args.headed s (world c.args.types.now c.args.finding.now) c.args.invocations.now (world c.loop-n.types c.loop-n.finding) c.loop-n.meeting c.loop-n.all.items nodes c.loop-n.n c.loop-n.invariant.1
      c.askers_at-askers.result.now c.askers_at-askers.ensures (world c.unmet_of_node.new.types c.unmet_of_node.new.finding) c.unmet_of_node.new.meeting c.in_ok-unmet_of_node.field-0
      (λ here. c.in_ok-unmet_of_node.ensures.asked s nodes.keeps here) c.push.new.self.items c.in_ok-push.ensures.items),
)

pub returns : goal.returns
returns c =
    let all : length c.tree.result.now ≡ length c.args.headed.file.syntax.now = ap (λ (nodes : List Node). length nodes) c.tree.ensures.same in
    record {
      size = omega (arith, c.loop-n.invariant.1, c.loop-n-test.false, c.loop-n.auto.n-end, c.len-n-end.ensures.len, all);
      unmet = λ s keeps askers. (c.loop-n.invariant.2 s keeps askers).at;
      later = λ s keeps askers.
          let nodes = c.loop-n.invariant.2 s keeps askers in
          record { later = nodes.later; finding = nodes.keeps.rests.stands.finding };
      kept = c.loop-n.invariant.0;
    }

pub returns-in_err-unmet_of_node-clause-kept : goal.returns-in_err-unmet_of_node-clause-kept
returns-in_err-unmet_of_node-clause-kept c = grows_on c.args.types.now c.loop-n.types c.unmet_of_node.new.types c.loop-n.invariant.0 c.in_err-unmet_of_node.ensures.kept

pub returns-in_err-push-clause-kept : goal.returns-in_err-push-clause-kept
returns-in_err-push-clause-kept c = grows_on c.args.types.now c.loop-n.types c.unmet_of_node.new.types c.loop-n.invariant.0 c.in_ok-unmet_of_node.ensures.kept
