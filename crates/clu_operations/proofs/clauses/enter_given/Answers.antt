use Rattle.std.proofs.Common.{◌≡◌, List, ap, length, arith}
use Rattle.clu_tree.specs.declared.node.Node.{Node}
use Rattle.clu_operations.proofs.Entered.{below_first, below_more, below_all}
use Rattle.clu_operations.proofs.clauses.enter_given.Goals as goal

pub loop-n-init : goal.loop-n-init
loop-n-init c = below_first c.args.headed c.args.finding.now

pub loop-n-preserved : goal.loop-n-preserved
loop-n-preserved c = below_more c.args.headed c.args.finding.now c.loop-n.finding c.enter.new.finding c.loop-n.n c.of.result.now c.of.ensures c.loop-n.invariant c.in_ok-enter.ensures.entered c.in_ok-enter.ensures.words

pub returns-clause-found : goal.returns-clause-found
returns-clause-found c =
    let all : length c.tree.result.now ≡ length c.args.headed.file.syntax.now = ap (λ (nodes : List Node). length nodes) c.tree.ensures.same in
    below_all c.args.headed c.args.finding.now c.loop-n.finding c.loop-n.n (omega (arith, c.loop-n-test.false, c.len-n-end.ensures.len, all)) c.loop-n.invariant

pub returns-clause-words : goal.returns-clause-words
returns-clause-words c = c.loop-n.invariant.words
