use Rattle.std.proofs.Common.{get_or}
use Rattle.clu_name_rules.specs.Repeated.{with_item}
use Rattle.clu_name_rules.proofs.Noting.{stepped, ended, number_at}
use Rattle.clu_name_rules.proofs.repeated.Items.note_items.Goals as goal

pub loop-n-preserved : goal.loop-n-preserved
loop-n-preserved c =
    stepped (with_item c.args.words.now c.args.syntax.now c.args.list) c.args.items.now c.loop-n.n-index (get_or c.args.items.now c.loop-n.n-index 0) c.args.self.now c.loop-n.self c.note_item.new.self
    (number_at c.args.items.now c.loop-n.n-index c.loop-n-test.true) c.loop-n.invariant c.in_ok-note_item.ensures

pub returns : goal.returns
returns c = ended (with_item c.args.words.now c.args.syntax.now c.args.list) c.args.items.now c.loop-n.n-index c.args.self.now c.loop-n.self c.loop-n-test.false c.loop-n.invariant
