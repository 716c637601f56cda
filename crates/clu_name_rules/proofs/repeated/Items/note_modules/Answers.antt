use Rattle.std.proofs.Common.{length}
use Rattle.clu_name_rules.specs.Repeated.{with_module}
use Rattle.clu_name_rules.proofs.Noting.{stepped, ended, item_at}
use Rattle.clu_name_rules.proofs.repeated.Items.note_modules.Goals as goal

pub loop-one-preserved : goal.loop-one-preserved
loop-one-preserved c =
    stepped (with_module c.args.words.now (length c.args.syntax.now)) c.args.declared.now c.loop-one.one-index c.one-item.result c.args.self.now c.loop-one.self c.note_module.new.self
    (item_at c.args.declared.now c.loop-one.one-index c.one-item.result c.loop-one-test.true c.one-item.is) c.loop-one.invariant c.in_ok-note_module.ensures

pub returns : goal.returns
returns c = ended (with_module c.args.words.now (length c.args.syntax.now)) c.args.declared.now c.loop-one.one-index c.args.self.now c.loop-one.self c.loop-one-test.false c.loop-one.invariant
