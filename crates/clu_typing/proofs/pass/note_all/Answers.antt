use Rattle.std.proofs.Common.{length}
use Rattle.clu_syntax.specs.Items.{no_item}
use Rattle.clu_typing.proofs.Passing.{sound_if}
use Rattle.clu_typing.proofs.pass.note_all.Goals as goal

pub returns-clause-known : goal.returns-clause-known
returns-clause-known c = λ items nothing. c.note_nodes.ensures.known items c.args.types.now (c.in_ok-enter_first.ensures.nothing (c.in_ok-reserve.ensures nothing))

pub returns-clause-sound : goal.returns-clause-sound
returns-clause-sound c = λ nothing have arena.
    sound_if c.note_nodes.result c.args.headed c.args.types.now (length c.args.headed.file.syntax.now) c.note_nodes.new.types c.note_nodes.new.facts
    (c.note_nodes.ensures.known (λ k. no_item) c.args.types.now (c.in_ok-enter_first.ensures.nothing (c.in_ok-reserve.ensures nothing))) have arena
