use Rattle.rv_select.specs.Written.{written}
use Rattle.rv_select.proofs.Arguments.{more_arguments}
use Rattle.rv_select.proofs.calls.copy_arguments.Goals as goal

pub loop-argument-preserved : goal.loop-argument-preserved
loop-argument-preserved c =
    more_arguments c.loop-argument.argument (written c.args.words.now) (written c.loop-argument.words) (written c.copy_argument.new.words) c.loop-argument.invariant c.in_ok-copy_argument.ensures
