use Rattle.std.proofs.Common.{sym, ◌∙◌, length}
use Rattle.clu_specs.specs.UseReading.{whole_use}
use Rattle.clu_specs.proofs.UsesAgain.{use_again}
use Rattle.clu_specs.proofs.UsesSpelled.{whole_use_spelled}
use Rattle.clu_specs.proofs.Wholes.{refused}
use Rattle.clu_specs.proofs.Offsets.{use_so_far, use_no_further}
use Rattle.clu_specs.proofs.read_uses.read_use.Goals as goal

pub returns-in-Ok-clause-spelled : goal.returns-in-Ok-clause-spelled
returns-in-Ok-clause-spelled c = (whole_use_spelled c.args.b.now _ c.in-Ok.ensures.reads).1

pub returns-in-Ok-clause-grammar : goal.returns-in-Ok-clause-grammar
returns-in-Ok-clause-grammar c = (whole_use_spelled c.args.b.now _ c.in-Ok.ensures.reads).0

pub returns-in-Ok-clause-complete : goal.returns-in-Ok-clause-complete
returns-in-Ok-clause-complete c = λ u is e. sym (use_again u c.args.b.now is e) ∙ c.in-Ok.ensures.reads

pub returns-in-Err-clause-complete : goal.returns-in-Err-clause-complete
returns-in-Err-clause-complete c = λ u is e. rw c.at_offset.ensures (refused c.in-Err.error (whole_use c.args.b.now) (length c.args.b.now) u c.in-Err.ensures.reads (use_again u c.args.b.now is e))

pub returns-in-Err-clause-no_further : goal.returns-in-Err-clause-no_further
returns-in-Err-clause-no_further c = rw c.at_offset.ensures (use_no_further c.in-Err.error c.args.b.now c.in-Err.ensures.reads)

pub returns-in-Err-clause-so_far : goal.returns-in-Err-clause-so_far
returns-in-Err-clause-so_far c = rw c.at_offset.ensures (use_so_far c.in-Err.error c.args.b.now c.in-Err.ensures.reads)
