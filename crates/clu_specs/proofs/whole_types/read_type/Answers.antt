use Rattle.std.proofs.Common.{sym, ◌∙◌, length}
use Rattle.clu_specs.specs.TypeReading.{whole_type}
use Rattle.clu_specs.proofs.TypesAgain.{whole_again}
use Rattle.clu_specs.proofs.ActualsSpelled.{whole_type_spelled}
use Rattle.clu_specs.proofs.Wholes.{refused}
use Rattle.clu_specs.proofs.Offsets.{type_so_far, type_no_further}
use Rattle.clu_specs.proofs.whole_types.read_type.Goals as goal

pub returns-in-Ok-clause-spelled : goal.returns-in-Ok-clause-spelled
returns-in-Ok-clause-spelled c = (whole_type_spelled c.args.b.now _ c.in-Ok.ensures.reads).1

pub returns-in-Ok-clause-grammar : goal.returns-in-Ok-clause-grammar
returns-in-Ok-clause-grammar c = (whole_type_spelled c.args.b.now _ c.in-Ok.ensures.reads).0

pub returns-in-Ok-clause-complete : goal.returns-in-Ok-clause-complete
returns-in-Ok-clause-complete c = λ t is e. sym (whole_again t c.args.b.now is e) ∙ c.in-Ok.ensures.reads

pub returns-in-Err-clause-complete : goal.returns-in-Err-clause-complete
returns-in-Err-clause-complete c = λ t is e. rw c.at_offset.ensures (refused c.in-Err.error (whole_type c.args.b.now) (length c.args.b.now) t c.in-Err.ensures.reads (whole_again t c.args.b.now is e))

pub returns-in-Err-clause-no_further : goal.returns-in-Err-clause-no_further
returns-in-Err-clause-no_further c = rw c.at_offset.ensures (type_no_further c.in-Err.error c.args.b.now c.in-Err.ensures.reads)

pub returns-in-Err-clause-so_far : goal.returns-in-Err-clause-so_far
returns-in-Err-clause-so_far c = rw c.at_offset.ensures (type_so_far c.in-Err.error c.args.b.now c.in-Err.ensures.reads)
