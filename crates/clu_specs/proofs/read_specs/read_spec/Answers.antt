use Rattle.std.proofs.Common.{sym, ◌∙◌, length}
use Rattle.clu_specs.specs.SpecReading.{whole_spec}
use Rattle.clu_specs.proofs.SpecsAgain.{spec_again}
use Rattle.clu_specs.proofs.SpecsSpelled.{whole_spec_spelled}
use Rattle.clu_specs.proofs.Wholes.{refused}
use Rattle.clu_specs.proofs.Offsets.{spec_so_far, spec_no_further}
use Rattle.clu_specs.proofs.read_specs.read_spec.Goals as goal

pub returns-in-Ok-clause-spelled : goal.returns-in-Ok-clause-spelled
returns-in-Ok-clause-spelled c = (whole_spec_spelled c.args.b.now _ c.in-Ok.ensures.reads).1

pub returns-in-Ok-clause-grammar : goal.returns-in-Ok-clause-grammar
returns-in-Ok-clause-grammar c = (whole_spec_spelled c.args.b.now _ c.in-Ok.ensures.reads).0

pub returns-in-Ok-clause-complete : goal.returns-in-Ok-clause-complete
returns-in-Ok-clause-complete c = λ s is e. sym (spec_again s c.args.b.now is e) ∙ c.in-Ok.ensures.reads

pub returns-in-Err-clause-complete : goal.returns-in-Err-clause-complete
returns-in-Err-clause-complete c = λ s is e. rw c.at_offset.ensures (refused c.in-Err.error (whole_spec c.args.b.now) (length c.args.b.now) s c.in-Err.ensures.reads (spec_again s c.args.b.now is e))

pub returns-in-Err-clause-no_further : goal.returns-in-Err-clause-no_further
returns-in-Err-clause-no_further c = rw c.at_offset.ensures (spec_no_further c.in-Err.error c.args.b.now c.in-Err.ensures.reads)

pub returns-in-Err-clause-so_far : goal.returns-in-Err-clause-so_far
returns-in-Err-clause-so_far c = rw c.at_offset.ensures (spec_so_far c.in-Err.error c.args.b.now c.in-Err.ensures.reads)
