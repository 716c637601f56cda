use Rattle.std.proofs.Common.{◌∙◌, ap, sym, slice_get}
use Rattle.clu_head.proofs.Labels.{label, view_opers, restrict_opers}
use Rattle.clu_head.proofs.parts.operations_had.Goals as goal

pub returns-in-Has : goal.returns-in-Has
returns-in-Has c = sym (ap view_opers c.in-Has.is) ∙ restrict_opers c.args.syntax.now c.args.n c.restriction.result (slice_get c.args.syntax.now c.args.n) c.requires.kind (c.restriction.ensures.told label)

pub returns-in-In : goal.returns-in-In
returns-in-In c = sym (ap view_opers c.in-In.is) ∙ restrict_opers c.args.syntax.now c.args.n c.restriction.result (slice_get c.args.syntax.now c.args.n) c.requires.kind (c.restriction.ensures.told label)

pub returns-in-InSet : goal.returns-in-InSet
returns-in-InSet c = sym (ap view_opers c.in-InSet.is) ∙ restrict_opers c.args.syntax.now c.args.n c.restriction.result (slice_get c.args.syntax.now c.args.n) c.requires.kind (c.restriction.ensures.told label)
