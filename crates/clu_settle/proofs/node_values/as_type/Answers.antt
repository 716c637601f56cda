use Rattle.std.proofs.Common.{◌∙◌, ap, sym}
use Rattle.clu_settle.specs.Standing.{is_lost}
use Rattle.clu_settle.proofs.Made.{ok_more}
use Rattle.clu_settle.proofs.Reading.{not_lost}
use Rattle.clu_settle.proofs.node_values.as_type.Goals as goal

pub returns-in_default-clause-lost : goal.returns-in_default-clause-lost
returns-in_default-clause-lost c = ok_more _ _ c.type_value.result c.type_value.ensures.there (λ v p lost. absurd (p lost))

pub returns-in-Type-clause-same : goal.returns-in-Type-clause-same
returns-in-Type-clause-same c = sym (ap is_lost c.in-Type.is)

pub returns-in-Lost-clause-same : goal.returns-in-Lost-clause-same
returns-in-Lost-clause-same c = sym (ap is_lost c.in-Lost.is)

pub returns-in_default-clause-same : goal.returns-in_default-clause-same
returns-in_default-clause-same c = ok_more _ _ c.type_value.result c.type_value.ensures.there (λ v p. not_lost v p ∙ sym (not_lost c.args.value c.in_default.not-Lost))
