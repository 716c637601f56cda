use Rattle.std.proofs.Common.{ap, sym}
use Rattle.clu_settle.specs.Standing.{is_lost}
use Rattle.clu_settle.proofs.Reading.{not_lost}
use Rattle.clu_settle.proofs.named.with_brackets.Goals as goal

pub returns-in-Type-clause-same : goal.returns-in-Type-clause-same
returns-in-Type-clause-same c = sym (ap is_lost c.in-Type.is)

pub returns-in-Lost-clause-same : goal.returns-in-Lost-clause-same
returns-in-Lost-clause-same c = sym (ap is_lost c.in-Lost.is)

pub returns-in_default-clause-same : goal.returns-in_default-clause-same
returns-in_default-clause-same c = sym (not_lost c.args.value c.in_default.not-Lost)
