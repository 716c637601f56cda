use Rattle.clu_checked.proofs.Sources.{first_told, handed_told, never_lost, specified_told}
use Rattle.clu_checked.proofs.of_source.first_of_source.Goals as goal

pub returns-clause-violation : goal.returns-clause-violation
returns-clause-violation c = first_told

pub returns-clause-specified : goal.returns-clause-specified
returns-clause-specified c = never_lost

pub returns-clause-own : goal.returns-clause-own
returns-clause-own c = specified_told

pub returns-clause-handed : goal.returns-clause-handed
returns-clause-handed c = handed_told
