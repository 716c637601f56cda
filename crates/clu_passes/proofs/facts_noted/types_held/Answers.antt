use Rattle.clu_passes.proofs.TypesHeld.{elements_types, fields_held, force_held, index_held, operation_held}
use Rattle.clu_passes.proofs.facts_noted.types_held.Goals as goal

pub returns-clause-fields : goal.returns-clause-fields
returns-clause-fields c = fields_held

pub returns-clause-elements : goal.returns-clause-elements
returns-clause-elements c = elements_types

pub returns-clause-operations : goal.returns-clause-operations
returns-clause-operations c = operation_held

pub returns-clause-forces : goal.returns-clause-forces
returns-clause-forces c = force_held

pub returns-clause-brackets : goal.returns-clause-brackets
returns-clause-brackets c = λ t h its scope library refused parsed are items n index known first. index_held t h its scope library refused parsed are items n index known first
