use Rattle.clu_specs.proofs.next_items.begin_item.Goals as goal

pub returns-in-Field-clause-reads : goal.returns-in-Field-clause-reads
returns-in-Field-clause-reads c = rw c.in-Field.is (c.begin_field.ensures.reads _ _)

pub returns-in-Field-clause-within : goal.returns-in-Field-clause-within
returns-in-Field-clause-within c = c.begin_field.ensures.within _ (rw c.in-Field.is at c.requires)

pub returns-in-Argument-clause-reads : goal.returns-in-Argument-clause-reads
returns-in-Argument-clause-reads c = rw c.in-Argument.is (c.begin_argument.ensures.reads _ _)

pub returns-in-Argument-clause-within : goal.returns-in-Argument-clause-within
returns-in-Argument-clause-within c = c.begin_argument.ensures.within _ (rw c.in-Argument.is at c.requires)

pub returns-in-Outcome-clause-reads : goal.returns-in-Outcome-clause-reads
returns-in-Outcome-clause-reads c = rw c.in-Outcome.is (c.begin_result.ensures.reads _ _)

pub returns-in-Outcome-clause-within : goal.returns-in-Outcome-clause-within
returns-in-Outcome-clause-within c = c.begin_result.ensures.within _ (rw c.in-Outcome.is at c.requires)

pub returns-in-Object-clause-reads : goal.returns-in-Object-clause-reads
returns-in-Object-clause-reads c = rw c.in-Object.is (c.begin_object.ensures.reads _ _)

pub returns-in-Object-clause-within : goal.returns-in-Object-clause-within
returns-in-Object-clause-within c = c.begin_object.ensures.within _ (rw c.in-Object.is at c.requires)
