use Rattle.std.proofs.Common.{◌∙◌, length, sym}
use Rattle.clu_types.specs.Arena.{types_of}
use Rattle.clu_settle.specs.Values.{told}
use Rattle.clu_settle.specs.Inserted.{in_order}
use Rattle.clu_settle.specs.Lists.{field_before}
use Rattle.clu_settle.proofs.Made.{ok_more, fields_agree}
use Rattle.clu_settle.proofs.Found.{none_mapped}
use Rattle.clu_settle.proofs.Members.{fields_below}
use Rattle.clu_settle.proofs.type_values.fields_value.Goals as goal

pub returns-in-Some-clause-known : goal.returns-in-Some-clause-known
returns-in-Some-clause-known c = ok_more _ _ c.made.result c.made.ensures.known (λ v p constants fs a.
    fields_agree (types_of c.args.types.now) constants c.args.values.now (told (types_of c.made.new.types) constants v) _ c.args.word c.args.tree.now c.args.selectors.now c.in-Some.fields fs
    (c.fields_term.ensures.of_type (types_of c.args.types.now)) (sym c.in-Some.is ∙ c.in_ok-fields.ensures) a (p constants))

pub returns-in-Some-clause-lost : goal.returns-in-Some-clause-lost
returns-in-Some-clause-lost c = ok_more _ _ c.made.result c.made.ensures.lost (λ v p is within.
    absurd (p is (c.fields_term.ensures.parts (length c.args.types.now) (fields_below c.args.values.now (length c.args.types.now) within c.args.tree.now c.args.selectors.now c.in-Some.fields (sym c.in-Some.is ∙ c.in_ok-fields.ensures)))))

pub returns-in-None-clause-lost : goal.returns-in-None-clause-lost
returns-in-None-clause-lost c = λ is within. none_mapped (in_order field_before) _ _ c.in_ok-fields.ensures c.in-None.is
