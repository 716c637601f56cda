use Rattle.std.proofs.Common.{◌∙◌, ap, length, sym}
use Rattle.clu_types.specs.Arena.{types_of}
use Rattle.clu_settle.specs.Values.{told}
use Rattle.clu_settle.specs.Lists.{type_id, value_of}
use Rattle.clu_settle.proofs.Made.{ok_more, list_agrees}
use Rattle.clu_settle.proofs.Found.{found_below, no_type_id}
use Rattle.clu_settle.proofs.type_values.list_value.Goals as goal

pub returns-in-Type-clause-known : goal.returns-in-Type-clause-known
returns-in-Type-clause-known c = ok_more _ _ c.made.result c.made.ensures.known (λ v p constants t a.
    list_agrees (types_of c.args.types.now) constants c.args.values.now (told (types_of c.made.new.types) constants v) _ c.args.word c.in-Type.of t (value_of c.args.values.now c.args.of)
    (c.list_term.ensures.of_type (types_of c.args.types.now)) (sym c.value_at.ensures ∙ c.in-Type.is) a (p constants))

pub returns-in-Type-clause-lost : goal.returns-in-Type-clause-lost
returns-in-Type-clause-lost c = ok_more _ _ c.made.result c.made.ensures.lost (λ v p is within.
    absurd (p is (c.list_term.ensures.parts (length c.args.types.now) (found_below (length c.args.types.now) c.args.values.now c.args.of c.in-Type.of within (sym c.value_at.ensures ∙ c.in-Type.is)))))

pub returns-in_default-clause-lost : goal.returns-in_default-clause-lost
returns-in_default-clause-lost c = λ is within. ap type_id (sym c.value_at.ensures) ∙ no_type_id c.value_at.result c.in_default.not-Type
