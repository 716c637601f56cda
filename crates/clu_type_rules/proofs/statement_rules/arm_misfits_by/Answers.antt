use Rattle.std.proofs.Common.{◌≡◌, ◌∙◌, not, List, ℕ, Option, sym, ap}
use Rattle.clu_types.specs.declared.term.TypeId.{TypeId}
use Rattle.clu_types.specs.declared.term.Field.{Field}
use Rattle.clu_bindings.specs.Inside.{type_inside}
use Rattle.clu_type_rules.specs.Tags.{arm_misfits_by, takes_tags}
use Rattle.clu_type_rules.proofs.statement_rules.arm_misfits_by.Goals as goal

pub returns-in-Some : goal.returns-in-Some
returns-in-Some c items up =
    ap not (
    c.takes_tags.ensures (up c.in-Some.fields.now c.in-Some.ensures.some)
    ∙ ap (λ (wanted : Option TypeId). takes_tags c.args.k.now wanted c.in-Some.fields.now c.tags_of.result.now) (c.type_inside.ensures items)
    ∙ ap (λ (tags : List (List ℕ)). takes_tags c.args.k.now (type_inside c.args.k.now.tables.file items c.args.n c.args.t) c.in-Some.fields.now tags) c.tags_of.ensures
    )
    ∙ ap (λ (fields : Option (List Field)). arm_misfits_by c.args.k.now items c.args.n c.args.t fields) (sym c.in-Some.ensures.some)
