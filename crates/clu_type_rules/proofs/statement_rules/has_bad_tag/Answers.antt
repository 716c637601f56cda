use Rattle.std.proofs.Common.{◌≡◌, ◌∙◌, List, Option, sym, ap}
use Rattle.clu_types.specs.declared.term.Field.{Field}
use Rattle.clu_type_rules.specs.Tags.{has_bad_tag}
use Rattle.clu_type_rules.proofs.statement_rules.has_bad_tag.Goals as goal

pub returns-in-Some : goal.returns-in-Some
returns-in-Some c up =
    c.names_bad_tag.ensures (up c.in-Some.fields.now c.in-Some.ensures.some)
    ∙ ap (λ (fields : Option (List Field)). has_bad_tag c.args.k.now c.args.n fields) (sym c.in-Some.ensures.some)
