use Rattle.std.proofs.Common.{◌∙◌, List, ap, sym, subst}
use Rattle.clu_types.specs.declared.term.Field.{Field}
use Rattle.clu_operations.specs.ByName.{AreAscending}
use Rattle.clu_operations.specs.Builtins.{field_name, only, with_fields}
use Rattle.clu_operations.proofs.builtins.term_with.Goals as goal

pub returns : goal.returns
returns c up =
    c.with_fields.ensures
    ∙ ap (λ (fields : List Field). with_fields c.args.term.now fields)
    (c.in_ok-fields.ensures (subst (AreAscending field_name) (sym c.fields_of.ensures) up) ∙ ap (only c.args.name.now) c.fields_of.ensures)
