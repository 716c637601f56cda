use Rattle.std.proofs.Common.{◌∙◌, List, Option, sym, ap, subst}
use Rattle.clu_types.specs.declared.term.Field.{Field}
use Rattle.clu_name_rules.specs.Components.{AreAscending}
use Rattle.clu_name_rules.specs.Constructors.{has_other_selectors}
use Rattle.clu_name_rules.proofs.Found.{components_are}
use Rattle.clu_name_rules.proofs.constructors.has_other_selectors.Goals as goal

pub returns-in-Some : goal.returns-in-Some
returns-in-Some c up =
    c.are_others.ensures (subst AreAscending (components_are c.args.term.now c.in-Some.fields.now c.in-Some.ensures.some) up)
    ∙ ap (λ (fields : Option (List Field)). has_other_selectors c.args.f.syntax.now fields c.args.components.now) (sym c.in-Some.ensures.some)
