use Rattle.std.proofs.Common.{◌∙◌, Option, sym, ap, subst}
use Rattle.clu_types.specs.declared.term.Term.{Term}
use Rattle.clu_bindings.specs.Readers.{kind_in}
use Rattle.clu_name_rules.specs.Components.{AreAscending, fields_in}
use Rattle.clu_name_rules.specs.Constructors.{is_of_other_if}
use Rattle.clu_name_rules.proofs.constructors.is_of_other_at.Goals as goal

pub returns-in-Some : goal.returns-in-Some
returns-in-Some c items up =
    c.is_of_other.ensures items (subst (λ (its : Option Term). AreAscending (fields_in its)) c.in-Some.ensures.some (up c.args.of))
    ∙ ap (λ (its : Option Term). is_of_other_if c.args.t.now items (kind_in c.args.t.now.file c.args.n) c.args.n its c.args.parts.now) (sym c.in-Some.ensures.some)
