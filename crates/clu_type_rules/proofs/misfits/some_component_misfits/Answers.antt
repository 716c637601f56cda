use Rattle.std.proofs.Common.{◌≡◌, ◌∙◌, not, List, Option, sym, ap}
use Rattle.clu_types.specs.declared.term.Field.{Field}
use Rattle.clu_name_rules.specs.Constructors.{term_at}
use Rattle.clu_type_rules.specs.Constructors.{some_component_misfits}
use Rattle.clu_type_rules.proofs.Ascending.{components_ascend}
use Rattle.clu_type_rules.proofs.misfits.some_component_misfits.Goals as goal

pub returns-in-Some : goal.returns-in-Some
returns-in-Some c up =
    ap not (c.components_fit.ensures (components_ascend (term_at c.args.k.now.tables c.args.of) (up c.args.of) c.in-Some.fields.now c.in-Some.ensures.some))
    ∙ ap (λ (fields : Option (List Field)). some_component_misfits c.args.k.now fields c.args.components.now) (sym c.in-Some.ensures.some)
