use Rattle.std.proofs.Common.{◌∙◌, [], sym, ap}
use Rattle.clu_type_rules.specs.declared.binding_rules.Variables.{Variables}
use Rattle.clu_type_rules.specs.Objects.{types_of}
use Rattle.clu_type_rules.specs.Bindings.{may_name, variables_of}
use Rattle.clu_type_rules.proofs.Declared.{named_each}
use Rattle.clu_type_rules.proofs.binding_rules.variables_fit.Goals as goal

pub returns-in-Declared : goal.returns-in-Declared
returns-in-Declared c = λ items.
    c.fit_declared.ensures items
    ∙ named_each c.args.k.now items [] c.in-Declared.declarations.now (types_of c.args.k.now c.args.objects)
    ∙ ap (λ (variables : Variables). may_name c.args.k.now (variables_of c.args.k.now items variables) (types_of c.args.k.now c.args.objects)) (sym c.in-Declared.is)

pub returns-in-Named : goal.returns-in-Named
returns-in-Named c = λ items.
    c.names_fit.ensures items
    ∙ ap (λ (variables : Variables). may_name c.args.k.now (variables_of c.args.k.now items variables) (types_of c.args.k.now c.args.objects)) (sym c.in-Named.is)
