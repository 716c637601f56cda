use Rattle.std.proofs.Common.{◌∙◌, ℕ, Bool, List, ap}
use Rattle.clu_type_rules.specs.Bindings.{are_results, assigned_by}
use Rattle.clu_type_rules.proofs.binding_rules.assigned.Goals as goal

pub returns : goal.returns
returns c = λ items.
    c.assigned_by.ensures items
    ∙ ap (λ (are : Bool). assigned_by c.args.k.now items c.args.n are c.children-values.result.now) (c.are_results.ensures items)
    ∙ ap (λ (values : List ℕ). assigned_by c.args.k.now items c.args.n (are_results c.args.k.now items c.args.n values) values) c.children-values.ensures
