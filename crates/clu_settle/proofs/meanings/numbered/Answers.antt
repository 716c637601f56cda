use Rattle.std.proofs.Common.{◌∙◌, Option, ap, sym}
use Rattle.clu_syntax.specs.Syntax.{TypeExpression, Parameter}
use Rattle.clu_syntax.specs.Items.{Item, type_of_option}
use Rattle.clu_syntax.specs.Nodes.{before, item_at}
use Rattle.clu_syntax.proofs.Items.{item_is}
use Rattle.clu_settle.specs.Meant.{parameter_as}
use Rattle.clu_settle.proofs.meanings.numbered.Goals as goal

pub returns-in-None : goal.returns-in-None
returns-in-None c =
    let its = ap (λ (i : Item). i.parameter.type) (item_is c.args.syntax.now c.args.n) ∙ sym (ap (λ (p : Parameter). p.type) (c.parameter.ensures (before c.args.n (item_at c.args.syntax.now)))) in
    sym (ap (λ (t : Option TypeExpression). parameter_as t c.args.number) (its ∙ ap (type_of_option (before c.args.n (item_at c.args.syntax.now))) c.in-None.is))

pub returns-in-Some : goal.returns-in-Some
returns-in-Some c =
    let its = ap (λ (i : Item). i.parameter.type) (item_is c.args.syntax.now c.args.n) ∙ sym (ap (λ (p : Parameter). p.type) (c.parameter.ensures (before c.args.n (item_at c.args.syntax.now)))) in
    sym (ap (λ (t : Option TypeExpression). parameter_as t c.args.number) (its ∙ ap (type_of_option (before c.args.n (item_at c.args.syntax.now))) c.in-Some.is))
