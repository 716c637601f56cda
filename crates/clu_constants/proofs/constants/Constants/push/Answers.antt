use Rattle.std.proofs.Common.{◌∙◌, ◌++◌, ◌∷◌, [], List, ap, subst, sym}
use Rattle.clu_base.specs.declared.constants.Const.{Const}
use Rattle.clu_constants.specs.declared.held.Held.TheVariants as held
use Rattle.clu_constants.specs.Held.{AreHeld, listed}
use Rattle.clu_constants.proofs.Listed.{held_push, listed_push}
use Rattle.clu_constants.proofs.constants.Constants.push.Goals as goal

pub invariant_of-self-2 : goal.invariant_of-self-2
invariant_of-self-2 c = subst (AreHeld []) (sym c.in_ok-push.ensures.items) (held_push [] c.self.inside.held.items (held.Whole c.args.constant) c.self.invariant tt)

pub returns-clause-added : goal.returns-clause-added
returns-clause-added c = ap listed c.in_ok-push.ensures.items ∙ listed_push [] c.self.inside.held.items (held.Whole c.args.constant) ∙ ap (λ (l : List Const). l ++ c.args.constant ∷ []) c.self.view_is
