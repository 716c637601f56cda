use Rattle.std.proofs.Common.{Some, true≢false, sym, ap, ◌∙◌}
use Rattle.std.proofs.lemmas.Option.{same_Some}
use Rattle.clu_base.proofs.Lists.{none_is_not}
use Rattle.clu_demands.proofs.kinds.is_of_kind.Goals as goal

pub returns-in-Some : goal.returns-in-Some
returns-in-Some c = (
  λ t. sym c.in-Some.ensures ∙ ap Some (c.is_same.ensures.0 t),
  λ e. c.is_same.ensures.1 (same_Some c.in-Some.found c.args.kind (c.in-Some.ensures ∙ e)),
)

pub returns-in-None : goal.returns-in-None
returns-in-None c = (λ t. absurd (true≢false (sym t)), λ e. none_is_not c.args.kind (c.in-None.ensures ∙ e))
