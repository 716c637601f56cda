use Rattle.std.proofs.Common.{◌∙◌, ap, sym}
use Rattle.std.proofs.lemmas.Bool.{true≢false}
use Rattle.clu_lower_types.specs.Types.{is_any}
use Rattle.clu_lower_types.proofs.Listed.{not_there}
use Rattle.clu_lower_types.proofs.types.is_any.Goals as goal

pub returns-else-contains : goal.returns-else-contains
returns-else-contains c = sym (ap is_any (not_there c.args.types.now c.args.of (λ lt. true≢false (sym (c.contains.ensures.1 lt) ∙ c.if-contains.false))))
