use Rattle.std.proofs.Common.{◌≡◌, ◌∙◌, List, IfOk, option_to_list, ap, subst}
use Rattle.clu_types.specs.declared.term.Field.{Field}
use Rattle.clu_operations.proofs.builtins.only.Goals as goal

pub returns-in-Some : goal.returns-in-Some
returns-in-Some c up = subst (λ (all : List Field). IfOk c.listed.result (λ made. made ≡ all)) (ap option_to_list (c.in-Some.ensures up)) c.listed.ensures

pub returns-in-None : goal.returns-in-None
returns-in-None c up = c.from_vec.ensures ∙ c.new.ensures.items ∙ ap option_to_list (c.in-None.ensures up)
