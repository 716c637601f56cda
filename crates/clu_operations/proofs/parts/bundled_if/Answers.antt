use Rattle.std.proofs.Common.{◌∙◌, length, option_map, sym, ap, subst}
use Rattle.std.proofs.lemmas.Option.{same_Some}
use Rattle.clu_base.proofs.Lists.{none_is_not}
use Rattle.clu_types.specs.Arena.{type_at, types_of}
use Rattle.clu_operations.specs.Finding.{IsBelowIf}
use Rattle.clu_operations.proofs.parts.bundled_if.Goals as goal

pub returns-in-Some-clause-of_type : goal.returns-in-Some-clause-of_type
returns-in-Some-clause-of_type c = λ all within typed.
    c.bundled.ensures.of_type all (subst (IsBelowIf (length c.args.types.now)) c.in-Some.is within) (same_Some _ _ (ap (option_map (type_at (types_of c.args.types.now))) (sym c.in-Some.is) ∙ typed))

pub returns-in-None-clause-of_type : goal.returns-in-None-clause-of_type
returns-in-None-clause-of_type c = λ all within typed. none_is_not _ (ap (option_map (type_at (types_of c.args.types.now))) (sym c.in-None.is) ∙ typed)
