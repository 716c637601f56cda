use Rattle.std.proofs.Common.{◌∙◌, length, option_map, true≢false, sym, ap, subst}
use Rattle.clu_types.specs.Arena.{type_at, types_of}
use Rattle.clu_operations.specs.Finding.{IsBelowIf}
use Rattle.clu_operations.proofs.Bundling.{bundled_type, bundled_within}
use Rattle.clu_operations.proofs.bundles.bundled.Goals as goal

pub returns-then-contains-clause-of_type : goal.returns-then-contains-clause-of_type
returns-then-contains-clause-of_type c = λ all lt e.
    ap (option_map (type_at (types_of c.args.types.now))) c.nth_in.ensures ∙ bundled_type (types_of c.args.types.now) c.view.result.now all c.args.at (sym c.view.ensures.of_type ∙ e)

pub returns-then-contains-clause-within : goal.returns-then-contains-clause-within
returns-then-contains-clause-within c =
    subst (IsBelowIf (length c.args.types.now)) (sym c.nth_in.ensures) (bundled_within _ _ (c.contains.ensures.0 c.if-contains.true) c.view.result.now c.args.at c.view.ensures.parts)

pub returns-else-contains-clause-of_type : goal.returns-else-contains-clause-of_type
returns-else-contains-clause-of_type c = λ all lt e. absurd (true≢false (sym (c.contains.ensures.1 lt) ∙ c.if-contains.false))
