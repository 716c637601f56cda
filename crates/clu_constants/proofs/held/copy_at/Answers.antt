use Rattle.std.proofs.Common.{◌∙◌, List, ℕ, Some, length, ap, sym, arith}
use Rattle.clu_base.specs.declared.constants.Const.TheVariants as constant
use Rattle.clu_constants.specs.Held.{listed, text_at, text_in}
use Rattle.clu_constants.proofs.Listed.{joined_at, length_both, none_at, whole_at}
use Rattle.clu_constants.proofs.held.copy_at.Goals as goal

pub text-requires-clause-some : goal.text-requires-clause-some
text-requires-clause-some c =
    let j = joined_at c.args.held.now c.requires c.args.place _ _ _ (sym c.in-Some-Joined.ensures ∙ ap Some c.in-Some-Joined.field-0-is) in
    omega (arith, ap {B = ℕ} (λ o. length (text_in o)) j.is, length_both (text_at (listed c.args.held.now) c.in-Some-Joined.field-0-0) (text_at (listed c.args.held.now) c.in-Some-Joined.field-0-1), j.join.some_left)

pub returns-in_ok-copy-in-Some-Whole : goal.returns-in_ok-copy-in-Some-Whole
returns-in_ok-copy-in-Some-Whole c = ap Some c.in_ok-copy-in-Some-Whole.ensures ∙ sym (whole_at c.args.held.now c.requires c.args.place _ (sym c.in-Some-Whole.ensures ∙ ap Some c.in-Some-Whole.field-0-is))

pub returns-in_ok-text-in-Some-Joined : goal.returns-in_ok-text-in-Some-Joined
returns-in_ok-text-in-Some-Joined c =
    let j = joined_at c.args.held.now c.requires c.args.place _ _ _ (sym c.in-Some-Joined.ensures ∙ ap Some c.in-Some-Joined.field-0-is) in
    ap (λ (t : List ℕ). Some (constant.Str t)) (c.in_ok-text-in-Some-Joined.ensures ∙ ap text_in j.is) ∙ sym j.is

pub returns-in-None : goal.returns-in-None
returns-in-None c = sym (none_at c.args.held.now c.requires c.args.place (sym c.in-None.ensures))
