use Rattle.std.proofs.Common.{◌∙◌, Some, ap, sym}
use Rattle.std.specs.Option.{option_map}
use Rattle.clu_constants.specs.Outlines.{outlined}
use Rattle.clu_constants.proofs.Listed.{none_at, outline_joined, whole_at}
use Rattle.clu_constants.proofs.held.outline_at.Goals as goal

pub returns-in-Some-Whole : goal.returns-in-Some-Whole
returns-in-Some-Whole c = ap Some c.outline_of.ensures ∙ sym (ap (option_map outlined) (whole_at c.args.held.now c.requires c.args.place _ (sym c.in-Some-Whole.ensures ∙ ap Some c.in-Some-Whole.field-0-is)))

pub returns-in-Some-Joined : goal.returns-in-Some-Joined
returns-in-Some-Joined c = sym (outline_joined c.args.held.now c.requires c.args.place _ _ _ (sym c.in-Some-Joined.ensures ∙ ap Some c.in-Some-Joined.field-0-is))

pub returns-in-None : goal.returns-in-None
returns-in-None c = sym (ap (option_map outlined) (none_at c.args.held.now c.requires c.args.place (sym c.in-None.ensures)))
