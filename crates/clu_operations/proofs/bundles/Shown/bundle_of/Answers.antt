use Rattle.std.proofs.Common.{◌∙◌, sym}
use Rattle.clu_base.proofs.Lists.{none_is_not}
use Rattle.clu_operations.specs.Bundles.{form_type}
use Rattle.clu_operations.proofs.Bundling.{all_within, all_type}
use Rattle.clu_operations.proofs.bundles.Shown.bundle_of.Goals as goal

pub returns-in-Some-clause-of_type : goal.returns-in-Some-clause-of_type
returns-in-Some-clause-of_type c = λ source form shown.
    c.part_in.ensures.of_type source form (all_within c.args.self.now c.in-Some.parts (form_type source form) c.in-Some.is shown) (all_type c.args.self.now c.in-Some.parts (form_type source form) c.in-Some.is shown)

pub returns-in-None-clause-of_type : goal.returns-in-None-clause-of_type
returns-in-None-clause-of_type c = λ source form shown. none_is_not _ (sym c.in-None.is ∙ shown.parts)
