use Rattle.std.proofs.Common.{◌+◌, ◌&&◌, ◌∙◌, List, Some, nat_le, drop, ap, sym}
use Rattle.std.specs.List.{list_all}
use Rattle.std.specs.Option.{option_copied}
use Rattle.clu_handlers.specs.declared.region.Region.{Region}
use Rattle.clu_handlers.specs.Regions.{can_add, is_apart, is_in}
use Rattle.clu_handlers.proofs.Nesting.{fits_add, no_add}
use Rattle.clu_handlers.proofs.regions.Regions.can_add.Goals as goal

pub returns-in-Some-at : goal.returns-in-Some-at
returns-in-Some-at c =
    c.fits.ensures
    ∙ ap (λ (l : List Region). nat_le c.args.first c.args.last && (is_in c.args.first c.args.last (Some c.in-Some-at.round.now) && list_all (is_apart c.args.first c.args.last) (drop (c.in-Some.number + 1) l))) c.as_slice-regions.ensures.same
    ∙ sym (ap (can_add c.args.self.now c.args.first c.args.last) c.in-Some.is
    ∙ fits_add c.args.self.now c.args.first c.args.last c.in-Some.number c.in-Some-at.round.now (sym c.at.ensures ∙ ap option_copied c.in-Some-at.is))

pub returns-in-None-at : goal.returns-in-None-at
returns-in-None-at c =
    sym (ap (can_add c.args.self.now c.args.first c.args.last) c.in-Some.is
    ∙ no_add c.args.self.now c.args.first c.args.last c.in-Some.number (sym c.at.ensures ∙ ap option_copied c.in-None-at.is))
