use Rattle.std.proofs.Common.{◌∙◌, sym}
use Rattle.clu_peep.specs.declared.places.Place.{Place}
use Rattle.clu_peep.specs.Rows.{goes_second}
use Rattle.clu_peep.proofs.Items.{at_last_of}
use Rattle.clu_peep.proofs.settling.is_undone.Goals as goal

pub returns-in-Some : goal.returns-in-Some
returns-in-Some c =
    c.goes_second.ensures
    ∙ sym (at_last_of (λ (x : Place). goes_second x c.args.place.now) c.args.left.now c.in-Some.field-0-1.now c.in-Some.last.now c.in-Some.ensures.cases.0)
