use Rattle.std.proofs.Common.{sym, ◌∙◌, ap}
use Rattle.clu_types.proofs.Ascending.{find_at_place, found_at}
use Rattle.clu_types.proofs.specs.Specs.get.Goals as goal

pub returns-in-Ok : goal.returns-in-Ok
returns-in-Ok c =
    c.nth.ensures.nth ∙ ap (λ r. found_at r c.args.self.now) c.in-Ok.ensures.place ∙ sym (find_at_place c.args.self.now c.in-Ok.ensures.ascending c.args.name.now)

pub returns-in-Err : goal.returns-in-Err
returns-in-Err c =
    ap (λ r. found_at r c.args.self.now) c.in-Err.ensures.place ∙ sym (find_at_place c.args.self.now c.in-Err.ensures.ascending c.args.name.now)
