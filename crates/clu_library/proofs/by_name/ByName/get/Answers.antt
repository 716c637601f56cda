use Rattle.std.proofs.Common.{sym, ◌∙◌, ap}
use Rattle.clu_library.proofs.Ascending.{find_at_place, found_at}
use Rattle.clu_library.proofs.by_name.ByName.get.Goals as goal

pub returns-in-Ok : goal.returns-in-Ok
returns-in-Ok g c =
    c.nth.ensures.nth ∙ ap (λ r. found_at r c.args.self.now) c.in-Ok.ensures.place ∙ sym (find_at_place g.T.Named.name_of c.args.self.now c.in-Ok.ensures.ascending c.args.name.now)

pub returns-in-Err : goal.returns-in-Err
returns-in-Err g c =
    ap (λ r. found_at r c.args.self.now) c.in-Err.ensures.place ∙ sym (find_at_place g.T.Named.name_of c.args.self.now c.in-Err.ensures.ascending c.args.name.now)
