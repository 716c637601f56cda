use Rattle.std.proofs.Common.{sym, ◌∙◌, ap, subst}
use Rattle.clu_library.specs.ByName.{AreAscending, place_of}
use Rattle.clu_library.proofs.Ascending.{with_at_place, put_at, ascending_with}
use Rattle.clu_library.proofs.by_name.ByName.put.Goals as goal

pub returns-in-Ok-clause-ok : goal.returns-in-Ok-clause-ok
returns-in-Ok-clause-ok g c =
    let f = g.T.Named.name_of in
    rw c.self.view_is (ap (λ r. put_at r c.args.self.now c.args.item) (c.in-Ok.ensures.place ∙ ap (place_of f c.args.self.now) c.name.ensures) ∙ sym (with_at_place f c.args.self.now c.args.item))

pub invariant_of-self : goal.invariant_of-self
invariant_of-self g c =
    let f = g.T.Named.name_of in
    subst (AreAscending f) (sym (returns-in-Ok-clause-ok g c)) (ascending_with f c.args.self.now c.args.item c.in-Ok.ensures.ascending)

pub returns-in_ok-insert-in-Err-clause-ok : goal.returns-in_ok-insert-in-Err-clause-ok
returns-in_ok-insert-in-Err-clause-ok g c =
    let f = g.T.Named.name_of in
    rw (c.in_ok-insert-in-Err.ensures.items, c.self.view_is) (ap (λ r. put_at r c.args.self.now c.args.item) (c.in-Err.ensures.place ∙ ap (place_of f c.args.self.now) c.name.ensures) ∙ sym (with_at_place f c.args.self.now c.args.item))

pub invariant_of-self-in-Err : goal.invariant_of-self-in-Err
invariant_of-self-in-Err g c =
    let f = g.T.Named.name_of in
    subst (AreAscending f) (sym (returns-in_ok-insert-in-Err-clause-ok g c)) (ascending_with f c.args.self.now c.args.item c.in-Err.ensures.ascending)
