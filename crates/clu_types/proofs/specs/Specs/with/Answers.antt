use Rattle.std.proofs.Common.{sym, ◌∙◌, ap, subst}
use Rattle.clu_types.specs.Specs.{AreAscending}
use Rattle.clu_types.proofs.Ascending.{with_at_place, put_at, ascending_with}
use Rattle.clu_types.proofs.specs.Specs.with.Goals as goal

pub returns-in-Ok-clause-ok : goal.returns-in-Ok-clause-ok
returns-in-Ok-clause-ok c =
    rw c.self.view_is (ap (λ r. put_at r c.args.self.now c.args.s) c.in-Ok.ensures.place ∙ sym (with_at_place c.args.self.now c.args.s))

pub invariant_of-self : goal.invariant_of-self
invariant_of-self c = subst AreAscending (sym (returns-in-Ok-clause-ok c)) (ascending_with c.args.self.now c.args.s c.in-Ok.ensures.ascending)

pub returns-in_ok-insert-in-Err-clause-ok : goal.returns-in_ok-insert-in-Err-clause-ok
returns-in_ok-insert-in-Err-clause-ok c =
    rw (c.in_ok-insert-in-Err.ensures.items, c.self.view_is) (ap (λ r. put_at r c.args.self.now c.args.s) c.in-Err.ensures.place ∙ sym (with_at_place c.args.self.now c.args.s))

pub invariant_of-self-in-Err : goal.invariant_of-self-in-Err
invariant_of-self-in-Err c = subst AreAscending (sym (returns-in_ok-insert-in-Err-clause-ok c)) (ascending_with c.args.self.now c.args.s c.in-Err.ensures.ascending)
