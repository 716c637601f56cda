use Rattle.std.proofs.Common.{◌≡◌, not, rules, subst, sym}
use Rattle.std.proofs.lemmas.Fn.{filter_same}
use Rattle.std.specs.Str.{bytes_eq}
use Rattle.clu_library.specs.ByName.{AreAscending}
use Rattle.clu_library.proofs.Ascending.{ascending_kept}
use Rattle.clu_library.proofs.by_name.ByName.leave_out.Goals as goal

pub returns : goal.returns
returns g c = rw (← c.self.view_is) (filter_same _ _ _ (λ x b f' k. search rules) _ _ c.retain.ensures.filtered)

pub invariant_of-self : goal.invariant_of-self
invariant_of-self g c =
    let f = g.T.Named.name_of in
    subst (AreAscending f) (sym (returns g c)) (ascending_kept f (λ x. not (bytes_eq (f x) c.args.name.now)) c.args.self.now (rw (← c.self.view_is) c.self.invariant))
