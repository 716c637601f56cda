use Rattle.std.proofs.Common.{◌≡◌, Bool, not, rules, subst, sym}
use Rattle.std.proofs.lemmas.Fn.{filter_same}
use Rattle.std.specs.List.{filter}
use Rattle.clu_library.specs.ByName.{AreAscending}
use Rattle.clu_library.specs.Replacing.{has_any}
use Rattle.clu_library.specs.declared.program.Program.{Program}
use Rattle.clu_library.proofs.Ascending.{ascending_kept}
use Rattle.clu_library.proofs.program.ByName+Program.leave_without_any.Goals as goal

pub returns : goal.returns
returns c = rw (← c.self.view_is) (filter_same _ _ _ (λ x b f' k. search rules) _ _ c.retain.ensures.filtered)

pub invariant_of-self : goal.invariant_of-self
invariant_of-self c =
    let test : Program → Bool = λ p. not (has_any c.args.names.now.keys p) in
    let kept : c.retain.new.self.items ≡ filter test c.self.inside.items.items = filter_same _ test _ (λ x b f' k. search rules) _ _ c.retain.ensures.filtered in
    subst (AreAscending (λ (p : Program). p.name)) (sym kept) (ascending_kept (λ (p : Program). p.name) test c.self.inside.items.items c.self.invariant)
