use Rattle.std.proofs.Common.{◌≡◌, ◌∙◌, ◌++◌, ◌∷◌, [], List, ℕ, length, true, ap, sym, subst, arith}
use Rattle.clu_handlers.specs.declared.region.Region.{Region}
use Rattle.clu_handlers.specs.Regions.{are_nested, can_add}
use Rattle.clu_handlers.proofs.Nesting.{length_with, nested_with}
use Rattle.clu_handlers.proofs.regions.Regions.insert.Goals as goal

pub invariant_of-self-2 : goal.invariant_of-self-2
invariant_of-self-2 c =
    let items : c.push.new.self.items ≡ c.args.self.now ++ c.args.region ∷ [] =
    c.in_ok-push.ensures.items ∙ ap (λ (l : List Region). l ++ c.args.region ∷ []) c.self.view_is in
    let nested : are_nested c.args.self.now ≡ true = subst (λ (l : List Region). are_nested l ≡ true) c.self.view_is c.self.invariant.1 in (
      omega (arith, ap {B = ℕ} length items, length_with c.args.self.now c.args.region, c.requires.few),
      subst (λ (l : List Region). are_nested l ≡ true) (sym items) (nested_with c.args.self.now [] c.args.region nested c.requires.fits),
    )
