-- Lists of numbers of names.
use Rattle.std.proofs.Common.{◌≡◌, ℕ, ◌<◌, List, [], ◌∷◌, ◌++◌, subst, sym}
use Rattle.std.specs.Prelude.{All}
use Rattle.std.proofs.lemmas.List.Elements.{All-nil, All-push}

-- one more number below the bound
pub one_more : (old new : List ℕ) (n bound : ℕ) → new ≡ old ++ n ∷ [] → n < bound → All (λ k. k < bound) old → All (λ k. k < bound) new
one_more old new n bound is below all =
    let P : List ℕ → Type 0 = λ xs. All (λ k. k < bound) xs in subst P (sym is) (All-push (λ k. k < bound) old n all below)

-- no number
pub none : (xs : List ℕ) (bound : ℕ) → xs ≡ [] → All (λ k. k < bound) xs
none xs bound is = let P : List ℕ → Type 0 = λ ys. All (λ k. k < bound) ys in subst P (sym is) (All-nil (λ k. k < bound))

pub ruleset laws = (one_more, none)
