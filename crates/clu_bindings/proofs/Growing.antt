-- Tables that grow by one entry, or by one list, at each step.
use Rattle.std.proofs.Common.{◌≡◌, ◌∙◌, ℕ, ◌+◌, List, [], ◌∷◌, ◌++◌, ap, ap₂, sym, subst, add-one}
use Rattle.clu_bindings.specs.Tables.{table_to, joined_to}

pub table_next : {A : Type 0} (f : ℕ → A) (n : ℕ) (x : A) (old new : List A) → old ≡ table_to f n → x ≡ f n → new ≡ old ++ x ∷ [] → new ≡ table_to f (n + 1)
unfolding table_to
table_next f n x old new e is more =
    subst (λ (k : ℕ). new ≡ table_to f k) (sym (add-one n)) (more ∙ ap₂ (λ (xs : List _) (y : _). xs ++ y ∷ []) e is)

pub joined_next : {A : Type 0} (f : ℕ → List A) (n : ℕ) (old new : List A) → old ≡ joined_to f n → new ≡ old ++ f n → new ≡ joined_to f (n + 1)
unfolding joined_to
joined_next f n old new e more =
    subst (λ (k : ℕ). new ≡ joined_to f k) (sym (add-one n)) (more ∙ ap (λ (xs : List _). xs ++ f n) e)
