-- Lines of modules, one after the other.
use Rattle.std.proofs.Common.{◌≡◌, ◌∙◌, ℕ, zero, suc, ◌+◌, ◌≤◌, List, [], ◌∷◌, ◌++◌, take, slice_get, Some, None, refl, ap, sym, append_assoc, arith}
use Rattle.std.specs.List.{flat_map}
use Rattle.std.proofs.lemmas.List.{append-nil}

pub lines_next : {X : Type 0} (f : X → List ℕ) (xs : List X) (n : ℕ) (x : X) → slice_get xs n ≡ Some x → flat_map f (take (n + 1) xs) ≡ flat_map f (take n xs) ++ f x
lines_next f [] n x e = absurd (cc)
lines_next f (y ∷ ys) zero x e = let same : y ≡ x = cc in append-nil (f y) ∙ ap f same
lines_next f (y ∷ ys) (suc n) x e =
    let one : suc n + 1 ≡ suc (n + 1) = omega arith in
    ap (λ (k : ℕ). flat_map f (take k (y ∷ ys))) one
    ∙ ap (λ rest. f y ++ rest) (lines_next f ys n x e)
    ∙ sym (append_assoc (f y) (flat_map f (take n ys)) (f x))

pub lines_end : {X : Type 0} (f : X → List ℕ) (xs : List X) (n m : ℕ) → slice_get xs n ≡ None → n ≤ m → flat_map f (take n xs) ≡ flat_map f (take m xs)
lines_end f [] zero zero e l = refl
lines_end f [] zero (suc m) e l = refl
lines_end f [] (suc n) zero e l = refl
lines_end f [] (suc n) (suc m) e l = refl
lines_end f (y ∷ ys) zero m e l = absurd (cc)
lines_end f (y ∷ ys) (suc n) zero e l = absurd (omega (arith, l))
lines_end f (y ∷ ys) (suc n) (suc m) e l = ap (λ rest. f y ++ rest) (lines_end f ys n m e (omega (arith, l)))
