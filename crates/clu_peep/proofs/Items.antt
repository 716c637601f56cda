-- Items of lists.
use Rattle.std.proofs.Common.{◌≡◌, ℕ, zero, suc, ◌<◌, List, [], ◌∷◌, ◌++◌, length, take, Bool, true, Some, slice_get, refl, ◌∙◌, ap, arith}
use Rattle.std.proofs.lemmas.Bool.{false≢true}
use Rattle.std.proofs.lemmas.List.{length_push}
use Rattle.clu_base.proofs.Lists.{none_is_not}
use Rattle.clu_frames.specs.Labels.{at_last}

-- The last item.

pub at_last-push : {X : Type 0} (test : X → Bool) (front : List X) (x : X) → at_last test (front ++ x ∷ []) ≡ test x
at_last-push test [] x = refl
at_last-push test (y ∷ []) x = refl
at_last-push test (y ∷ z ∷ front) x = at_last-push test (z ∷ front) x

pub at_last_of : {X : Type 0} (test : X → Bool) (xs front : List X) (x : X) → xs ≡ front ++ x ∷ [] → at_last test xs ≡ test x
at_last_of test xs front x e = ap (at_last test) e ∙ at_last-push test front x

pub last_found : {X : Type 0} (test : X → Bool) (xs : List X) → at_last test xs ≡ true → (front : List X) × (x : X) × (xs ≡ front ++ x ∷ []) × (test x ≡ true)
last_found test [] e = absurd (false≢true e)
last_found test (x ∷ []) e = ([], x, refl, e)
last_found test (x ∷ y ∷ rest) e = let r = last_found test (y ∷ rest) e in (x ∷ r.0, r.1, ap (λ l. x ∷ l) r.2, r.3)

-- Items at places.

pub taken_below : {X : Type 0} (xs : List X) (i p : ℕ) (x : X) → slice_get (take i xs) p ≡ Some x → p < i
taken_below [] zero p x e = none_is_not x e
taken_below [] (suc i) p x e = none_is_not x e
taken_below (y ∷ xs) zero p x e = none_is_not x e
taken_below (y ∷ xs) (suc i) zero x e = omega arith
taken_below (y ∷ xs) (suc i) (suc p) x e = let lt = taken_below xs i p x e in omega (arith, lt)

pub one_less : {X : Type 0} (xs front after : List X) (x : X) → xs ≡ front ++ x ∷ [] → after ≡ front → length after < length xs
one_less xs front after x is same =
    let more = ap {B = ℕ} length is in
    let here = ap {B = ℕ} length same in
    omega (arith, more, here, length_push front x)
