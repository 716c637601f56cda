-- A list with another item in the place of one.
use Rattle.std.proofs.Common.{◌≡◌, ℕ, zero, suc, List, [], ◌∷◌, ◌++◌, length, Option, None, Some, slice_get, slice_set, refl, sym, ap, ◌≢◌}

pub some_same : {A : Type 0} (a b : A) → Some a ≡ Some b → a ≡ b
some_same {A} a b e = ap from e
  where
    from : Option A → A
    from None = a
    from (Some x) = x

pub get_set_here : {A : Type 0} (xs : List A) (i : ℕ) (x y : A) → slice_get (slice_set xs i x) i ≡ Some y → y ≡ x
get_set_here [] i x y e = absurd (cc e)
get_set_here (z ∷ zs) zero x y e = sym (some_same x y e)
get_set_here (z ∷ zs) (suc i) x y e = get_set_here zs i x y e

pub get_set_other : {A : Type 0} (xs : List A) (i j : ℕ) (x : A) → j ≢ i → slice_get (slice_set xs i x) j ≡ slice_get xs j
get_set_other [] i j x k = refl
get_set_other (z ∷ zs) zero zero x k = absurd (k refl)
get_set_other (z ∷ zs) zero (suc j) x k = refl
get_set_other (z ∷ zs) (suc i) zero x k = refl
get_set_other (z ∷ zs) (suc i) (suc j) x k = get_set_other zs i j x (λ e. k (ap suc e))

pub length_set : {A : Type 0} (xs : List A) (i : ℕ) (x : A) → length (slice_set xs i x) ≡ length xs
length_set [] i x = refl
length_set (z ∷ zs) zero x = refl
length_set (z ∷ zs) (suc i) x = ap suc (length_set zs i x)

-- what a list with one item more has at a place
pub get_added : {A : Type 0} (xs : List A) (i : ℕ) (x y : A) → slice_get (xs ++ x ∷ []) i ≡ Some y → i ≢ length xs → slice_get xs i ≡ Some y
get_added [] zero x y e k = absurd (k refl)
get_added [] (suc i) x y e k = e
get_added (z ∷ zs) zero x y e k = e
get_added (z ∷ zs) (suc i) x y e k = get_added zs i x y e (λ f. k (ap suc f))

pub get_added_last : {A : Type 0} (xs : List A) (i : ℕ) (x y : A) → slice_get (xs ++ x ∷ []) i ≡ Some y → i ≡ length xs → y ≡ x
get_added_last [] zero x y e k = sym (some_same x y e)
get_added_last [] (suc i) x y e k = absurd (cc k)
get_added_last (z ∷ zs) zero x y e k = absurd (cc k)
get_added_last (z ∷ zs) (suc i) x y e k = get_added_last zs i x y e (ap pred_of k)
  where
    pred_of : ℕ → ℕ
    pred_of zero = zero
    pred_of (suc n) = n
