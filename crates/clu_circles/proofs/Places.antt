-- What stands at a place of a list, after a write or a push.
use Rattle.std.proofs.Common.{◌≡◌, ◌∙◌, ℕ, zero, suc, ◌<◌, List, [], ◌∷◌, ◌++◌, length, map, set, replicate, Some, refl, ap, sym, inl, inr, ◌⊎◌, arith, length-set}
use Rattle.std.specs.Prelude.{slice_get}
use Rattle.std.proofs.lemmas.Option.{none-some, same_Some, slice_get_within}
use Rattle.std.proofs.lemmas.Bool.{cases_eq}

module _ {X : Type 0} where
  pub set_here : (xs : List X) (i : ℕ) (v : X) → i < length xs → slice_get (set xs i v) i ≡ Some v
  set_here [] i v l = absurd (omega (arith, l))
  set_here (x ∷ xs) zero v l = refl
  set_here (x ∷ xs) (suc i) v l = set_here xs i v (omega (arith, l))

  pub set_there : (xs : List X) (i j : ℕ) (v : X) → (i ≡ j → ⊥) → slice_get (set xs i v) j ≡ slice_get xs j
  set_there [] i j v other = refl
  set_there (x ∷ xs) zero zero v other = absurd (other refl)
  set_there (x ∷ xs) zero (suc j) v other = refl
  set_there (x ∷ xs) (suc i) zero v other = refl
  set_there (x ∷ xs) (suc i) (suc j) v other = set_there xs i j v (λ e. other (ap (λ (n : ℕ). suc n) e))

  pub set_cases : (xs : List X) (i j : ℕ) (v y : X) → slice_get (set xs i v) j ≡ Some y → ((i ≡ j) × (y ≡ v)) ⊎ ((i ≡ j → ⊥) × (slice_get xs j ≡ Some y))
  set_cases xs i j v y e = elim (cases_eq i j) [
    | inl same ↦
        let within : j < length (set xs i v) = slice_get_within (set xs i v) j y e in
        let size : length (set xs i v) ≡ length xs = length-set xs i v in
        let here : slice_get (set xs i v) i ≡ Some v = set_here xs i v (omega (arith, within, size, same)) in
        inl (same, same_Some y v (sym (ap (slice_get (set xs i v)) same ∙ e) ∙ here))
    | inr other ↦ inr (other, sym (set_there xs i j v other) ∙ e)
  ]

  pub push_old : (xs : List X) (x y : X) (i : ℕ) → slice_get xs i ≡ Some y → slice_get (xs ++ x ∷ []) i ≡ Some y
  push_old [] x y i e = absurd (none-some y e)
  push_old (z ∷ xs) x y zero e = e
  push_old (z ∷ xs) x y (suc i) e = push_old xs x y i e

  pub push_last : (xs : List X) (x : X) → slice_get (xs ++ x ∷ []) (length xs) ≡ Some x
  push_last [] x = refl
  push_last (z ∷ xs) x = push_last xs x

  pub push_length : (xs : List X) (x : X) → length (xs ++ x ∷ []) ≡ suc (length xs)
  push_length [] x = refl
  push_length (z ∷ xs) x = ap (λ (n : ℕ). suc n) (push_length xs x)

  pub push_cases : (xs : List X) (x y : X) (i : ℕ) → slice_get (xs ++ x ∷ []) i ≡ Some y → ((i < length xs) × (slice_get xs i ≡ Some y)) ⊎ ((i ≡ length xs) × (x ≡ y))
  push_cases [] x y zero e = inr (refl, same_Some x y e)
  push_cases [] x y (suc i) e = absurd (none-some y e)
  push_cases (z ∷ xs) x y zero e = inl (omega arith, e)
  push_cases (z ∷ xs) x y (suc i) e = elim (push_cases xs x y i e) [
    | inl old ↦ let l : i < length xs = old.0 in inl (omega (arith, l), old.1)
    | inr last ↦ let l : i ≡ length xs = last.0 in inr (omega (arith, l), last.1)
  ]

  pub there : (xs : List X) (i : ℕ) → i < length xs → (x : X) × (slice_get xs i ≡ Some x)
  there [] i l = absurd (omega (arith, l))
  there (x ∷ xs) zero l = (x, refl)
  there (x ∷ xs) (suc i) l = there xs i (omega (arith, l))

  pub of_many : (n i : ℕ) (x y : X) → slice_get (replicate n x) i ≡ Some y → y ≡ x
  of_many zero i x y e = absurd (none-some y e)
  of_many (suc n) zero x y e = sym (same_Some x y e)
  of_many (suc n) (suc i) x y e = of_many n i x y e

module _ {X Y : Type 0} where
  pub map_there : (f : X → Y) (xs : List X) (i : ℕ) (x : X) → slice_get xs i ≡ Some x → slice_get (map f xs) i ≡ Some (f x)
  map_there f [] i x e = absurd (none-some x e)
  map_there f (z ∷ xs) zero x e = ap (λ (y : X). Some (f y)) (same_Some z x e)
  map_there f (z ∷ xs) (suc i) x e = map_there f xs i x e

  pub map_from : (f : X → Y) (xs : List X) (i : ℕ) (y : Y) → slice_get (map f xs) i ≡ Some y → (x : X) × (slice_get xs i ≡ Some x) × (f x ≡ y)
  map_from f [] i y e = absurd (none-some y e)
  map_from f (z ∷ xs) zero y e = (z, refl, same_Some (f z) y e)
  map_from f (z ∷ xs) (suc i) y e = map_from f xs i y e

  pub map_length : (f : X → Y) (xs : List X) → length (map f xs) ≡ length xs
  map_length f [] = refl
  map_length f (z ∷ xs) = ap (λ (n : ℕ). suc n) (map_length f xs)
