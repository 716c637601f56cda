-- Parts lie one after the other.
use Rattle.std.proofs.Common.{◌≡◌, ◌⊎◌, inl, inr, ⊎_elim, ℕ, zero, suc, ◌+◌, ◌<◌, ◌≤◌, List, [], ◌∷◌, length, Some, slice_get, refl, ap, subst, arith}
use Rattle.std.proofs.lemmas.Option.{same_Some, none-some}
use Rattle.clu_link_meaning.specs.Plan.{Plan, Callable, before, all_of, string_size, string_at, descriptor_at, table_at, variable_at, cells_of}

module _ {X : Type 0} (size : X → ℕ) where
  pub before_step : (xs : List X) (n : ℕ) (x : X) → slice_get xs n ≡ Some x → before size xs (suc n) ≡ before size xs n + size x
  before_step [] n x e = absurd (none-some x e)
  before_step (y ∷ ys) zero x e = let s : y ≡ x = same_Some y x e in subst (λ z. size y + before size ys 0 ≡ 0 + size z) s (nothing ys)
    where
      nothing : (zs : List X) → size y + before size zs 0 ≡ 0 + size y
      nothing [] = omega arith
      nothing (z ∷ zs) = omega arith
  before_step (y ∷ ys) (suc n) x e = let i : before size ys (suc n) ≡ before size ys n + size x = before_step ys n x e in omega (arith, i)

  pub before_within : (xs : List X) (n : ℕ) → before size xs n ≤ all_of size xs
  before_within [] n = omega arith
  before_within (x ∷ xs) zero = omega arith
  before_within (x ∷ xs) (suc n) = omega (arith, before_within xs n)

  pub before_whole : (xs : List X) → before size xs (length xs) ≡ all_of size xs
  before_whole [] = refl
  before_whole (x ∷ xs) = ap (λ k. size x + k) (before_whole xs)

  pub before_grows : (xs : List X) (m n : ℕ) → m ≤ n → before size xs m ≤ before size xs n
  before_grows [] m n l = omega arith
  before_grows (x ∷ xs) zero n l = omega arith
  before_grows (x ∷ xs) (suc m) zero l = absurd (omega (arith, l))
  before_grows (x ∷ xs) (suc m) (suc n) l = let i : before size xs m ≤ before size xs n = before_grows xs m n (omega (arith, l)) in omega (arith, i)

  -- an item that is there ends before the next ones begin
  pub before_apart : (xs : List X) (m n : ℕ) (x : X) → slice_get xs m ≡ Some x → m < n → before size xs m + size x ≤ before size xs n
  before_apart xs m n x e l = subst (λ k. k ≤ before size xs n) (before_step xs m x e) (before_grows xs (suc m) n (omega (arith, l)))

  -- of two items with sizes one is where the other is only if it is the other
  pub before_once : (xs : List X) (m n : ℕ) (x y : X) → slice_get xs m ≡ Some x → slice_get xs n ≡ Some y → 0 < size x → 0 < size y → before size xs m ≡ before size xs n → m ≡ n
  before_once xs m n x y e f p q same = by (order m n)
    where
      order : (a b : ℕ) → (a < b) ⊎ ((b < a) ⊎ (a ≡ b))
      order zero zero = inr (inr refl)
      order zero (suc b) = inl (omega arith)
      order (suc a) zero = inr (inl (omega arith))
      order (suc a) (suc b) = ⊎_elim (λ (l : a < b). inl (omega (arith, l))) (λ (r : (b < a) ⊎ (a ≡ b)). ⊎_elim (λ (l : b < a). inr (inl (omega (arith, l)))) (λ (s : a ≡ b). inr (inr (ap suc s))) r) (order a b)

      by : (m < n) ⊎ ((n < m) ⊎ (m ≡ n)) → m ≡ n
      by (inl l) = absurd (let a : before size xs m + size x ≤ before size xs n = before_apart xs m n x e l in omega (arith, a, same, p))
      by (inr (inl l)) = absurd (let a : before size xs n + size y ≤ before size xs m = before_apart xs n m y f l in omega (arith, a, same, q))
      by (inr (inr s)) = s

-- descriptors of different callables differ
pub descriptors_differ : (p : Plan) (m n : ℕ) → descriptor_at p m ≡ descriptor_at p n → m ≡ n
descriptors_differ p m n e = omega (arith, e)

-- own variables of different numbers have no byte in common
pub variables_apart : (p : Plan) (m n i j : ℕ) → i < 16 → j < 16 → variable_at p m + i ≡ variable_at p n + j → m ≡ n
variables_apart p m n i j a b e = omega (arith, a, b, e)

-- link tables of different callables differ
pub tables_differ : (p : Plan) (m n : ℕ) (x y : Callable) → slice_get p.callables m ≡ Some x → slice_get p.callables n ≡ Some y → table_at p m ≡ table_at p n → m ≡ n
tables_differ p m n x y e f same = before_once cells_of p.callables m n x y e f (omega arith) (omega arith) (omega (arith, same))

-- so do strings
pub strings_differ : (p : Plan) (m n : ℕ) (s t : List ℕ) → slice_get p.strings m ≡ Some s → slice_get p.strings n ≡ Some t → string_at p m ≡ string_at p n → m ≡ n
strings_differ p m n s t e f same = before_once string_size p.strings m n s t e f (omega arith) (omega arith) (omega (arith, same))
