-- What a list contains, by the places of its items.
use Rattle.std.proofs.Common.{◌≡◌, ◌⊎◌, ℕ, ◌+◌, ◌≤◌, zero, suc, List, [], ◌∷◌, ◌++◌, Contains, length, take, slice_get, Some, None, sym, ap, ◌∙◌, subst, arith}
use Rattle.std.proofs.lemmas.List.{take_all, take_more}
use Rattle.std.proofs.lemmas.List.Elements.{Contains-append_left, Contains-push, Contains-push_cases}
use Rattle.std.proofs.lemmas.Option.{get_or_from_slice_get, slice_get_within}

-- two pairs of a name and a number are the same
abbrev pub IsEntry : List ℕ × ℕ → List ℕ × ℕ → Type 0
IsEntry a b = a ≡ b

pub some_same : {X : Type 0} {x y : X} → Some x ≡ Some y → x ≡ y
some_same e = cc

pub none_some : {X : Type 0} {x : X} → None ≡ Some x → ⊥
none_some e = absurd (cc)

pub none_there : {X : Type 0} (x : X) → Contains [] x → ⊥
none_there x h = omega (arith, h.1)

-- the first n items and the next one
module _ {X : Type 0} (xs : List X) (n : ℕ) (x : X) (at : slice_get xs n ≡ Some x) where
  pub next : take (n + 1) xs ≡ take n xs ++ x ∷ []
  next = take_more xs n x (slice_get_within xs n x at) ∙ ap (λ y. take n xs ++ y ∷ []) (get_or_from_slice_get xs n x x at)

  pub earlier : (y : X) → Contains (take n xs) y → Contains (take (n + 1) xs) y
  earlier y h = let P : List X → Type 0 = λ ys. Contains ys y in subst P (sym next) (Contains-append_left (take n xs) (x ∷ []) y h)

  pub last : Contains (take (n + 1) xs) x
  last = let P : List X → Type 0 = λ ys. Contains ys x in subst P (sym next) (Contains-push (take n xs) x)

  pub cases : (y : X) → Contains (take (n + 1) xs) y → Contains (take n xs) y ⊎ (x ≡ y)
  cases y h = let P : List X → Type 0 = λ ys. Contains ys y in Contains-push_cases (take n xs) x y (subst P next h)

-- all items
pub in_all : {X : Type 0} (xs : List X) (n : ℕ) → length xs ≤ n → (x : X) → Contains xs x → Contains (take n xs) x
in_all {X} xs n le x h = let P : List X → Type 0 = λ ys. Contains ys x in subst P (sym (take_all n xs le)) h

pub of_all : {X : Type 0} (xs : List X) (n : ℕ) → length xs ≤ n → (x : X) → Contains (take n xs) x → Contains xs x
of_all {X} xs n le x h = let P : List X → Type 0 = λ ys. Contains ys x in subst P (take_all n xs le) h

-- behind the last item there is none
pub past : {X : Type 0} (xs : List X) (n : ℕ) → slice_get xs n ≡ None → length xs ≤ n
past [] n none = omega arith
past (x ∷ xs) zero none = absurd (none_some (sym none))
past (x ∷ xs) (suc n) none = let behind = past xs n none in omega (arith, behind)
