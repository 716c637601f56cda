-- A list that is walked by numbers until there is no item more.
use Rattle.std.proofs.Common.{◌≡◌, ◌&&◌, Bool, true, ℕ, zero, suc, ◌+◌, ◌≤◌, min, List, [], ◌∷◌, ◌++◌, length, take, drop, slice_get, Option, Some, None, refl, sym, ap, ◌∙◌, append_assoc, arith}
use Rattle.std.specs.List.{flat_map, list_all}
use Rattle.std.proofs.lemmas.Option.{none-some}
use Rattle.std.proofs.lemmas.List.{take_all, append-nil}
use Rattle.std.proofs.lemmas.Grind.{flat_map-append}
use Rattle.clu_base.proofs.Lists.{dropped}

-- where there is no item, the list has ended
pub ends : {X : Type 0} (xs : List X) (n : ℕ) → None ≡ slice_get xs n → length xs ≤ n
ends [] n e = omega arith
ends (x ∷ xs) zero e = absurd (none-some x e)
ends (x ∷ xs) (suc n) e = omega (arith, ends xs n e)

pub count_here : {X : Type 0} (xs : List X) (n m : ℕ) → n ≤ length xs → None ≡ slice_get xs n → n ≤ m → n ≡ min (length xs) m
count_here xs n m within e le = omega (arith, within, ends xs n e, le)

pub taken_here : {X : Type 0} (xs : List X) (n m : ℕ) → None ≡ slice_get xs n → n ≤ m → take n xs ≡ take m xs
taken_here xs n m e le = take_all n xs (ends xs n e) ∙ sym (take_all m xs (omega (arith, ends xs n e, le)))

take_more : {X : Type 0} (xs : List X) (n : ℕ) (x : X) → Some x ≡ slice_get xs n → take (suc n) xs ≡ take n xs ++ x ∷ []
take_more [] n x e = absurd (none-some x (sym e))
take_more (y ∷ xs) zero x e = let same : y ≡ x = cc in rw same refl
take_more (y ∷ xs) (suc n) x e = ap (λ ys. y ∷ ys) (take_more xs n x e)

-- one item more is written
pub written_more : {X : Type 0} (f : X → List ℕ) (xs : List X) (n : ℕ) (x : X) (before written more : List ℕ) → Some x ≡ slice_get xs n
    → written ≡ before ++ flat_map f (take n xs) → more ≡ written ++ f x → more ≡ before ++ flat_map f (take (n + 1) xs)
written_more f xs n x before written more e w m =
    let next : n + 1 ≡ suc n = omega arith in
    let one : flat_map f (take n xs ++ x ∷ []) ≡ flat_map f (take n xs) ++ (f x ++ []) = flat_map-append f (take n xs) (x ∷ []) in
    m ∙ rw (w, next, take_more xs n x e, one, append-nil (f x)) (append_assoc before (flat_map f (take n xs)) (f x))

-- what is left of a list where there is no item, and where there is one
pub none_left : {X : Type 0} (xs : List X) (n : ℕ) → None ≡ slice_get xs n → drop n xs ≡ []
none_left [] zero e = refl
none_left [] (suc n) e = refl
none_left (x ∷ xs) zero e = absurd (none-some x e)
none_left (x ∷ xs) (suc n) e = none_left xs n e

next_left : {X : Type 0} (xs : List X) (n : ℕ) (x : X) → Some x ≡ slice_get xs n → drop n xs ≡ x ∷ drop (suc n) xs
next_left [] n x e = absurd (none-some x (sym e))
next_left (y ∷ xs) zero x e = let same : y ≡ x = cc in rw same refl
next_left (y ∷ xs) (suc n) x e = next_left xs n x e

pub one_left : {X : Type 0} (xs : List X) (n : ℕ) (x : X) → Some x ≡ slice_get xs n → drop n xs ≡ x ∷ drop (n + 1) xs
one_left xs n x e = let next : n + 1 ≡ suc n = omega arith in rw next (next_left xs n x e)

-- of what is left, all pass a test where one more passes it
pub all_more : {X : Type 0} (t : X → Bool) (xs : List X) (n : ℕ) (x : X) (start : Bool) → Some x ≡ slice_get xs n → t x ≡ true → list_all t (drop n xs) ≡ start → list_all t (drop (n + 1) xs) ≡ start
all_more t xs n x start e passes whole =
    let rest : Bool = list_all t (drop (n + 1) xs) in
    let one : (t x && rest) ≡ rest = ap (λ (b : Bool). b && rest) passes in
    sym one ∙ sym (ap (list_all t) (one_left xs n x e)) ∙ whole

pub ruleset walks = (none_left, one_left, dropped)
