-- What is kept from now on, behind the others: the others stay, and it is there at its number.
use Rattle.std.proofs.Common.{◌≡◌, ◌⊎◌, inl, inr, ◌∙◌, ℕ, zero, suc, ◌+◌, ◌<◌, Bool, true, false, cond, not, ◌||◌, if◌then◌else◌, List, [], ◌∷◌, ◌++◌, length, slice_get, append-nil, Option, Some, refl, sym, ap, arith}
use Rattle.std.specs.Prelude.{unwrap_or}
use Rattle.std.specs.List.{list_any, position_or_len}
use Rattle.std.proofs.lemmas.Option.{none-some}
use Rattle.clu_operations.specs.Finding.{Extends}
use Rattle.clu_operations.proofs.Naming.{extends_self}
use Rattle.clu_typing.specs.Sets.{Has}
use Rattle.clu_typing.proofs.Sets.{has_either}

module _ {A : Type 0} where
  pub extends_from : (xs ys : List A) → ys ≡ xs → Extends xs ys
  extends_from xs ys e = ([], e ∙ sym (append-nil xs))

  there_front : (xs more : List A) (i : ℕ) → i < length xs → slice_get (xs ++ more) i ≡ slice_get xs i
  there_front [] more i lt = absurd (omega (arith, lt))
  there_front (x ∷ xs) more zero lt = refl
  there_front (x ∷ xs) more (suc i) lt = there_front xs more i (omega (arith, lt))

  pub there_still : (xs ys : List A) → Extends xs ys → (i : ℕ) → i < length xs → slice_get ys i ≡ slice_get xs i
  there_still xs ys s i lt = ap (λ (l : List A). slice_get l i) s.1 ∙ there_front xs s.0 i lt

  -- what stands at a place is an item
  pub has_there : (xs : List A) (i : ℕ) (x : A) → slice_get xs i ≡ Some x → Has xs x
  has_there [] i x e = absurd (none-some x e)
  has_there (y ∷ ys) zero x e = inl (ap (λ (o : Option A). unwrap_or o y) e)
  has_there (y ∷ ys) (suc i) x e = inr (has_there ys i x e)

  -- ---- one more, unless it is there

  pub one_stays : (b : Bool) (xs : List A) (x : A) → Extends xs (if b then xs else xs ++ x ∷ [])
  one_stays true xs x = extends_self xs
  one_stays false xs x = (x ∷ [], refl)

  pub one_has : (b : Bool) (xs : List A) (x z : A) → Has (if b then xs else xs ++ x ∷ []) z → Has xs z ⊎ (x ≡ z)
  one_has true xs x z h = inl h
  one_has false xs x z h = elim (has_either xs (x ∷ []) z h) [ inl a ↦ inl a | inr b ↦ elim b [ inl e ↦ inr e | inr n ↦ absurd n ] ]

  module _ (p : A → Bool) (x : A) (exact : (y : A) → p y ≡ true → x ≡ y) where
    abbrev with_one : List A → List A
    with_one xs = if list_any p xs then xs else xs ++ x ∷ []

    behind : (b : Bool) (y : A) (ys : List A) → (if b then y ∷ ys else y ∷ (ys ++ x ∷ [])) ≡ y ∷ (if b then ys else ys ++ x ∷ [])
    behind true y ys = refl
    behind false y ys = refl

    -- it is at the number that it has then
    pub numbered : (xs : List A) → slice_get (with_one xs) (position_or_len p xs) ≡ Some x
    numbered [] = refl
    numbered (y ∷ ys) = by (p y) refl (numbered ys)
      where
        by : (b : Bool) → p y ≡ b → slice_get (with_one ys) (position_or_len p ys) ≡ Some x →
            slice_get (if b || list_any p ys then y ∷ ys else y ∷ (ys ++ x ∷ [])) (cond (not b) (1 + position_or_len p ys) 0) ≡ Some x
        by true is rest = ap (λ (z : A). Some z) (sym (exact y is))
        by false is rest =
            let next : 1 + position_or_len p ys ≡ suc (position_or_len p ys) = omega arith in
            ap (λ (k : ℕ). slice_get (if list_any p ys then y ∷ ys else y ∷ (ys ++ x ∷ [])) k) next
            ∙ ap (λ (l : List A). slice_get l (suc (position_or_len p ys))) (behind (list_any p ys) y ys)
            ∙ rest
