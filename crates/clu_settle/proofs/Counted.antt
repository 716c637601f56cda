-- How many of the first numbers of a list pass a test; of numbers that differ they are no more than the list of those that
-- pass.
use Rattle.std.proofs.Common.{◌≡◌, ◌∙◌, ℕ, zero, suc, ◌+◌, ◌≤◌, Bool, true, false, cond, eqb, List, [], ◌∷◌, length, filter, Some, refl, ap, sym, inl, inr, arith, eqb-true}
use Rattle.std.specs.Prelude.{slice_get}
use Rattle.std.specs.List.{IsDistinct, AllByRecursion, list_any}
use Rattle.std.proofs.lemmas.Option.{none-some, same_Some}
use Rattle.std.specs.Cmp.{nat_eq_equiv}
use Rattle.std.proofs.lemmas.Bool.{or_cases, true≢false}
use Rattle.std.proofs.lemmas.Map.Made.{length-le_from_is_member}
use Rattle.clu_settle.specs.Steps.{one_if, counted}

module _ (test : ℕ → Bool) where
  pub counted_more : (xs : List ℕ) (q p : ℕ) → q ≤ p → counted test xs q ≤ counted test xs p
  counted_more xs zero p l = omega arith
  counted_more xs (suc q) zero l = absurd (omega (arith, l))
  counted_more [] (suc q) (suc p) l = omega arith
  counted_more (x ∷ xs) (suc q) (suc p) l = let ih : counted test xs q ≤ counted test xs p = counted_more xs q p (omega (arith, l)) in omega (arith, ih)

  pub counted_here : (xs : List ℕ) (q r : ℕ) → slice_get xs q ≡ Some r → test r ≡ true → counted test xs (suc q) ≡ counted test xs q + 1
  counted_here [] q r e t = absurd (none-some r e)
  counted_here (x ∷ xs) zero r e t =
      let one : one_if (test x) ≡ 1 = ap (λ (z : ℕ). one_if (test z)) (same_Some x r e) ∙ ap one_if t in
      omega (arith, one)
  counted_here (x ∷ xs) (suc q) r e t = let ih : counted test xs (suc q) ≡ counted test xs q + 1 = counted_here xs q r e t in omega (arith, ih)

-- ---- numbers that differ and pass a test are no more than a list that holds all that do

counted_length : (b : Bool) (x : ℕ) (xs : List ℕ) (n : ℕ) → n ≡ length xs → one_if b + n ≡ length (cond b (x ∷ xs) xs)
counted_length true x xs n e = omega (arith, e)
counted_length false x xs n e = omega (arith, e)

pub counted_all : (test : ℕ → Bool) (xs : List ℕ) → counted test xs (length xs) ≡ length (filter test xs)
counted_all test [] = refl
counted_all test (x ∷ xs) = counted_length (test x) x (filter test xs) (counted test xs (length xs)) (counted_all test xs)

all_if : (P : ℕ → Type 0) (b : Bool) (x : ℕ) (xs : List ℕ) → P x → AllByRecursion P xs → AllByRecursion P (cond b (x ∷ xs) xs)
all_if P true x xs p all = (p, all)
all_if P false x xs p all = all

all_filtered : (P : ℕ → Type 0) (test : ℕ → Bool) (xs : List ℕ) → AllByRecursion P xs → AllByRecursion P (filter test xs)
all_filtered P test [] all = tt
all_filtered P test (x ∷ xs) all = all_if P (test x) x (filter test xs) all.0 (all_filtered P test xs all.1)

distinct_if : (b : Bool) (x : ℕ) (xs : List ℕ) → AllByRecursion (λ y. eqb x y ≡ false) xs → IsDistinct eqb xs → IsDistinct eqb (cond b (x ∷ xs) xs)
unfolding IsDistinct
distinct_if true x xs all d = (all, d)
distinct_if false x xs all d = d

pub distinct_filtered : (test : ℕ → Bool) (xs : List ℕ) → IsDistinct eqb xs → IsDistinct eqb (filter test xs)
unfolding IsDistinct
distinct_filtered test [] d = tt
distinct_filtered test (x ∷ xs) d = distinct_if (test x) x (filter test xs) (all_filtered (λ y. eqb x y ≡ false) test xs d.0) (distinct_filtered test xs d.1)

passes_if : (test : ℕ → Bool) (b : Bool) (q x : ℕ) (xs : List ℕ) → test x ≡ b → (list_any (eqb q) xs ≡ true → test q ≡ true) → list_any (eqb q) (cond b (x ∷ xs) xs) ≡ true → test q ≡ true
passes_if test true q x xs t more e = elim (or_cases (eqb q x) (list_any (eqb q) xs) e) [
  | inl here ↦ ap test (eqb-true q x here) ∙ t
  | inr rest ↦ more rest
]
passes_if test false q x xs t more e = more e

passes : (test : ℕ → Bool) (q : ℕ) (xs : List ℕ) → list_any (eqb q) (filter test xs) ≡ true → test q ≡ true
passes test q [] e = absurd (true≢false (sym e))
passes test q (x ∷ xs) e = passes_if test (test x) q x (filter test xs) refl (passes test q xs) e

pub counted_few : (test : ℕ → Bool) (xs all : List ℕ) → IsDistinct eqb xs → ((q : ℕ) → test q ≡ true → list_any (eqb q) all ≡ true) → counted test xs (length xs) ≤ length all
counted_few test xs all d holds =
    let few : length (filter test xs) ≤ length all = length-le_from_is_member nat_eq_equiv (filter test xs) all (distinct_filtered test xs d) (λ q e. holds q (passes test q xs e)) in
    let same : counted test xs (length xs) ≡ length (filter test xs) = counted_all test xs in
    omega (arith, few, same)
