-- Lemmas on tests that are joined, and on choices between two alike.
use Rattle.std.proofs.Common.{◌≡◌, ◌||◌, Bool, true, false, true≢false, refl, not, sym, ◌&&◌, if◌then◌else◌}

pub second_true : (a b : Bool) → (a || b) ≡ true → a ≡ false → b ≡ true
second_true true b e f = absurd (true≢false f)
second_true false b e f = e

pub first_true : (a b : Bool) → (a || b) ≡ true → (b ≡ true → ⊥) → a ≡ true
first_true true b e f = refl
first_true false b e f = absurd (f e)

pub implied : (a b : Bool) → (not a || b) ≡ true → a ≡ true → b ≡ true
implied true b e is = e
implied false b e is = absurd (true≢false (sym is))

pub same_truth : (a b : Bool) → (a ≡ true → b ≡ true) → (b ≡ true → a ≡ true) → a ≡ b
same_truth true b to from = sym (to refl)
same_truth false true to from = from refl
same_truth false false to from = refl

pub of_three : (a b c : Bool) → (a && b && c) ≡ true → (a ≡ true) × (b ≡ true) × (c ≡ true)
of_three true true true e = (refl, refl, refl)
of_three true true false e = absurd (true≢false (sym e))
of_three true false c e = absurd (true≢false (sym e))
of_three false b c e = absurd (true≢false (sym e))

pub and_more : (b x y z : Bool) → x ≡ (y && z) → (b && x) ≡ ((b && y) && z)
and_more true x y z same = same
and_more false x y z same = refl

pub same_either : {A : Type 0} (b : Bool) (x : A) → (if b then x else x) ≡ x
same_either true x = refl
same_either false x = refl
