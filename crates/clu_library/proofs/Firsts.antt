-- The first item of an ascending list that passes a test.
use Rattle.std.proofs.Common.{◌≡◌, ℕ, List, [], ◌∷◌, Bool, true, false, Option, Some, None, find, refl, sym, ap, ◌∙◌, true≢false}
use Rattle.std.proofs.Math.Bool.{cond}
use Rattle.std.specs.Ordering.{ordering_reverse, is_eq, is_lt}
use Rattle.std.specs.Str.{bytes_eq}
use Rattle.std.proofs.lemmas.Cmp.{nat_list_cmp_total}
use Rattle.std.proofs.lemmas.Map.Text.{is_eq-slice_cmp}
use Rattle.std.proofs.lemmas.Option.{none-some, same_Some}
use Rattle.std.proofs.lemmas.Slice.Eq.{bytes_eq-Decides}
use Rattle.std.specs.declared.cmp.Ordering.TheVariants.{Less}
use Rattle.clu_types.specs.Specs.{name_order}
use Rattle.clu_library.specs.ByName.{ComeAfter, AreAscending}

-- what is found passes
pub found_passes : {X : Type 0} (p : X → Bool) (xs : List X) (y : X) → find p xs ≡ Some y → p y ≡ true
found_passes p [] y e = absurd (none-some y e)
found_passes {X} p (x ∷ xs) y e = by (p x) refl e (found_passes p xs y)
  where
    by : (b : Bool) → p x ≡ b → cond b (Some x) (find p xs) ≡ Some y → (find p xs ≡ Some y → p y ≡ true) → p y ≡ true
    by true is e further = ap p (sym (same_Some x y e)) ∙ is
    by false is e further = further e

-- what passes, and is found by another test, is found by one that it passes
pub some_found : {X : Type 0} (p test : X → Bool) (xs : List X) (y : X) → find p xs ≡ Some y → test y ≡ true → find test xs ≡ None → ⊥
some_found p test [] y e passes never = none-some y e
some_found {X} p test (x ∷ xs) y e passes never = by (test x) refl (p x) e never (λ e never. some_found p test xs y e passes never)
  where
    by : (a : Bool) → test x ≡ a → (b : Bool) → cond b (Some x) (find p xs) ≡ Some y → cond a (Some x) (find test xs) ≡ None → (find p xs ≡ Some y → find test xs ≡ None → ⊥) → ⊥
    by true is b e never further = none-some x (sym never)
    by false is true e never further = true≢false (sym passes ∙ ap test (sym (same_Some x y e)) ∙ is)
    by false is false e never further = further e never

-- names in order differ
pub apart : (m n : List ℕ) → name_order m n ≡ Less → bytes_eq m n ≡ false
apart m n e = sym (is_eq-slice_cmp m n) ∙ ap is_eq e

not_less : (m n : List ℕ) → bytes_eq m n ≡ true → name_order n m ≡ Less → ⊥
not_less m n e less = true≢false (sym ((bytes_eq-Decides n m).1 (sym ((bytes_eq-Decides m n).0 e))) ∙ apart n m less)

greater : (m n : List ℕ) → name_order m n ≡ Less → name_order n m ≡ Less → ⊥
greater m n first second = true≢false (sym (ap is_lt second) ∙ ap is_lt (nat_list_cmp_total.antisymm n m ∙ ap ordering_reverse first))

-- it comes after a name after which all come
after_found : {X : Type 0} (f : X → List ℕ) (p : X → Bool) (n : List ℕ) (xs : List X) (y : X) → ComeAfter f n xs → find p xs ≡ Some y → name_order n (f y) ≡ Less
after_found f p n [] y h e = absurd (none-some y e)
after_found {X} f p n (x ∷ xs) y h e = by (p x) e (after_found f p n xs y h.1)
  where
    by : (b : Bool) → cond b (Some x) (find p xs) ≡ Some y → (find p xs ≡ Some y → name_order n (f y) ≡ Less) → name_order n (f y) ≡ Less
    by true e further = ap (λ z. name_order n (f z)) (sym (same_Some x y e)) ∙ h.0
    by false e further = further e

-- it is the one of its name
pub found_by_name : {X : Type 0} (f : X → List ℕ) (p : X → Bool) (xs : List X) (y : X) → AreAscending f xs → find p xs ≡ Some y → find (λ x. bytes_eq (f x) (f y)) xs ≡ Some y
found_by_name f p [] y a e = absurd (none-some y e)
found_by_name {X} f p (x ∷ xs) y a e = by (p x) e (found_by_name f p xs y a.1)
  where
    by : (b : Bool) → cond b (Some x) (find p xs) ≡ Some y → (find p xs ≡ Some y → find (λ (x : X). bytes_eq (f x) (f y)) xs ≡ Some y) → find (λ (x : X). bytes_eq (f x) (f y)) (x ∷ xs) ≡ Some y
    by true e further =
        let same : bytes_eq (f x) (f y) ≡ true = (bytes_eq-Decides (f x) (f y)).1 (ap f (same_Some x y e)) in
        rw same e
    by false e further =
        let other : bytes_eq (f x) (f y) ≡ false = apart (f x) (f y) (after_found f p (f x) xs y a.0 e) in
        rw other (further e)

-- and no other that passes has a lesser name
pub found_least : {X : Type 0} (f : X → List ℕ) (test : X → Bool) (m : List ℕ) (xs : List X) (y z : X) → AreAscending f xs → find test xs ≡ Some y
    → find (λ x. bytes_eq (f x) m) xs ≡ Some z → test z ≡ true → name_order m (f y) ≡ Less → ⊥
found_least f test m [] y z a e g passes = absurd (none-some y e)
found_least {X} f test m (x ∷ xs) y z a e g passes = by (test x) refl (bytes_eq (f x) m) refl e g (λ e g. found_least f test m xs y z a.1 e g passes)
  where
    less : find (λ (x : X). bytes_eq (f x) m) xs ≡ Some z → name_order (f x) m ≡ Less
    less g =
        let named : f z ≡ m = (bytes_eq-Decides (f z) m).0 (found_passes (λ (x : X). bytes_eq (f x) m) xs z g) in
        ap (name_order (f x)) (sym named) ∙ after_found f (λ (x : X). bytes_eq (f x) m) (f x) xs z a.0 g

    this : Some x ≡ Some y → (name_order m (f x) ≡ Less → ⊥) → name_order m (f y) ≡ Less → ⊥
    this e never h = never (ap (λ z. name_order m (f z)) (same_Some x y e) ∙ h)

    by : (a : Bool) → test x ≡ a → (b : Bool) → bytes_eq (f x) m ≡ b → cond a (Some x) (find test xs) ≡ Some y → cond b (Some x) (find (λ (x : X). bytes_eq (f x) m) xs) ≡ Some z
        → (find test xs ≡ Some y → find (λ (x : X). bytes_eq (f x) m) xs ≡ Some z → name_order m (f y) ≡ Less → ⊥) → name_order m (f y) ≡ Less → ⊥
    by true is true also e g further = this e (not_less (f x) m also)
    by true is false also e g further = this e (greater (f x) m (less g))
    by false is true also e g further = absurd (true≢false (sym passes ∙ ap test (sym (same_Some x z g)) ∙ is))
    by false is false also e g further = further e g
