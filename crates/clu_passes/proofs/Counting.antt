-- Names that all stand in a list, each once, are all of the list if they are no fewer.
use Rattle.std.proofs.Common.{◌≡◌, ◌∙◌, suc, ◌≤◌, nat_lt, not, Bool, true, false, ◌&&◌, ◌||◌, List, [], ◌∷◌, length, bytes_eq, refl, sym, ap, arith}
use Rattle.std.specs.List.{list_any, AllByRecursion, IsDistinct}
use Rattle.std.proofs.lemmas.Bool.{true≢false, lt-ltb, le-ltb, or_right, or_parts}
use Rattle.std.proofs.lemmas.Cmp.{nat_list_eq_equiv}
use Rattle.std.proofs.lemmas.Map.Made.{length-le_from_is_member}
use Rattle.clu_syntax.specs.Syntax.{Identifier}
use Rattle.clu_checking.specs.NameRules.{stands_twice}
use Rattle.clu_passes.specs.Counting.{has_all}

apart : (x : Identifier) (ys : List Identifier) → list_any (bytes_eq x) ys ≡ false → AllByRecursion (λ y. bytes_eq x y ≡ false) ys
apart x [] e = tt
apart x (y ∷ ys) e = let both = or_parts (bytes_eq x y) (list_any (bytes_eq x) ys) e in (both.0, apart x ys both.1)

once : (xs : List Identifier) → stands_twice xs ≡ false → IsDistinct bytes_eq xs
unfolding IsDistinct
once [] e = tt
once (x ∷ xs) e = let both = or_parts (list_any (bytes_eq x) xs) (stands_twice xs) e in (apart x xs both.0, once xs both.1)

with_one : (x : Identifier) (ys : List Identifier) → list_any (bytes_eq x) ys ≡ false → IsDistinct bytes_eq ys → IsDistinct bytes_eq (x ∷ ys)
unfolding IsDistinct
with_one x ys e d = (apart x ys e, d)

-- ---- members

alike : (q x : Identifier) (ys : List Identifier) → bytes_eq q x ≡ true → list_any (bytes_eq q) ys ≡ list_any (bytes_eq x) ys
alike q x [] e = refl
alike q x (y ∷ ys) e = ap (λ (b : Bool). b || list_any (bytes_eq q) ys) (nat_list_eq_equiv.congr q x y e) ∙ ap (λ (b : Bool). bytes_eq x y || b) (alike q x ys e)

members : (xs ys : List Identifier) → has_all xs ys ≡ true → (q : Identifier) → list_any (bytes_eq q) xs ≡ true → list_any (bytes_eq q) ys ≡ true
members [] ys all q e = absurd (true≢false (sym e))
members (x ∷ xs) ys all q e = by (bytes_eq q x) refl (list_any (bytes_eq x) ys) refl all e (members xs ys)
  where
    by : (b : Bool) → bytes_eq q x ≡ b → (c : Bool) → list_any (bytes_eq x) ys ≡ c → (c && has_all xs ys) ≡ true → (b || list_any (bytes_eq q) xs) ≡ true
        → (has_all xs ys ≡ true → (q : Identifier) → list_any (bytes_eq q) xs ≡ true → list_any (bytes_eq q) ys ≡ true) → list_any (bytes_eq q) ys ≡ true
    by b same false there all e more = absurd (true≢false (sym all))
    by true same true there all e more = alike q x ys same ∙ there
    by false same true there all e more = more all q e

-- one that is missing
missing : (xs ys : List Identifier) → has_all xs ys ≡ false → (x : Identifier) × (list_any (bytes_eq x) xs ≡ true) × (list_any (bytes_eq x) ys ≡ false)
missing [] ys e = absurd (true≢false e)
missing (x ∷ xs) ys e = by (list_any (bytes_eq x) ys) refl e (missing xs ys)
  where
    by : (b : Bool) → list_any (bytes_eq x) ys ≡ b → (b && has_all xs ys) ≡ false → (has_all xs ys ≡ false → (z : Identifier) × (list_any (bytes_eq z) xs ≡ true) × (list_any (bytes_eq z) ys ≡ false))
        → (z : Identifier) × (list_any (bytes_eq z) (x ∷ xs) ≡ true) × (list_any (bytes_eq z) ys ≡ false)
    by false there e more = (x, ap (λ (b : Bool). b || list_any (bytes_eq x) xs) (nat_list_eq_equiv.refl x), there)
    by true there e more = let found = more e in (found.0, or_right (bytes_eq found.0 x) (list_any (bytes_eq found.0) xs) found.1, found.2)

in_whole : (x q : Identifier) (xs ys : List Identifier) → list_any (bytes_eq x) xs ≡ true → ((q : Identifier) → list_any (bytes_eq q) ys ≡ true → list_any (bytes_eq q) xs ≡ true) → list_any (bytes_eq q) (x ∷ ys) ≡ true → list_any (bytes_eq q) xs ≡ true
in_whole x q xs ys there more e = by (bytes_eq q x) refl e
  where
    by : (b : Bool) → bytes_eq q x ≡ b → (b || list_any (bytes_eq q) ys) ≡ true → list_any (bytes_eq q) xs ≡ true
    by true same e = alike q x xs same ∙ there
    by false same e = more q e

-- the names ys stand all in xs, in both lists each name once
pub counted : (xs ys : List Identifier) → stands_twice xs ≡ false → stands_twice ys ≡ false → has_all ys xs ≡ true → has_all xs ys ≡ not (nat_lt (length ys) (length xs))
counted xs ys once_in once_of within = by (has_all xs ys) refl
  where
    by : (b : Bool) → has_all xs ys ≡ b → b ≡ not (nat_lt (length ys) (length xs))
    by true all =
        let no_more : length xs ≤ length ys = length-le_from_is_member nat_list_eq_equiv xs ys (once xs once_in) (members xs ys all) in
        sym (ap not (le-ltb (length ys) (length xs) no_more))
    by false some =
        let one = missing xs ys some in
        let more : suc (length ys) ≤ length xs =
        length-le_from_is_member nat_list_eq_equiv (one.0 ∷ ys) xs (with_one one.0 ys one.2 (once ys once_of))
        (λ q e. in_whole one.0 q xs ys one.1 (members ys xs within) e) in
        sym (ap not (lt-ltb (length ys) (length xs) (omega (arith, more))))
