-- Regions nest as before after their bounds have moved.
use Rattle.std.proofs.Common.{◌≡◌, ℕ, zero, suc, ◌+◌, ◌<◌, ◌≤◌, List, [], ◌∷◌, ◌++◌, length, take, drop, map, get_or, Bool, true, false, cond, ◌&&◌, Option, Some, None, slice_get, option_map, nat_lt, nat_le, refl, sym, ◌∙◌, ap, subst, ⊎_elim, arith, le-leb, leb-true, lt-ltb, ltb-true, append_assoc, append-nil, filter}
use Rattle.std.specs.List.{AllZip, list_all}
use Rattle.std.proofs.lemmas.Bool.{and_from, and_parts, false≢true, or_cases, or_left, or_right}
use Rattle.std.proofs.lemmas.List.{take-map, take-take, take_more}
use Rattle.std.proofs.lemmas.List.Elements.{filter-append}
use Rattle.std.proofs.lemmas.Option.{same_Some}
use Rattle.clu_base.proofs.Lists.{none_is_not, item_at}
use Rattle.clu_handlers.specs.declared.region.Region.{Region}
use Rattle.clu_handlers.specs.Regions.{are_nested, can_add, is_apart, is_in, nests_behind}
use Rattle.clu_peep.specs.Moved.{IsMoved, before, count_true, has_place, number_of, staying}
use Rattle.clu_peep.proofs.Items.{taken_below}

-- Bounds keep their order.

more : (b d : Bool) (m n : ℕ) → (b ≡ true → d ≡ true) → m ≤ n → cond b (suc m) m ≤ cond d (suc n) n
more true true m n on le = omega (arith, le)
more true false m n on le = absurd (false≢true (on refl))
more false true m n on le = omega (arith, le)
more false false m n on le = le

pub before_more : (left : List ℕ) (a b : ℕ) → a ≤ b → before left a ≤ before left b
before_more [] a b le = omega arith
before_more (n ∷ left) a b le =
    more (nat_lt n a) (nat_lt n b) (before left a) (before left b) (λ e. let lt = ltb-true n a e in lt-ltb n b (omega (arith, lt, le))) (before_more left a b le)

-- A list of regions that nest, seen at one of them.
nested_behind : (rs front : List Region) (j : ℕ) (b : Region) → nests_behind front rs ≡ true → slice_get rs j ≡ Some b → can_add (front ++ take j rs) b.first b.last b.parent ≡ true
nested_behind [] front j b h e = none_is_not b e
nested_behind (r ∷ rs) front zero b h e =
    let here : can_add front r.first r.last r.parent ≡ true = (and_parts _ _ h).0 in
    subst (λ (x : Region). can_add (front ++ []) x.first x.last x.parent ≡ true) (same_Some r b e)
    (subst (λ (l : List Region). can_add l r.first r.last r.parent ≡ true) (sym (append-nil front)) here)
nested_behind (r ∷ rs) front (suc j) b h e =
    subst (λ (l : List Region). can_add l b.first b.last b.parent ≡ true) (append_assoc front (r ∷ []) (take j rs))
    (nested_behind rs (front ++ r ∷ []) j b (and_parts _ _ h).1 e)

module _ (left : List ℕ) (stays : List Bool) where
  abbrev Moves : Region → Region → Type 0
  Moves old new = IsMoved left stays old new

  -- Ranges that were apart are, and one that was inside another one is.

  apart_moved : (r s r' s' : Region) → Moves r r' → Moves s s' → is_apart r.first r.last s ≡ true → is_apart r'.first r'.last s' ≡ true
  apart_moved r s r' s' mr ms e = ⊎_elim
      (λ l.
      let lt = ltb-true s.last r.first l in
      let le = before_more left (s.last + 1) r.first (omega (arith, lt)) in
      or_left (nat_lt s'.last r'.first) (nat_lt r'.last s'.first) (lt-ltb s'.last r'.first (omega (arith, le, ms.last, mr.first))))
      (λ l.
      let lt = ltb-true r.last s.first l in
      let le = before_more left (r.last + 1) s.first (omega (arith, lt)) in
      or_right (nat_lt s'.last r'.first) (nat_lt r'.last s'.first) (lt-ltb r'.last s'.first (omega (arith, le, mr.last, ms.first))))
      (or_cases (nat_lt s.last r.first) (nat_lt r.last s.first) e)

  in_moved : (r s r' s' : Region) → Moves r r' → Moves s s' → is_in r.first r.last (Some s) ≡ true → is_in r'.first r'.last (Some s') ≡ true
  in_moved r s r' s' mr ms e =
      let parts = and_parts (nat_le s.first r.first) (nat_le r.last s.last) e in
      let first = leb-true s.first r.first parts.0 in
      let last = leb-true r.last s.last parts.1 in
      let first' = before_more left s.first r.first first in
      let last' = before_more left (r.last + 1) (s.last + 1) (omega (arith, last)) in
      and_from (nat_le s'.first r'.first) (nat_le r'.last s'.last)
      (le-leb s'.first r'.first (omega (arith, first', mr.first, ms.first)))
      (le-leb r'.last s'.last (omega (arith, last', mr.last, ms.last)))

  -- a region has a place left if one inside it has
  has_outer : (r s : Region) → is_in r.first r.last (Some s) ≡ true → has_place left r ≡ true → has_place left s ≡ true
  has_outer r s e has =
      let parts = and_parts (nat_le s.first r.first) (nat_le r.last s.last) e in
      let first = leb-true s.first r.first parts.0 in
      let last = leb-true r.last s.last parts.1 in
      let first' = before_more left s.first r.first first in
      let last' = before_more left (r.last + 1) (s.last + 1) (omega (arith, last)) in
      let lt = ltb-true (before left r.first) (before left (r.last + 1)) has in
      lt-ltb (before left s.first) (before left (s.last + 1)) (omega (arith, first', last', lt))

  -- All regions of a list.

  abbrev Zips : List Region → List Region → Type 0
  Zips olds news = AllZip (IsMoved left stays) olds news

  abbrev kept : List Region → List Region
  kept rs = filter (has_place left) rs

  -- the head of a list, by whether it stays
  apart_head : (x r r' : Region) (xs news : List Region) (b : Bool) → Moves r r' → is_apart r.first r.last x ≡ true
      → ((ns : List Region) → Zips (kept xs) ns → list_all (is_apart r'.first r'.last) ns ≡ true)
      → Zips (cond b (x ∷ kept xs) (kept xs)) news → list_all (is_apart r'.first r'.last) news ≡ true
  apart_head x r r' xs news false mr apart rest zip = rest news zip
  apart_head x r r' xs [] true mr apart rest zip = refl
  apart_head x r r' xs (y ∷ ys) true mr apart rest zip =
      and_from (is_apart r'.first r'.last y) (list_all (is_apart r'.first r'.last) ys) (apart_moved r x r' y mr zip.0 apart) (rest ys zip.1)

  all_apart : (r r' : Region) → Moves r r' → (xs news : List Region) → list_all (is_apart r.first r.last) xs ≡ true → Zips (kept xs) news → list_all (is_apart r'.first r'.last) news ≡ true
  all_apart r r' mr [] [] apart zip = refl
  all_apart r r' mr [] (y ∷ ys) apart zip = absurd zip
  all_apart r r' mr (x ∷ xs) news apart zip =
      let parts = and_parts (is_apart r.first r.last x) (list_all (is_apart r.first r.last) xs) apart in
      apart_head x r r' xs news (has_place left x) mr parts.0 (λ ns z. all_apart r r' mr xs ns parts.1 z) zip

  -- the region that has become of the one at a place, and those after it
  abbrev Found : Region → List Region → List Region → ℕ → Type 0
  Found old after news n = (new : Region) × (slice_get news n ≡ Some new) × Moves old new × Zips (kept after) (drop (suc n) news)

  found_here : (x old : Region) (xs news : List Region) (b : Bool) → b ≡ true → x ≡ old → Zips (cond b (x ∷ kept xs) (kept xs)) news → Found old xs news zero
  found_here x old xs news false has e zip = absurd (false≢true has)
  found_here x old xs [] true has e zip = absurd zip
  found_here x old xs (y ∷ ys) true has e zip = (y, refl, subst (λ (o : Region). Moves o y) e zip.0, zip.1)

  found_later : (x old : Region) (xs after news : List Region) (b : Bool) (n : ℕ)
      → ((ns : List Region) → Zips (kept xs) ns → Found old after ns n)
      → Zips (cond b (x ∷ kept xs) (kept xs)) news → Found old after news (cond b (suc n) n)
  found_later x old xs after news false n rest zip = rest news zip
  found_later x old xs after [] true n rest zip = absurd zip
  found_later x old xs after (y ∷ ys) true n rest zip = rest ys zip.1

  found_moved : (xs news : List Region) (p : ℕ) (old : Region) → slice_get xs p ≡ Some old → has_place left old ≡ true → Zips (kept xs) news
      → Found old (drop (suc p) xs) news (number_of (map (has_place left) xs) p)
  found_moved [] news p old e has zip = none_is_not old e
  found_moved (x ∷ xs) news zero old e has zip =
      let is = same_Some x old e in
      found_here x old xs news (has_place left x) (ap (has_place left) is ∙ has) is zip
  found_moved (x ∷ xs) news (suc p) old e has zip =
      found_later x old xs (drop (suc p) xs) news (has_place left x) (number_of (map (has_place left) xs) p) (λ ns z. found_moved xs ns p old e has z) zip

-- the number of a region is told by those before it
number_same : (left : List ℕ) (regions : List Region) (i p : ℕ) → p < i → number_of (map (has_place left) (take i regions)) p ≡ number_of (staying left regions) p
number_same left regions i p lt =
    ap count_true (take-map (has_place left) p (take i regions) ∙ ap (map (has_place left)) (take-take p i regions (omega (arith, lt))) ∙ sym (take-map (has_place left) p regions))

module _ (left : List ℕ) (regions : List Region) (i : ℕ) (r r' : Region) (news : List Region)
    (mr : IsMoved left (staying left regions) r r') (has : has_place left r ≡ true)
    (zip : AllZip (IsMoved left (staying left regions)) (filter (has_place left) (take i regions)) news) where
  forward : nat_le r'.first r'.last ≡ true
  forward =
      let lt = ltb-true (before left r.first) (before left (r.last + 1)) has in
      le-leb r'.first r'.last (omega (arith, lt, mr.first, mr.last))

  fits_parent : (p : ℕ) (o : Option Region) → slice_get (take i regions) p ≡ o → is_in r.first r.last o ≡ true → list_all (is_apart r.first r.last) (drop (suc p) (take i regions)) ≡ true
      → can_add news r'.first r'.last (Some (number_of (staying left regions) p)) ≡ true
  fits_parent p None e within apart = absurd (false≢true within)
  fits_parent p (Some s) e within apart =
      let has_s = has_outer left (staying left regions) r s within has in
      let found = found_moved left (staying left regions) (take i regions) news p s e has_s zip in
      let n = number_of (map (has_place left) (take i regions)) p in
      let fits : can_add news r'.first r'.last (Some n) ≡ true =
      and_from (nat_le r'.first r'.last) (is_in r'.first r'.last (slice_get news n) && list_all (is_apart r'.first r'.last) (drop (suc n) news)) forward
      (and_from (is_in r'.first r'.last (slice_get news n)) (list_all (is_apart r'.first r'.last) (drop (suc n) news))
      (ap (is_in r'.first r'.last) found.1 ∙ in_moved left (staying left regions) r s r' found.0 mr found.2 within)
      (all_apart left (staying left regions) r r' mr (drop (suc p) (take i regions)) (drop (suc n) news) apart found.3)) in
      subst (λ (m : ℕ). can_add news r'.first r'.last (Some m) ≡ true) (number_same left regions i p (taken_below regions i p s e)) fits

  fits_by : (o : Option ℕ) → can_add (take i regions) r.first r.last o ≡ true → can_add news r'.first r'.last (option_map (number_of (staying left regions)) o) ≡ true
  fits_by None can =
      let parts = and_parts (nat_le r.first r.last) (list_all (is_apart r.first r.last) (take i regions)) can in
      and_from (nat_le r'.first r'.last) (list_all (is_apart r'.first r'.last) news) forward
      (all_apart left (staying left regions) r r' mr (take i regions) news parts.1 zip)
  fits_by (Some p) can =
      let parts = and_parts (nat_le r.first r.last) (is_in r.first r.last (slice_get (take i regions) p) && list_all (is_apart r.first r.last) (drop (suc p) (take i regions))) can in
      let both = and_parts (is_in r.first r.last (slice_get (take i regions) p)) (list_all (is_apart r.first r.last) (drop (suc p) (take i regions))) parts.1 in
      fits_parent p (slice_get (take i regions) p) refl both.0 both.1

  pub fits_moved : can_add (take i regions) r.first r.last r.parent ≡ true → can_add news r'.first r'.last r'.parent ≡ true
  fits_moved can = subst (λ (o : Option ℕ). can_add news r'.first r'.last o ≡ true) (sym mr.parent) (fits_by r.parent can)

-- The loop over the regions.

pub record MovedSoFar (left : List ℕ) (regions : List Region) (i : ℕ) (news : List Region) : Type 0 where
  pub zip : AllZip (IsMoved left (staying left regions)) (filter (has_place left) (take i regions)) news
  pub count : length news ≤ i

-- the region at a place may be added
pub may_add : (left : List ℕ) (regions : List Region) (i : ℕ) (news : List Region) (r r' : Region)
    → MovedSoFar left regions i news → are_nested regions ≡ true → i < length regions → r ≡ get_or regions i r
    → has_place left r ≡ true → IsMoved left (staying left regions) r r' → can_add news r'.first r'.last r'.parent ≡ true
may_add left regions i news r r' so_far nested lt at has mr =
    fits_moved left regions i r r' news mr has so_far.zip (nested_behind regions [] i r nested (item_at regions i r lt at))

filter_head : {X : Type 0} (b : Bool) (x : X) (all front back : List X) → all ≡ front ++ back → cond b (x ∷ all) all ≡ cond b (x ∷ front) front ++ back
filter_head true x all front back e = ap (λ l. x ∷ l) e
filter_head false x all front back e = e

taken : (left : List ℕ) (regions : List Region) (i : ℕ) (r : Region) → i < length regions → r ≡ get_or regions i r
    → filter (has_place left) (take (i + 1) regions) ≡ filter (has_place left) (take i regions) ++ filter (has_place left) (r ∷ [])
taken left regions i r lt at =
    ap (filter (has_place left)) (take_more regions i r lt ∙ ap (λ (x : Region). take i regions ++ x ∷ []) (sym at))
    ∙ filter-append (has_place left) (take i regions) (r ∷ [])

zip-push : (left : List ℕ) (stays : List Bool) (olds news : List Region) (x y : Region) → AllZip (IsMoved left stays) olds news → IsMoved left stays x y → AllZip (IsMoved left stays) (olds ++ x ∷ []) (news ++ y ∷ [])
zip-push left stays [] [] x y zip one = (one, tt)
zip-push left stays [] (n ∷ news) x y zip one = absurd zip
zip-push left stays (o ∷ olds) [] x y zip one = absurd zip
zip-push left stays (o ∷ olds) (n ∷ news) x y zip one = (zip.0, zip-push left stays olds news x y zip.1 one)

pub moved_more : (left : List ℕ) (regions : List Region) (i : ℕ) (news : List Region) (r r' : Region)
    → MovedSoFar left regions i news → i < length regions → r ≡ get_or regions i r → has_place left r ≡ true → IsMoved left (staying left regions) r r'
    → MovedSoFar left regions (i + 1) (news ++ r' ∷ [])
moved_more left regions i news r r' so_far lt at has mr =
    let one : filter (has_place left) (r ∷ []) ≡ r ∷ [] = ap (λ (b : Bool). cond b (r ∷ []) []) has in
    record {
      zip = subst (λ (l : List Region). AllZip (IsMoved left (staying left regions)) l (news ++ r' ∷ []))
          (sym (taken left regions i r lt at ∙ ap (λ (l : List Region). filter (has_place left) (take i regions) ++ l) one))
          (zip-push left (staying left regions) (filter (has_place left) (take i regions)) news r r' so_far.zip mr);
      count = omega (arith, so_far.count, length_with news r');
    }
  where
    length_with : (xs : List Region) (y : Region) → length (xs ++ y ∷ []) ≡ suc (length xs)
    length_with [] y = refl
    length_with (x ∷ xs) y = ap suc (length_with xs y)
