-- Regions that nest: the last one round a place that has an arm is the innermost.
use Rattle.std.proofs.Common.{◌≡◌, ℕ, zero, suc, ◌+◌, ◌<◌, ◌≤◌, List, [], ◌∷◌, ◌++◌, length, take, drop, Bool, true, false, ◌&&◌, ◌||◌, Option, Some, None, slice_get, refl, sym, ◌∙◌, ap, subst, cond, ⊎_elim, arith, le-leb, leb-true, ltb-true, append_assoc, append-nil, add-one, nat_le, IfSome, IfNone}
use Rattle.std.specs.List.{list_all}
use Rattle.std.proofs.lemmas.Bool.{and_from, and_parts, and_right, or_cases, cases_lt, false≢true}
use Rattle.std.proofs.lemmas.Option.{slice_get_past, same_Some}
use Rattle.clu_base.proofs.Lists.{none_is_not, get_before, get_last}
use Rattle.clu_handlers.specs.declared.region.Region.{Region}
use Rattle.clu_handlers.specs.declared.region.Found.{Found}
use Rattle.clu_handlers.specs.Arms.{arm_for}
use Rattle.clu_handlers.specs.Regions.{is_round, is_apart, is_in, can_add, nests_behind, are_nested, arm_at, arm_of, arm_in, Holds, IsInnermost, found_next, found_behind}

-- Items of lists.

pub length_with : {X : Type 0} (xs : List X) (y : X) → length (xs ++ y ∷ []) ≡ suc (length xs)
length_with [] y = refl
length_with (x ∷ xs) y = ap suc (length_with xs y)

pub get_past : {X : Type 0} (xs : List X) (y : X) (n : ℕ) → length xs < n → slice_get (xs ++ y ∷ []) n ≡ None
get_past xs y n lt = slice_get_past (xs ++ y ∷ []) n (omega (arith, length_with xs y, lt))

all_from : {X : Type 0} (p : X → Bool) (xs : List X) (k n : ℕ) (a : X) → list_all p (drop k xs) ≡ true → k ≤ n → slice_get xs n ≡ Some a → p a ≡ true
all_from p [] k n a all le e = none_is_not a e
all_from p (x ∷ xs) zero zero a all le e = ap p (sym (same_Some x a e)) ∙ (and_parts (p x) (list_all p xs) all).0
all_from p (x ∷ xs) zero (suc n) a all le e = all_from p xs 0 n a (and_parts (p x) (list_all p xs) all).1 (omega arith) e
all_from p (x ∷ xs) (suc k) zero a all le e = absurd (omega (arith, le))
all_from p (x ∷ xs) (suc k) (suc n) a all le e = all_from p xs k n a all (omega (arith, le)) e

taken_get : {X : Type 0} (xs : List X) (j i : ℕ) (a : X) → slice_get (take j xs) i ≡ Some a → (i < j) × (slice_get xs i ≡ Some a)
taken_get [] zero i a e = none_is_not a e
taken_get [] (suc j) i a e = none_is_not a e
taken_get (x ∷ xs) zero i a e = none_is_not a e
taken_get (x ∷ xs) (suc j) zero a e = (omega arith, e)
taken_get (x ∷ xs) (suc j) (suc i) a e = let rest = taken_get xs j i a e in (omega (arith, rest.0), rest.1)

get_taken : {X : Type 0} (xs : List X) (j i : ℕ) (a : X) → i < j → slice_get xs i ≡ Some a → slice_get (take j xs) i ≡ Some a
get_taken [] j i a lt e = none_is_not a e
get_taken (x ∷ xs) zero i a lt e = absurd (omega (arith, lt))
get_taken (x ∷ xs) (suc j) zero a lt e = e
get_taken (x ∷ xs) (suc j) (suc i) a lt e = get_taken xs j i a (omega (arith, lt)) e

-- Ranges.

round_parts : (r : Region) (pc : ℕ) → is_round r pc ≡ true → (r.first ≤ pc) × (pc ≤ r.last)
round_parts r pc e = let parts = and_parts _ _ e in (leb-true r.first pc parts.0, leb-true pc r.last parts.1)

-- no place is in two ranges that are apart
apart_clash : {A : Type 0} (a b : Region) (pc : ℕ) → is_apart b.first b.last a ≡ true → is_round a pc ≡ true → is_round b pc ≡ true → A
apart_clash a b pc apart ra rb =
    let in_a = round_parts a pc ra in
    let in_b = round_parts b pc rb in
    absurd (⊎_elim
    (λ e. let lt = ltb-true a.last b.first e in omega (arith, lt, in_a.1, in_b.0))
    (λ e. let lt = ltb-true b.last a.first e in omega (arith, lt, in_a.0, in_b.1))
    (or_cases _ _ apart))

-- Nesting.

nested_behind : (rs front : List Region) (j : ℕ) (b : Region) → nests_behind front rs ≡ true → slice_get rs j ≡ Some b → can_add (front ++ take j rs) b.first b.last b.parent ≡ true
nested_behind [] front j b h e = none_is_not b e
nested_behind (r ∷ rs) front zero b h e =
    let here : can_add front r.first r.last r.parent ≡ true = (and_parts _ _ h).0 in
    subst (λ (x : Region). can_add (front ++ []) x.first x.last x.parent ≡ true) (same_Some r b e)
    (subst (λ (l : List Region). can_add l r.first r.last r.parent ≡ true) (sym (append-nil front)) here)
nested_behind (r ∷ rs) front (suc j) b h e =
    subst (λ (l : List Region). can_add l b.first b.last b.parent ≡ true) (append_assoc front (r ∷ []) (take j rs))
    (nested_behind rs (front ++ r ∷ []) j b (and_parts _ _ h).1 e)

-- Of two regions round a place the one that was added first holds the other.
module _ (rs : List Region) (nested : are_nested rs ≡ true) (pc : ℕ) where
  abbrev Within : Region → Region → Type 0
  Within a b = (a.first ≤ b.first) × (b.last ≤ a.last)

  abbrev HoldBelow : ℕ → Type 0
  HoldBelow k = (i j : ℕ) (a b : Region) → j < k → i ≤ j → slice_get rs i ≡ Some a → slice_get rs j ≡ Some b → is_round a pc ≡ true → is_round b pc ≡ true → Within a b

  -- the inner one has a parent, and the outer one is that or lies round it
  by_parent_region : (k : ℕ) → HoldBelow k → (i j p : ℕ) (a b : Region) → j ≤ k → i < j → slice_get rs i ≡ Some a → is_round a pc ≡ true → is_round b pc ≡ true
      → list_all (is_apart b.first b.last) (drop (suc p) (take j rs)) ≡ true → (o : Option Region) → slice_get (take j rs) p ≡ o → is_in b.first b.last o ≡ true → Within a b
  by_parent_region k below i j p a b jk ij ea ra rb apart None ep within = absurd (false≢true within)
  by_parent_region k below i j p a b jk ij ea ra rb apart (Some c) ep within =
      let got = taken_get rs j p c ep in
      let ends = and_parts _ _ within in
      let first : c.first ≤ b.first = leb-true c.first b.first ends.0 in
      let last : b.last ≤ c.last = leb-true b.last c.last ends.1 in
      let in_b = round_parts b pc rb in
      let rc : is_round c pc ≡ true = and_from _ _ (le-leb c.first pc (omega (arith, first, in_b.0))) (le-leb pc c.last (omega (arith, last, in_b.1))) in
      ⊎_elim
      (λ pi. apart_clash a b pc (all_from (is_apart b.first b.last) (take j rs) (suc p) i a apart (omega (arith, pi)) (get_taken rs j i a ij ea)) ra rb)
      (λ ip. let outer = below i p a c (omega (arith, got.0, jk)) ip ea got.1 ra rc in (omega (arith, outer.0, first), omega (arith, outer.1, last)))
      (cases_lt p i)

  by_parent : (k : ℕ) → HoldBelow k → (i j : ℕ) (a b : Region) → j ≤ k → i < j → slice_get rs i ≡ Some a → is_round a pc ≡ true → is_round b pc ≡ true
      → (o : Option ℕ) → can_add (take j rs) b.first b.last o ≡ true → Within a b
  by_parent k below i j a b jk ij ea ra rb None h =
      apart_clash a b pc (all_from (is_apart b.first b.last) (take j rs) 0 i a (and_parts _ _ h).1 (omega arith) (get_taken rs j i a ij ea)) ra rb
  by_parent k below i j a b jk ij ea ra rb (Some p) h =
      let parts = and_parts _ _ h in
      let both = and_parts _ _ parts.1 in
      by_parent_region k below i j p a b jk ij ea ra rb both.1 (slice_get (take j rs) p) refl both.0

  same_within : (i j : ℕ) (a b : Region) → i ≡ j → slice_get rs i ≡ Some a → slice_get rs j ≡ Some b → Within a b
  same_within i j a b ij ea eb =
      let ab : a ≡ b = same_Some a b (sym ea ∙ ap (slice_get rs) ij ∙ eb) in
      (omega (arith, ap (λ (r : Region). r.first) ab), omega (arith, ap (λ (r : Region). r.last) ab))

  holds_step : (k : ℕ) → HoldBelow k → HoldBelow (suc k)
  holds_step k below i j a b jk ij ea eb ra rb = ⊎_elim
      (λ lt. by_parent k below i j a b (omega (arith, jk)) lt ea ra rb b.parent (nested_behind rs [] j b nested eb))
      (λ ji. same_within i j a b (omega (arith, ij, ji)) ea eb)
      (cases_lt i j)

  pub holds : (k : ℕ) → HoldBelow k
  holds zero = λ i j a b jk ij ea eb ra rb. absurd (omega (arith, jk))
  holds (suc k) = holds_step k (holds k)

-- The search.

abbrev NoneFrom : List Region → ℕ → List ℕ → ℕ → Type 0
NoneFrom rs pc name low = (n : ℕ) → low ≤ n → arm_in rs pc name n ≡ None

-- what is found so far is the last one with an arm
abbrev pub IsLast : List Region → ℕ → List ℕ → Option Found → Type 0
IsLast rs pc name None = NoneFrom rs pc name 0
IsLast rs pc name (Some f) = (arm_in rs pc name f.region ≡ Some f.arm) × (f.region < length rs) × NoneFrom rs pc name (suc f.region)

arm_before : (rs : List Region) (r : Region) (pc : ℕ) (name : List ℕ) (n : ℕ) → n < length rs → arm_in (rs ++ r ∷ []) pc name n ≡ arm_in rs pc name n
arm_before rs r pc name n lt = ap (λ o. arm_of o pc name) (get_before rs r n lt)

arm_here : (rs : List Region) (r : Region) (pc : ℕ) (name : List ℕ) → arm_in (rs ++ r ∷ []) pc name (length rs) ≡ arm_at r pc name
arm_here rs r pc name = ap (λ o. arm_of o pc name) (get_last rs r)

none_past : (rs : List Region) (r : Region) (pc : ℕ) (name : List ℕ) → NoneFrom (rs ++ r ∷ []) pc name (suc (length rs))
none_past rs r pc name n le = ap (λ o. arm_of o pc name) (get_past rs r n (omega (arith, le)))

none_with : (rs : List Region) (r : Region) (pc : ℕ) (name : List ℕ) (low : ℕ) → arm_at r pc name ≡ None → NoneFrom rs pc name low → NoneFrom (rs ++ r ∷ []) pc name low
none_with rs r pc name low none before n le = ⊎_elim
    (λ lt. arm_before rs r pc name n lt ∙ before n le)
    (λ ge. ⊎_elim
    (λ gt. none_past rs r pc name n (omega (arith, gt)))
    (λ le'. let here : n ≡ length rs = omega (arith, ge, le') in ap (arm_in (rs ++ r ∷ []) pc name) here ∙ arm_here rs r pc name ∙ none)
    (cases_lt (length rs) n))
    (cases_lt n (length rs))

last_with : (rs : List Region) (r : Region) (pc : ℕ) (name : List ℕ) (before : Option Found) → IsLast rs pc name before
    → (o : Option ℕ) → arm_at r pc name ≡ o → IsLast (rs ++ r ∷ []) pc name (found_next before (length rs) o)
last_with rs r pc name None h None e = none_with rs r pc name 0 e h
last_with rs r pc name (Some f) h None e = (arm_before rs r pc name f.region h.1 ∙ h.0, omega (arith, h.1, length_with rs r), none_with rs r pc name (suc f.region) e h.2)
last_with rs r pc name before h (Some arm) e = (arm_here rs r pc name ∙ e, omega (arith, length_with rs r), none_past rs r pc name)

last_behind : (rs front : List Region) (pc : ℕ) (name : List ℕ) (before : Option Found) → IsLast front pc name before → IsLast (front ++ rs) pc name (found_behind before (length front) rs pc name)
last_behind [] front pc name before h = subst (λ (l : List Region). IsLast l pc name before) (sym (append-nil front)) h
last_behind (r ∷ rs) front pc name before h =
    let next : Option Found = found_next before (length front) (arm_at r pc name) in
    let there : IsLast ((front ++ r ∷ []) ++ rs) pc name (found_behind next (length (front ++ r ∷ [])) rs pc name) = last_behind rs (front ++ r ∷ []) pc name next (last_with front r pc name before h (arm_at r pc name) refl) in
    let counted : IsLast ((front ++ r ∷ []) ++ rs) pc name (found_behind next (suc (length front)) rs pc name) = subst (λ (k : ℕ). IsLast ((front ++ r ∷ []) ++ rs) pc name (found_behind next k rs pc name)) (length_with front r) there in
    subst (λ (l : List Region). IsLast l pc name (found_behind next (suc (length front)) rs pc name)) (append_assoc front (r ∷ []) rs) counted

pub last_of : (rs : List Region) (pc : ℕ) (name : List ℕ) → IsLast rs pc name (found_behind None 0 rs pc name)
last_of rs pc name = last_behind rs [] pc name None (λ n le. refl)

-- What is found is innermost.

-- a region that has an arm at a place is round it
arm_round : (o : Option Region) (pc : ℕ) (name : List ℕ) (arm : ℕ) → arm_of o pc name ≡ Some arm → (r : Region) × (o ≡ Some r) × (is_round r pc ≡ true)
arm_round None pc name arm e = none_is_not arm e
arm_round (Some r) pc name arm e = by (is_round r pc) refl
  where
    by : (t : Bool) → is_round r pc ≡ t → (r' : Region) × (Some r ≡ Some r') × (is_round r' pc ≡ true)
    by true is = (r, refl, is)
    by false is = none_is_not arm (sym (ap (λ (t : Bool). cond t (arm_for r.arms.items name) None) is) ∙ e)

pub innermost_of : (rs : List Region) → are_nested rs ≡ true → (pc : ℕ) (name : List ℕ) (f : Found) → found_behind None 0 rs pc name ≡ Some f → IsInnermost rs pc name f
innermost_of rs nested pc name f e =
    let is : IsLast rs pc name (Some f) = subst (IsLast rs pc name) e (last_of rs pc name) in
    record { takes = is.0; last = λ n arm t. after is n arm t; innermost = λ n arm t. inside is n arm t }
  where
    after : IsLast rs pc name (Some f) → (n arm : ℕ) → arm_in rs pc name n ≡ Some arm → n ≤ f.region
    after is n arm t = ⊎_elim (λ lt. none_is_not arm (sym (is.2 n (omega (arith, lt))) ∙ t)) (λ le. le) (cases_lt f.region n)

    inside : IsLast rs pc name (Some f) → (n arm : ℕ) → arm_in rs pc name n ≡ Some arm → Holds (slice_get rs n) (slice_get rs f.region)
    inside is n arm t =
        let outer = arm_round (slice_get rs n) pc name arm t in
        let inner = arm_round (slice_get rs f.region) pc name f.arm is.0 in
        let within = holds rs nested pc (suc f.region) n f.region outer.0 inner.0 (omega arith) (after is n arm t) outer.1 inner.1 outer.2 inner.2 in
        subst (λ (o : Option Region). Holds o (slice_get rs f.region)) (sym outer.1) (subst (λ (o : Option Region). Holds (Some outer.0) o) (sym inner.1) within)

pub none_of : (rs : List Region) (pc : ℕ) (name : List ℕ) → found_behind None 0 rs pc name ≡ None → (n : ℕ) → arm_in rs pc name n ≡ None
none_of rs pc name e n = let is : IsLast rs pc name None = subst (IsLast rs pc name) e (last_of rs pc name) in is n (omega arith)

-- One region more.

pub nested_with : (rs front : List Region) (r : Region) → nests_behind front rs ≡ true → can_add (front ++ rs) r.first r.last r.parent ≡ true → nests_behind front (rs ++ r ∷ []) ≡ true
nested_with [] front r h can = and_from _ _ (subst (λ (l : List Region). can_add l r.first r.last r.parent ≡ true) (append-nil front) can) refl
nested_with (x ∷ rs) front r h can =
    let parts = and_parts _ _ h in
    and_from _ _ parts.0 (nested_with rs (front ++ x ∷ []) r parts.1
    (subst (λ (l : List Region). can_add l r.first r.last r.parent ≡ true) (sym (append_assoc front (x ∷ []) rs)) can))

-- What may be added, by the region round it.

pub fits_add : (rs : List Region) (first last p : ℕ) (r : Region) → slice_get rs p ≡ Some r
    → can_add rs first last (Some p) ≡ (nat_le first last && (is_in first last (Some r) && list_all (is_apart first last) (drop (p + 1) rs)))
fits_add rs first last p r e =
    ap (λ (o : Option Region). nat_le first last && (is_in first last o && list_all (is_apart first last) (drop (suc p) rs))) e
    ∙ ap (λ (n : ℕ). nat_le first last && (is_in first last (Some r) && list_all (is_apart first last) (drop n rs))) (sym (add-one p))

pub no_add : (rs : List Region) (first last p : ℕ) → slice_get rs p ≡ None → can_add rs first last (Some p) ≡ false
no_add rs first last p e =
    ap (λ (o : Option Region). nat_le first last && (is_in first last o && list_all (is_apart first last) (drop (suc p) rs))) e
    ∙ and_right (nat_le first last) false refl

-- The two clauses of the search.

pub found_clause : (rs : List Region) → are_nested rs ≡ true → (pc : ℕ) (name : List ℕ) (o : Option Found) → o ≡ found_behind None 0 rs pc name → IfSome o (IsInnermost rs pc name)
found_clause rs nested pc name None e = tt
found_clause rs nested pc name (Some f) e = innermost_of rs nested pc name f (sym e)

pub none_clause : (rs : List Region) (pc : ℕ) (name : List ℕ) (o : Option Found) → o ≡ found_behind None 0 rs pc name → IfNone o ((n : ℕ) → arm_in rs pc name n ≡ None)
none_clause rs pc name None e = none_of rs pc name (sym e)
none_clause rs pc name (Some f) e = tt
