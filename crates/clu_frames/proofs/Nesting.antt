-- Lists of regions that nest, one after the other and one inside the other.
use Rattle.std.proofs.Common.{◌≡◌, ℕ, zero, suc, ◌+◌, ◌<◌, ◌≤◌, List, [], ◌∷◌, ◌++◌, length, drop, true, ◌&&◌, Option, Some, None, nat_lt, nat_le, slice_get, refl, sym, ◌∙◌, ap, subst, arith, lt-ltb, le-leb, append_assoc, append-nil, length-append}
use Rattle.std.specs.List.{list_all}
use Rattle.std.proofs.lemmas.Bool.{and_from, and_parts, or_left}
use Rattle.clu_base.proofs.Lists.{none_is_not, got_front}
use Rattle.clu_wir.specs.declared.region.Arm.{Arm}
use Rattle.clu_wir.specs.Adding.{Added, can_add, is_apart, is_in, is_placed, nests_behind}
use Rattle.clu_frames.specs.Regions.{changed}

-- Items of lists.

pub get_behind : {X : Type 0} (xs ys : List X) (y : X) → slice_get (xs ++ y ∷ ys) (length xs) ≡ Some y
get_behind [] ys y = refl
get_behind (x ∷ xs) ys y = get_behind xs ys y

drop_left : {X : Type 0} (xs ys : List X) (i : ℕ) (x : X) → slice_get xs i ≡ Some x → drop (suc i) (xs ++ ys) ≡ drop (suc i) xs ++ ys
drop_left [] ys i x e = none_is_not x e
drop_left (y ∷ xs) ys zero x e = refl
drop_left (y ∷ xs) ys (suc i) x e = drop_left xs ys i x e

drop_behind : {X : Type 0} (xs ys : List X) (y : X) → drop (suc (length xs)) (xs ++ y ∷ ys) ≡ ys
drop_behind [] ys y = refl
drop_behind (x ∷ xs) ys y = drop_behind xs ys y

pub changed_at : (change : Added → Added) (before after : List Added) (r : Added) → changed change (length before) (before ++ r ∷ after) ≡ before ++ change r ∷ after
changed_at change [] after r = refl
changed_at change (x ∷ before) after r = ap (λ (rs : List Added). x ∷ rs) (changed_at change before after r)

-- Regions that ended before a place.

abbrev pub AllEnded : ℕ → List Added → Type 0
AllEnded place [] = Unit {0}
AllEnded place (r ∷ rs) = (r.last < place) × AllEnded place rs

pub ended_on : (place : ℕ) (xs ys : List Added) → AllEnded place xs → AllEnded place ys → AllEnded place (xs ++ ys)
ended_on place [] ys x y = y
ended_on place (r ∷ xs) ys x y = (x.0, ended_on place xs ys x.1 y)

pub ended_more : (place later : ℕ) (xs : List Added) → place ≤ later → AllEnded place xs → AllEnded later xs
ended_more place later [] le x = tt
ended_more place later (r ∷ xs) le x = let lt = x.0 in (omega (arith, lt, le), ended_more place later xs le x.1)

apart_all : (first last : ℕ) (rs : List Added) → AllEnded first rs → list_all (is_apart first last) rs ≡ true
apart_all first last [] x = refl
apart_all first last (r ∷ rs) x =
    and_from (is_apart first last r) (list_all (is_apart first last) rs)
    (or_left (nat_lt r.last first) (nat_lt last r.first) (lt-ltb r.last first x.0)) (apart_all first last rs x.1)

-- Room for regions from one place up to another: the region round them holds these places, and all after it have ended.

abbrev pub behind : Option ℕ → List Added → List Added
behind None rs = rs
behind (Some p) rs = drop (suc p) rs

pub record HoldsIn (before : List Added) (p low high : ℕ) : Type 0 where
  pub region : Added
  pub there : slice_get before p ≡ Some region
  pub first : region.first ≤ low
  pub last : high ≤ suc region.last

abbrev pub Holds : List Added → Option ℕ → ℕ → ℕ → Type 0
Holds before None low high = Unit {0}
Holds before (Some p) low high = HoldsIn before p low high

pub record Room (before : List Added) (parent : Option ℕ) (low high : ℕ) : Type 0 where
  pub holds : Holds before parent low high
  pub ended : AllEnded low (behind parent before)

holds_on : (before more : List Added) (parent : Option ℕ) (low high low' high' : ℕ) → low ≤ low' → high' ≤ high → Holds before parent low high → Holds (before ++ more) parent low' high'
holds_on before more None low high low' high' l h x = tt
holds_on before more (Some p) low high low' high' l h x = record {
  region = x.region;
  there = got_front before more p x.region x.there;
  first = omega (arith, l, x.first);
  last = omega (arith, h, x.last);
}

holds_less : (before : List Added) (parent : Option ℕ) (low high low' high' : ℕ) → low ≤ low' → high' ≤ high → Holds before parent low high → Holds before parent low' high'
holds_less before None low high low' high' l h x = tt
holds_less before (Some p) low high low' high' l h x = record {
  region = x.region;
  there = x.there;
  first = omega (arith, l, x.first);
  last = omega (arith, h, x.last);
}

behind_on : (before more : List Added) (parent : Option ℕ) (low high : ℕ) → Holds before parent low high → behind parent (before ++ more) ≡ behind parent before ++ more
behind_on before more None low high x = refl
behind_on before more (Some p) low high x = drop_left before more p x.region x.there

is_in_held : (first last low high : ℕ) (before : List Added) (p : ℕ) → low ≤ first → last < high → HoldsIn before p low high → is_in first last (slice_get before p) ≡ true
is_in_held first last low high before p l h x =
    ap (is_in first last) x.there
    ∙ and_from (nat_le x.region.first first) (nat_le last x.region.last)
    (le-leb x.region.first first (omega (arith, l, x.first))) (le-leb last x.region.last (omega (arith, h, x.last)))

can_add_in : (before : List Added) (parent : Option ℕ) (first last high : ℕ) → first ≤ last → last < high → Room before parent first high → can_add before first last parent ≡ true
can_add_in before None first last high le lt room =
    and_from (nat_le first last) (list_all (is_apart first last) before) (le-leb first last le) (apart_all first last before room.ended)
can_add_in before (Some p) first last high le lt room =
    and_from (nat_le first last) (is_in first last (slice_get before p) && list_all (is_apart first last) (drop (suc p) before)) (le-leb first last le)
    (and_from (is_in first last (slice_get before p)) (list_all (is_apart first last) (drop (suc p) before))
    (is_in_held first last first high before p (omega arith) lt room.holds) (apart_all first last (drop (suc p) before) room.ended))

-- What is added where there is room: it nests, and has ended after the last of these places.

pub record Fits (before : List Added) (parent : Option ℕ) (high : ℕ) (added : List Added) : Type 0 where
  pub nested : nests_behind before added ≡ true
  pub ended : AllEnded high (behind parent (before ++ added))

-- regions that fit wherever there is room for them, after so many others
abbrev pub Nest : Option ℕ → ℕ → ℕ → ℕ → List Added → Type 0
Nest parent count low high added = (before : List Added) → length before ≡ count → Room before parent low high → Fits before parent high added

nests_on : (before xs ys : List Added) → nests_behind before xs ≡ true → nests_behind (before ++ xs) ys ≡ true → nests_behind before (xs ++ ys) ≡ true
nests_on before [] ys x y = subst (λ (l : List Added). nests_behind l ys ≡ true) (append-nil before) y
nests_on before (r ∷ xs) ys x y =
    let parts = and_parts (can_add before r.first r.last r.parent) (nests_behind (before ++ r ∷ []) xs) x in
    and_from (can_add before r.first r.last r.parent) (nests_behind (before ++ r ∷ []) (xs ++ ys)) parts.0
    (nests_on (before ++ r ∷ []) xs ys parts.1 (subst (λ (l : List Added). nests_behind l ys ≡ true) (sym (append_assoc before (r ∷ []) xs)) y))

pub nest_none : (parent : Option ℕ) (count low high : ℕ) → low ≤ high → Nest parent count low high []
nest_none parent count low high le before e room = record {
  nested = refl;
  ended = subst (λ (l : List Added). AllEnded high (behind parent l)) (sym (append-nil before)) (ended_more low high (behind parent before) le room.ended);
}

pub nest_on : (parent : Option ℕ) (count low mid high : ℕ) (xs ys : List Added) → low ≤ mid → mid ≤ high
    → Nest parent count low mid xs → Nest parent (count + length xs) mid high ys → Nest parent count low high (xs ++ ys)
nest_on parent count low mid high xs ys l h x y before e room =
    let first : Fits before parent mid xs = x before e (record { holds = holds_less before parent low high low mid (omega arith) h room.holds; ended = room.ended }) in
    let longer : length (before ++ xs) ≡ count + length xs = length-append before xs ∙ ap (λ (k : ℕ). k + length xs) e in
    let second : Fits (before ++ xs) parent high ys = y (before ++ xs) longer (record { holds = holds_on before xs parent low high mid high l (omega arith) room.holds; ended = first.ended }) in
    record {
      nested = nests_on before xs ys first.nested second.nested;
      ended = subst (λ (l : List Added). AllEnded high (behind parent l)) (append_assoc before xs ys) second.ended;
    }

pub nest_more : (parent : Option ℕ) (count low high low' high' : ℕ) (xs : List Added) → low' ≤ low → high ≤ high' → Nest parent count low high xs → Nest parent count low' high' xs
nest_more parent count low high low' high' xs l h x before e room =
    let fits : Fits before parent high xs = x before e (record {
      holds = holds_less before parent low' high' low high l h room.holds;
      ended = ended_more low' low (behind parent before) l room.ended;
    }) in
    record { nested = fits.nested; ended = ended_more high high' (behind parent (before ++ xs)) h fits.ended }

pub nest_at : (parent : Option ℕ) (count count' low high : ℕ) (xs : List Added) → count ≡ count' → Nest parent count low high xs → Nest parent count' low high xs
nest_at parent count count' low high xs e x before f room = x before (f ∙ sym e) room

-- a region and those inside it
pub nest_tree : (parent : Option ℕ) (count first last : ℕ) (r : Added) (inside : List Added) → r.first ≡ first → r.last ≡ last → r.parent ≡ parent → first ≤ last
    → Nest (Some count) (suc count) first last inside → Nest parent count first (suc last) (r ∷ inside)
nest_tree parent count first last r inside ef el ep le nest before e room =
    let own : List Added = before ++ r ∷ [] in
    let within : Fits own (Some count) last inside = nest own (length-append before (r ∷ []) ∙ omega (arith, e)) (record {
      holds = record { region = r; there = subst (λ (k : ℕ). slice_get own k ≡ Some r) e (get_behind before [] r); first = omega (arith, ef); last = omega (arith, el) };
      ended = subst (λ (k : ℕ). AllEnded first (drop (suc k) own)) e (subst (AllEnded first) (sym (drop_behind before [] r)) tt);
    }) in
    let all : List Added = before ++ r ∷ inside in
    let same : own ++ inside ≡ all = append_assoc before (r ∷ []) inside in
    let behind_own : drop (suc count) all ≡ inside = subst (λ (k : ℕ). drop (suc k) all ≡ inside) e (drop_behind before inside r) in
    let inner : AllEnded last inside = subst (AllEnded last) behind_own (subst (λ (l : List Added). AllEnded last (drop (suc count) l)) same within.ended) in
    let lt : r.last < suc last = omega (arith, el) in
    record {
      nested = and_from (can_add before r.first r.last r.parent) (nests_behind own inside)
          (ap (λ (k : ℕ). can_add before k r.last r.parent) ef
          ∙ ap (λ (k : ℕ). can_add before first k r.parent) el
          ∙ ap (λ (o : Option ℕ). can_add before first last o) ep
          ∙ can_add_in before parent first last (suc last) le (omega arith) room) within.nested;
      ended = subst (AllEnded (suc last)) (sym (behind_on before (r ∷ inside) parent first (suc last) room.holds))
          (ended_on (suc last) (behind parent before) (r ∷ inside) (ended_more first (suc last) (behind parent before) (omega (arith, le)) room.ended)
          (lt, ended_more last (suc last) inside (omega arith) inner));
    }

-- Places of regions below a number.

abbrev pub AllTargets : ℕ → List Arm → Type 0
AllTargets count [] = Unit {0}
AllTargets count (a ∷ arms) = (a.target < count) × AllTargets count arms

pub targets_on : (count : ℕ) (xs ys : List Arm) → AllTargets count xs → AllTargets count ys → AllTargets count (xs ++ ys)
targets_on count [] ys x y = y
targets_on count (a ∷ xs) ys x y = (x.0, targets_on count xs ys x.1 y)

pub targets_more : (count more : ℕ) (xs : List Arm) → count ≤ more → AllTargets count xs → AllTargets more xs
targets_more count more [] le x = tt
targets_more count more (a ∷ xs) le x = let lt = x.0 in (omega (arith, lt, le), targets_more count more xs le x.1)

pub record Placed (count : ℕ) (r : Added) : Type 0 where
  pub first : r.first < count
  pub last : r.last < count
  pub targets : AllTargets count r.arms

abbrev pub AllPlaced : ℕ → List Added → Type 0
AllPlaced count [] = Unit {0}
AllPlaced count (r ∷ rs) = Placed count r × AllPlaced count rs

pub placed_on : (count : ℕ) (xs ys : List Added) → AllPlaced count xs → AllPlaced count ys → AllPlaced count (xs ++ ys)
placed_on count [] ys x y = y
placed_on count (r ∷ xs) ys x y = (x.0, placed_on count xs ys x.1 y)

pub placed_more : (count more : ℕ) (xs : List Added) → count ≤ more → AllPlaced count xs → AllPlaced more xs
placed_more count more [] le x = tt
placed_more count more (r ∷ xs) le x =
    let p : Placed count r = x.0 in
    (record { first = omega (arith, p.first, le); last = omega (arith, p.last, le); targets = targets_more count more r.arms le p.targets }, placed_more count more xs le x.1)

targets_tested : (count : ℕ) (arms : List Arm) → AllTargets count arms → list_all (λ (a : Arm). nat_lt a.target count) arms ≡ true
targets_tested count [] x = refl
targets_tested count (a ∷ arms) x =
    and_from (nat_lt a.target count) (list_all (λ (a : Arm). nat_lt a.target count) arms) (lt-ltb a.target count x.0) (targets_tested count arms x.1)

placed_tested : (count : ℕ) (r : Added) → Placed count r → is_placed count r ≡ true
placed_tested count r p =
    and_from (nat_lt r.first count) (nat_lt r.last count && list_all (λ (a : Arm). nat_lt a.target count) r.arms) (lt-ltb r.first count p.first)
    (and_from (nat_lt r.last count) (list_all (λ (a : Arm). nat_lt a.target count) r.arms) (lt-ltb r.last count p.last) (targets_tested count r.arms p.targets))

pub all_placed_tested : (count : ℕ) (rs : List Added) → AllPlaced count rs → list_all (is_placed count) rs ≡ true
all_placed_tested count [] x = refl
all_placed_tested count (r ∷ rs) x = and_from (is_placed count r) (list_all (is_placed count) rs) (placed_tested count r x.0) (all_placed_tested count rs x.1)
