-- The last place stays, so bounds and targets of regions are places of what is left.
use Rattle.std.proofs.Common.{◌≡◌, ℕ, zero, suc, ◌+◌, ◌<◌, ◌≤◌, ◌==◌, List, [], ◌∷◌, ◌++◌, length, map, Bool, true, false, cond, not, ◌&&◌, IsTrue, nat_lt, refl, sym, ◌∙◌, ap, subst, arith, lt-ltb, ltb-true, le-ltb, eqb-true, eq-eqb, filter}
use Rattle.std.specs.List.{AllZip, list_all}
use Rattle.std.proofs.lemmas.Bool.{and_from, and_parts, false≢true, not_from_true}
use Rattle.std.proofs.lemmas.List.{length-map}
use Rattle.clu_wir.specs.Adding.{is_placed}
use Rattle.clu_wir.specs.declared.region.Arm.{Arm}
use Rattle.clu_frames.specs.Labels.{at_last, goes_on}
use Rattle.clu_frames.specs.declared.flat.Flat.{Flat}
use Rattle.clu_frames.specs.Plain.{Step, plain_code, step_of}
use Rattle.clu_handlers.specs.declared.region.Region.{Region}
use Rattle.clu_handlers.specs.Seen.{seen}
use Rattle.clu_peep.specs.declared.places.Place.{Place}
use Rattle.clu_peep.specs.Left.{Removed, begins, goes, marked, passed, places}
use Rattle.clu_peep.specs.Moved.{IsMoved, before, has_place, moved_arm, staying}
use Rattle.clu_peep.specs.Peeped.{IsPeeped}
use Rattle.clu_peep.proofs.Gone.{what_goes}

end_goes_on : (front : List Place) (x : Place) → goes front x [] ≡ true → goes_on (step_of x.step) ≡ true
end_goes_on front x e = (what_goes front x [] e).last refl

-- The last place, which goes on to no next one, by its number.

abbrev ends_at : ℕ → Place → Bool
ends_at n x = (x.number + 1 == n) && not (goes_on (step_of x.step))

last_behind : (test : Place → Bool) (front : List Place) (y : Place) (back : List Place) → at_last test (front ++ y ∷ back) ≡ at_last test (y ∷ back)
last_behind test [] y back = refl
last_behind test (x ∷ []) y back = refl
last_behind test (x ∷ z ∷ front) y back = last_behind test (z ∷ front) y back

last_marked : (n : ℕ) (mark : Bool) (y : Place) (back : List Place) → at_last (ends_at n) (marked mark y ∷ back) ≡ at_last (ends_at n) (y ∷ back)
last_marked n mark y [] = refl
last_marked n mark y (z ∷ back) = refl

last_of_back : (n : ℕ) (front : List Place) (x : Place) (back : List Place) → goes front x back ≡ true → at_last (ends_at n) (front ++ x ∷ back) ≡ true → at_last (ends_at n) (front ++ passed x.is_target back) ≡ true
last_of_back n front x [] row e =
    let last = sym (last_behind (ends_at n) front x []) ∙ e in
    let stops = (and_parts (x.number + 1 == n) (not (goes_on (step_of x.step))) last).1 in
    absurd (false≢true (sym (not_from_true (goes_on (step_of x.step)) (end_goes_on front x row)) ∙ stops))
last_of_back n front x (y ∷ back) row e =
    last_behind (ends_at n) front (marked x.is_target y) back ∙ last_marked n x.is_target y back
    ∙ sym (last_behind (ends_at n) front x (y ∷ back)) ∙ e

last_left : (n count : ℕ) (a b : List Place) → Removed count a b → at_last (ends_at n) a ≡ true → at_last (ends_at n) b ≡ true
last_left n zero a b r e = subst (λ (l : List Place). at_last (ends_at n) l ≡ true) r e
last_left n (suc count) a b r e =
    let one = r.2 in
    let between = last_left n count a r.0 r.1 e in
    subst (λ (l : List Place). at_last (ends_at n) l ≡ true) (sym one.is)
    (last_of_back n one.front one.gone one.back one.row (subst (λ (l : List Place). at_last (ends_at n) l ≡ true) one.was between))

last_place : (targets : ℕ → Bool) (k n : ℕ) (code : List Flat) → k + length code ≡ n → at_last (λ (step : Step). not (goes_on step)) (plain_code code) ≡ true → at_last (ends_at n) (places targets k code) ≡ true
last_place targets k n [] e ends = absurd (false≢true ends)
last_place targets k n (s ∷ []) e ends = and_from (k + 1 == n) (not (goes_on (step_of s))) (eq-eqb (k + 1) n (omega (arith, e))) ends
last_place targets k n (s ∷ t ∷ code) e ends = last_place targets (k + 1) n (t ∷ code) (omega (arith, e)) ends

-- Places of what is left.

abbrev numbers : List Place → List ℕ
numbers ps = map (λ (x : Place). x.number) ps

cond_within : (b : Bool) (m n : ℕ) → m < n → cond b (suc m) m < suc n
cond_within true m n lt = omega (arith, lt)
cond_within false m n lt = omega (arith, lt)

target_within : (n place : ℕ) (left : List Place) → at_last (ends_at n) left ≡ true → place < n → before (numbers left) place < length left
target_within n place [] e lt = absurd (false≢true e)
target_within n place (x ∷ []) e lt =
    let last = eqb-true (x.number + 1) n (and_parts (x.number + 1 == n) (not (goes_on (step_of x.step))) e).0 in
    let no : nat_lt x.number place ≡ false = le-ltb x.number place (omega (arith, last, lt)) in
    subst (λ (b : Bool). cond b (suc 0) 0 < suc 0) (sym no) (omega arith)
target_within n place (x ∷ y ∷ left) e lt =
    cond_within (nat_lt x.number place) (before (numbers (y ∷ left)) place) (length (y ∷ left)) (target_within n place (y ∷ left) e lt)

cond_fits : (b : Bool) (m n : ℕ) → m ≤ n → cond b (suc m) m ≤ suc n
cond_fits true m n le = omega (arith, le)
cond_fits false m n le = omega (arith, le)

before_fits : (left : List ℕ) (place : ℕ) → before left place ≤ length left
before_fits [] place = omega arith
before_fits (n ∷ left) place = cond_fits (nat_lt n place) (before left place) (length left) (before_fits left place)

module _ (n : ℕ) (left : List Place) (last : at_last (ends_at n) left ≡ true) (stays : List Bool) where
  arms_placed : (arms : List Arm) → list_all (λ (a : Arm). nat_lt a.target n) arms ≡ true → list_all (λ (a : Arm). nat_lt a.target (length left)) (map (moved_arm (numbers left)) arms) ≡ true
  arms_placed [] e = refl
  arms_placed (a ∷ arms) e =
      let parts = and_parts (nat_lt a.target n) (list_all (λ (b : Arm). nat_lt b.target n) arms) e in
      and_from (nat_lt (before (numbers left) a.target) (length left)) (list_all (λ (b : Arm). nat_lt b.target (length left)) (map (moved_arm (numbers left)) arms))
      (lt-ltb (before (numbers left) a.target) (length left) (target_within n a.target left last (ltb-true a.target n parts.0)))
      (arms_placed arms parts.1)

  region_placed : (r r' : Region) → has_place (numbers left) r ≡ true → IsMoved (numbers left) stays r r' → is_placed n (seen r) ≡ true → is_placed (length left) (seen r') ≡ true
  region_placed r r' has m e =
      let parts = and_parts (nat_lt r.first n) (nat_lt r.last n && list_all (λ (a : Arm). nat_lt a.target n) r.arms.items) e in
      let more = and_parts (nat_lt r.last n) (list_all (λ (a : Arm). nat_lt a.target n) r.arms.items) parts.1 in
      let lt = ltb-true (before (numbers left) r.first) (before (numbers left) (r.last + 1)) has in
      let fits = before_fits (numbers left) (r.last + 1) in
      let same = length-map left (λ (x : Place). x.number) in
      and_from (nat_lt r'.first (length left)) (nat_lt r'.last (length left) && list_all (λ (a : Arm). nat_lt a.target (length left)) r'.arms.items)
      (lt-ltb r'.first (length left) (omega (arith, lt, fits, same, m.first)))
      (and_from (nat_lt r'.last (length left)) (list_all (λ (a : Arm). nat_lt a.target (length left)) r'.arms.items)
      (lt-ltb r'.last (length left) (omega (arith, fits, same, m.last)))
      (subst (λ (l : List Arm). list_all (λ (a : Arm). nat_lt a.target (length left)) l ≡ true) (sym m.arms) (arms_placed r.arms.items more.1)))

  abbrev Zips : List Region → List Region → Type 0
  Zips olds news = AllZip (IsMoved (numbers left) stays) olds news

  head_placed : (r : Region) (rs news : List Region) (b : Bool) → has_place (numbers left) r ≡ b → is_placed n (seen r) ≡ true
      → ((ns : List Region) → Zips (filter (has_place (numbers left)) rs) ns → list_all (is_placed (length left)) (map seen ns) ≡ true)
      → Zips (cond b (r ∷ filter (has_place (numbers left)) rs) (filter (has_place (numbers left)) rs)) news → list_all (is_placed (length left)) (map seen news) ≡ true
  head_placed r rs news false has e rest zip = rest news zip
  head_placed r rs [] true has e rest zip = refl
  head_placed r rs (y ∷ ys) true has e rest zip =
      and_from (is_placed (length left) (seen y)) (list_all (is_placed (length left)) (map seen ys)) (region_placed r y has zip.0 e) (rest ys zip.1)

  all_placed : (rs news : List Region) → list_all (is_placed n) (map seen rs) ≡ true → Zips (filter (has_place (numbers left)) rs) news → list_all (is_placed (length left)) (map seen news) ≡ true
  all_placed [] [] e zip = refl
  all_placed [] (y ∷ ys) e zip = absurd zip
  all_placed (r ∷ rs) news e zip =
      let parts = and_parts (is_placed n (seen r)) (list_all (is_placed n) (map seen rs)) e in
      head_placed r rs news (has_place (numbers left) r) refl parts.0 (λ ns z. all_placed rs ns parts.1 z) zip

pub peeped_placed : (code : List Flat) (regions : List Region) (shorter : List Flat) (moved : List Region)
    → IsTrue (at_last (λ (step : Step). not (goes_on step)) (plain_code code)) → IsTrue (list_all (is_placed (length code)) (map seen regions))
    → IsPeeped code regions shorter moved → IsTrue (list_all (is_placed (length shorter)) (map seen moved))
peeped_placed code regions shorter moved ends placed p =
    let last = last_left (length code) p.leaves.0 (places (begins regions) 0 code) p.left p.leaves.1 (last_place (begins regions) 0 (length code) code (omega arith) ends) in
    subst (λ (n : ℕ). list_all (is_placed n) (map seen moved) ≡ true)
    (sym (ap {B = ℕ} length p.steps ∙ length-map p.left (λ (x : Place). x.step)))
    (all_placed (length code) p.left last (staying (numbers p.left) regions) regions moved placed p.regions_are)
