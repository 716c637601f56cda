-- Where a part of a routine's code stands among the routine's regions: which of them are round its places.
use Rattle.std.proofs.Common.{◌≡◌, ◌∙◌, ◌⊎◌, inl, inr, ⊎_elim, ℕ, suc, ◌<◌, ◌≤◌, Bool, true, false, List, [], ◌∷◌, length, Option, Some, slice_get, refl, ap, sym, arith}
use Rattle.std.proofs.lemmas.List.{length-append}
use Rattle.std.proofs.lemmas.Option.{same_Some, slice_get_within}
use Rattle.clu_wir.specs.Adding.{Added}
use Rattle.clu_wir.specs.Plain.{Arms, Stmt, Stmts}
use Rattle.clu_frames.specs.Plain.{Step}
use Rattle.clu_frames.specs.Plain as flat
use Rattle.clu_frames.specs.Flattening.{Made, Round, all_onto, arm_begun, arms_onto, closed, labelled, onto, opened, pushed}
use Rattle.clu_frames.specs.Regions.{begun_at, ended_at}
use Rattle.clu_flat_meaning.proofs.Runs.{Front, front_more, front_push, front_same, length_push}
use Rattle.laws_frames.proofs.Fronts.{front_all, front_arm, front_arms, front_onto}
use Rattle.laws_frames.proofs.Growing.{Grows, GrowsBy, Own, below_or, changed_length, grows_arm, grows_closed, grows_on, grows_push}
use Rattle.laws_frames.proofs.Lying.{all_grow, arms_grow, onto_grows}
use Rattle.laws_frames.proofs.Seeking.{begins_after, ended_before, last_of, round_at, round_in, seat}

-- What a part of the code adds, where the regions from a number on are left.
pub record Part (low : ℕ) (m m' : Made) : Type 0 where
  pub front : Front m.code m'.code
  pub code : length m.code ≤ length m'.code
  pub count : length m.regions ≤ length m'.regions
  pub kept : (k : ℕ) → low ≤ k → k < length m.regions → slice_get m'.regions k ≡ slice_get m.regions k
  pub new : (k : ℕ) (r : Added) → slice_get m'.regions k ≡ Some r → length m.regions ≤ k → (length m.code ≤ r.first) × (r.last < length m'.code)

pub part_all : {low : ℕ} (m m' : Made) → Front m.code m'.code → Grows m m' → Part low m m'
part_all m m' f g = record { front = f; code = (g 0).code; count = (g 0).count; kept = λ k l h. (g (suc k)).kept k h (λ e. omega (arith, e)); new = λ k r h l. (g 0).new k r h l }

pub part_by : {low : ℕ} (region : ℕ) (m m' : Made) → region < low → Front m.code m'.code → GrowsBy region m m' → Part low m m'
part_by region m m' under f g = record { front = f; code = g.code; count = g.count; kept = λ k l h. g.kept k h (λ e. omega (arith, e, l, under)); new = λ k r h l. g.new k r h l }

pub part_then : {low : ℕ} (a b c : Made) → low ≤ length a.regions → Part low a b → Part low b c → Part low a c
part_then a b c under f g = record {
  front = front_more a.code b.code c.code f.front g.front;
  code = omega (arith, f.code, g.code);
  count = omega (arith, f.count, g.count);
  kept = λ k l h. g.kept k l (omega (arith, h, f.count)) ∙ f.kept k l h;
  new = λ k r h l. ⊎_elim
      (λ (i : k < length b.regions). let z = f.new k r (sym (g.kept k (omega (arith, under, l)) i) ∙ h) l in (omega (arith, z.0), omega (arith, z.1, g.code)))
      (λ (i : length b.regions ≤ k). let z = g.new k r h i in (omega (arith, z.0, f.code), omega (arith, z.1)))
      (below_or k (length b.regions));
}

pub part_less : {low high : ℕ} (m m' : Made) → low ≤ high → Part low m m' → Part high m m'
part_less m m' le p = record { front = p.front; code = p.code; count = p.count; kept = λ k l h. p.kept k (omega (arith, l, le)) h; new = p.new }

-- what adds code alone
pub part_still : {low : ℕ} (m m' : Made) → Front m.code m'.code → m'.regions ≡ m.regions → length m.code ≤ length m'.code → Part low m m'
part_still m m' f e l = part_all m m' f (λ skip. grows_on m m' e l)

pub part_push : {low : ℕ} (step : Step) (m : Made) → Part low m (pushed step m)
part_push step m = part_all m (pushed step m) (front_push m.code step) (λ skip. grows_push step m)

pub part_labels : {low : ℕ} (count : ℕ) (m : Made) → Part low m (labelled count m)
part_labels count m = part_still m (labelled count m) (front_same m.code) refl (omega arith)

pub part_onto : {low : ℕ} (s : Stmt) (round : Round) (m : Made) → Part low m (onto s round m)
part_onto s round m = part_all m (onto s round m) (front_onto s round m) (onto_grows s round m)

pub part_list : {low : ℕ} (ss : Stmts) (round : Round) (m : Made) → Part low m (all_onto ss round m)
part_list ss round m = part_all m (all_onto ss round m) (front_all ss round m) (all_grow ss round m)

pub part_arms : {low : ℕ} (arms : Arms) (label end region : ℕ) (round : Round) (m : Made) → region < low → region < length m.regions → Part low m (arms_onto arms label end region round m)
part_arms arms label end region round m under there = part_by region m _ under (front_arms arms label end region round m) (arms_grow arms label end region round m there)

pub part_arm : {low : ℕ} (names : List (List ℕ)) (others : Bool) (slots : List ℕ) (region mark : ℕ) (m : Made) → region < low → region < length m.regions → Part low m (arm_begun names others slots region mark m)
part_arm names others slots region mark m under there = part_by region m _ under (front_arm names others slots region mark m) (grows_arm names others slots region mark m there)

module _ (code : List Step) (rs : List Added) where
  -- The places of a part are in the regions round it, beside those that it adds; the last place of the region that it stands in is in
  -- none of these, and in none that come later.
  pub record Stands (round : Round) (m m' : Made) : Type 0 where
    pub front : Front m'.code code
    pub here : (i k : ℕ) (r : Added) → slice_get rs k ≡ Some r → k < length m.regions → length m.code ≤ i → i < length m'.code → round_at i r ≡ round_at (seat rs round.region) r
    pub apart : (k : ℕ) (r : Added) → slice_get rs k ≡ Some r → length m.regions ≤ k → round_at (seat rs round.region) r ≡ false
    pub kept : (k : ℕ) → length m.regions ≤ k → k < length m'.regions → slice_get rs k ≡ slice_get m'.regions k
    pub behind : (k : ℕ) (r : Added) → slice_get rs k ≡ Some r → length m'.regions ≤ k → length m'.code ≤ r.first

  -- a part of a part
  pub stands_part : (round : Round) (m a b m' : Made) → Stands round m m' → Part (length m.regions) m a → Part (length m.regions) a b → Part (length m.regions) b m' → Stands round a b
  stands_part round m a b m' s p q t = record {
    front = front_more b.code m'.code code t.front s.front;
    here = λ i k r h x low high. before i k r h x low high (below_or k (length m.regions));
    apart = λ k r h l. s.apart k r h (omega (arith, l, p.count));
    kept = λ k l g. s.kept k (omega (arith, l, p.count)) (omega (arith, g, t.count)) ∙ t.kept k (omega (arith, l, p.count)) g;
    behind = λ k r h x. later k r h x (below_or k (length m'.regions));
  }
    where
      before : (i k : ℕ) (r : Added) → slice_get rs k ≡ Some r → k < length a.regions → length a.code ≤ i → i < length b.code → (k < length m.regions) ⊎ (length m.regions ≤ k) → round_at i r ≡ round_at (seat rs round.region) r
      before i k r h x low high (inl under) = s.here i k r h under (omega (arith, low, p.code)) (omega (arith, high, t.code))
      before i k r h x low high (inr own) =
          let in_b : slice_get rs k ≡ slice_get b.regions k = s.kept k own (omega (arith, x, q.count, t.count)) ∙ t.kept k own (omega (arith, x, q.count)) in
          let z = p.new k r (sym (in_b ∙ q.kept k own x) ∙ h) own in
          ended_before i r (omega (arith, z.1, low)) ∙ sym (s.apart k r h own)

      later : (k : ℕ) (r : Added) → slice_get rs k ≡ Some r → length b.regions ≤ k → (k < length m'.regions) ⊎ (length m'.regions ≤ k) → length b.code ≤ r.first
      later k r h x (inr over) = omega (arith, s.behind k r h over, t.code)
      later k r h x (inl within) =
          let own : length m.regions ≤ k = omega (arith, x, p.count, q.count) in
          (t.new k r (sym (s.kept k own within) ∙ h) x).0

  -- the first of two parts, and the second
  pub stands_first : (round : Round) (m b m' : Made) → Stands round m m' → Part (length m.regions) m b → Part (length m.regions) b m' → Stands round m b
  stands_first round m b m' s p t = stands_part round m m b m' s (part_still m m (front_same m.code) refl (omega arith)) p t

  pub stands_second : (round : Round) (m a m' : Made) → Stands round m m' → Part (length m.regions) m a → Part (length m.regions) a m' → Stands round a m'
  stands_second round m a m' s p q = stands_part round m a m' m' s p q (part_still m' m' (front_same m'.code) refl (omega arith))

  -- the same in other surroundings that are in the same region
  pub stands_in : (round other : Round) (m m' : Made) → other.region ≡ round.region → Stands round m m' → Stands other m m'
  stands_in round other m m' e s = record {
    front = s.front;
    here = λ i k r h o low high. s.here i k r h o low high ∙ ap (λ (x : Option ℕ). round_at (seat rs x) r) (sym e);
    apart = λ k r h l. ap (λ (x : Option ℕ). round_at (seat rs x) r) e ∙ s.apart k r h l;
    kept = s.kept;
    behind = s.behind;
  }

  -- A list with its region, which ends with a jump, and what comes after it.
  module _ (round : Round) (count end : ℕ) (m : Made) (m2 m' : Made) where
    abbrev n : ℕ
    n = length m.regions

    abbrev m1 : Made
    m1 = opened round.region (labelled count m)

    abbrev m3 : Made
    m3 = closed n end m2

    module _ (s : Stands round m m') (inner : Part (suc n) m1 m2) (after : Part (suc n) m3 m') (own : Own n (length m.code) (length m2.code) m') where
      one : length m1.regions ≡ suc n
      one = length-append m.regions (begun_at (length m.code) round.region ∷ []) ∙ omega arith

      three : length m3.code ≡ suc (length m2.code)
      three = length_push m2.code (flat.Jump end)

      same3 : length m3.regions ≡ length m2.regions
      same3 = changed_length (ended_at (length m2.code)) n m2.regions

      -- behind the list
      late : Part (suc n) m2 m'
      late = part_then m2 m3 m' (omega (arith, one, inner.count)) (part_by n m2 m3 (omega arith) (front_push m2.code (flat.Jump end)) (grows_closed n end m2)) after

      there : n < length m'.regions
      there = slice_get_within m'.regions n own.region own.is

      pub is_own : slice_get rs n ≡ Some own.region
      is_own = s.kept n (omega arith) there ∙ own.is

      pub seat_own : seat rs (Some n) ≡ length m2.code
      seat_own = ap last_of is_own ∙ own.ends

      -- the last place of the region is one of the whole
      low2 : length m.code ≤ length m2.code
      low2 = inner.code

      high2 : length m2.code < length m'.code
      high2 = omega (arith, three, after.code)

      -- regions of the list have ended before its last place, and those after it begin later
      in_list : (k : ℕ) (r : Added) → slice_get rs k ≡ Some r → suc n ≤ k → k < length m2.regions → (length m.code ≤ r.first) × (r.last < length m2.code)
      in_list k r h l g =
          inner.new k r (sym (s.kept k (omega (arith, l)) (omega (arith, g, late.count)) ∙ late.kept k l g) ∙ h) (omega (arith, l, one))

      behind_list : (k : ℕ) (r : Added) → slice_get rs k ≡ Some r → length m2.regions ≤ k → (k < length m'.regions) ⊎ (length m'.regions ≤ k) → suc (length m2.code) ≤ r.first
      behind_list k r h l (inr over) = omega (arith, s.behind k r h over, high2)
      behind_list k r h l (inl g) = let z = after.new k r (sym (s.kept k (omega (arith, l, one, inner.count)) g) ∙ h) (omega (arith, l, same3)) in omega (arith, z.0, three)

      is_region : (k : ℕ) (r : Added) → slice_get rs k ≡ Some r → k ≡ n → own.region ≡ r
      is_region k r h e = same_Some own.region r (sym is_own ∙ ap (slice_get rs) (sym e) ∙ h)

      own_first : (k : ℕ) (r : Added) → slice_get rs k ≡ Some r → k ≡ n → r.first ≡ length m.code
      own_first k r h e = ap (λ (x : Added). x.first) (sym (is_region k r h e)) ∙ own.begins

      own_last : (k : ℕ) (r : Added) → slice_get rs k ≡ Some r → k ≡ n → r.last ≡ length m2.code
      own_last k r h e = ap (λ (x : Added). x.last) (sym (is_region k r h e)) ∙ own.ends

      -- places of the list and its end are in the same regions
      inside_at : (i k : ℕ) (r : Added) → slice_get rs k ≡ Some r → k < length m1.regions → length m.code ≤ i → i < length m2.code → (k < n) ⊎ (n ≤ k) → round_at i r ≡ round_at (length m2.code) r
      inside_at i k r h l low high (inl x) = s.here i k r h x low (omega (arith, high, high2)) ∙ sym (s.here (length m2.code) k r h x low2 high2)
      inside_at i k r h l low high (inr x) =
          let e : k ≡ n = omega (arith, l, one, x) in
          let first = own_first k r h e in
          let last = own_last k r h e in
          round_in i r (omega (arith, first, low)) (omega (arith, last, high)) ∙ sym (round_in (length m2.code) r (omega (arith, first, low2)) (omega (arith, last)))

      -- The last place of the region is in it and in the regions round it, and no others.

      pub at_own : round_at (length m2.code) own.region ≡ true
      at_own = let first = own.begins in let last = own.ends in round_in (length m2.code) own.region (omega (arith, first, low2)) (omega (arith, last))

      pub outside_own : round_at (seat rs round.region) own.region ≡ false
      outside_own = s.apart n own.region is_own (omega arith)

      pub same_below : (k : ℕ) (r : Added) → slice_get rs k ≡ Some r → k < n → round_at (length m2.code) r ≡ round_at (seat rs round.region) r
      same_below k r h l = s.here (length m2.code) k r h l low2 high2

      pub none_above : (k : ℕ) (r : Added) → slice_get rs k ≡ Some r → n < k → round_at (length m2.code) r ≡ false
      none_above k r h l = ⊎_elim
          (λ (x : k < length m2.regions). let z = in_list k r h l x in ended_before (length m2.code) r z.1)
          (λ (x : length m2.regions ≤ k). let z = behind_list k r h x (below_or k (length m'.regions)) in begins_after (length m2.code) r (omega (arith, z)))
          (below_or k (length m2.regions))

      pub stands_list : (inside : Round) → inside.region ≡ Some n → Stands inside m1 m2
      stands_list inside e =
          let is : seat rs inside.region ≡ length m2.code = ap (seat rs) e ∙ seat_own in
          record {
            front = front_more m2.code m'.code code late.front s.front;
            here = λ i k r h o low high. inside_at i k r h o low high (below_or k n) ∙ ap (λ (x : ℕ). round_at x r) (sym is);
            apart = λ k r h l. ap (λ (x : ℕ). round_at x r) is ∙ none_above k r h (omega (arith, l, one));
            kept = λ k l g. s.kept k (omega (arith, l, one)) (omega (arith, g, late.count)) ∙ late.kept k (omega (arith, l, one)) g;
            behind = λ k r h l. let z = behind_list k r h l (below_or k (length m'.regions)) in omega (arith, z);
          }

      -- what comes after the list is in the regions round the whole
      after_at : (i k : ℕ) (r : Added) → slice_get rs k ≡ Some r → k < length m3.regions → length m3.code ≤ i → i < length m'.code → (k < n) ⊎ (n ≤ k) → (n < k) ⊎ (k ≤ n) → round_at i r ≡ round_at (seat rs round.region) r
      after_at i k r h x low high (inl under) o = s.here i k r h under (omega (arith, low, three, low2)) high
      after_at i k r h x low high (inr at) (inl above) =
          let z = in_list k r h above (omega (arith, x, same3)) in
          ended_before i r (omega (arith, z.1, low, three)) ∙ sym (s.apart k r h at)
      after_at i k r h x low high (inr at) (inr under) =
          let last = own_last k r h (omega (arith, at, under)) in
          ended_before i r (omega (arith, last, low, three)) ∙ sym (s.apart k r h at)

      pub stands_after : Stands round m3 m'
      stands_after = record {
        front = s.front;
        here = λ i k r h x low high. after_at i k r h x low high (below_or k n) (below_or n k);
        apart = λ k r h l. s.apart k r h (omega (arith, l, same3, inner.count, one));
        kept = λ k l g. s.kept k (omega (arith, l, same3, inner.count, one)) g;
        behind = s.behind;
      }
