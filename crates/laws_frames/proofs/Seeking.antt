-- The arm that the regions of a routine give at a place: it is that of each place which the same regions are round.
use Rattle.std.proofs.Common.{◌≡◌, ◌∙◌, ℕ, zero, suc, ◌<◌, ◌≤◌, Bool, true, false, List, [], ◌∷◌, Option, Some, None, slice_get, refl, ap, sym, arith}
use Rattle.std.specs.Prelude.{if◌then◌else◌, ◌&&◌, nat_le}
use Rattle.std.proofs.lemmas.Bool.Decides.{nat_tests}
use Rattle.clu_base.proofs.Lists.{none_is_not}
use Rattle.clu_wir.specs.Adding.{Added}
use Rattle.clu_flat_meaning.specs.Image.{FlatArm}
use Rattle.clu_flat_meaning.specs.Machine.{arm_at, arm_from, arm_in, or_else}
use Rattle.clu_flat_meaning.proofs.Runs.{both_so}
use Rattle.laws_frames.specs.Tables.{flat_region, table_of}

-- the place that stands for a region: its last one, which no region inside of it is round
abbrev pub last_of : Option Added → ℕ
last_of None = 0
last_of (Some r) = r.last

abbrev pub seat : List Added → Option ℕ → ℕ
seat rs None = 0
seat rs (Some n) = last_of (slice_get rs n)

-- the arm that takes a name in a region
abbrev pub seek_in : (List ℕ → ℕ) → List Added → Option ℕ → ℕ → Option FlatArm
seek_in word rs region v = arm_at (table_of word rs) (seat rs region) v

abbrev pub round_at : ℕ → Added → Bool
round_at i r = nat_le r.first i && nat_le i r.last

by_false : (b : Bool) (x o : Option FlatArm) → b ≡ false → or_else (if b then x else None) o ≡ o
by_false b x o e = rw e refl

by_true : (b : Bool) (x o : Option FlatArm) → b ≡ true → or_else (if b then x else None) o ≡ or_else x o
by_true b x o e = rw e refl

module _ (word : List ℕ → ℕ) (v : ℕ) where
  abbrev arms : Added → Option FlatArm
  arms r = arm_in v (flat_region word r)

  abbrev from : Option FlatArm → List Added → ℕ → Option FlatArm
  from o rs i = arm_from o (table_of word rs) i v

  -- the same regions are round both
  pub same_from : (rs : List Added) (o : Option FlatArm) (i j : ℕ) → ((k : ℕ) (r : Added) → slice_get rs k ≡ Some r → round_at i r ≡ round_at j r) → from o rs i ≡ from o rs j
  unfolding arm_from
  same_from [] o i j same = refl
  same_from (r ∷ rs) o i j same =
      ap (λ (b : Bool). from (or_else (if b then arms r else None) o) rs i) (same 0 r refl)
      ∙ same_from rs (or_else (if round_at j r then arms r else None) o) i j (λ k x e. same (suc k) x e)

  -- none is round it
  pub none_from : (rs : List Added) (o : Option FlatArm) (i : ℕ) → ((k : ℕ) (r : Added) → slice_get rs k ≡ Some r → round_at i r ≡ false) → from o rs i ≡ o
  unfolding arm_from
  none_from [] o i apart = refl
  none_from (r ∷ rs) o i apart =
      none_from rs (or_else (if round_at i r then arms r else None) o) i (λ k x e. apart (suc k) x e) ∙ by_false (round_at i r) (arms r) o (apart 0 r refl)

  -- one region more is round the first, and none after it
  pub one_more : (rs : List Added) (n : ℕ) (own : Added) (o : Option FlatArm) (i j : ℕ) → slice_get rs n ≡ Some own → round_at i own ≡ true → round_at j own ≡ false →
      ((k : ℕ) (r : Added) → slice_get rs k ≡ Some r → k < n → round_at i r ≡ round_at j r) →
      ((k : ℕ) (r : Added) → slice_get rs k ≡ Some r → n < k → round_at i r ≡ false) → ((k : ℕ) (r : Added) → slice_get rs k ≡ Some r → n < k → round_at j r ≡ false) →
      from o rs i ≡ or_else (arms own) (from o rs j)
  unfolding arm_from
  one_more [] n own o i j is t f same above over = none_is_not own is
  one_more (r ∷ rs) zero own o i j is t f same above over =
      let e : r ≡ own = cc in
      none_from rs (or_else (if round_at i r then arms r else None) o) i (λ k x h. above (suc k) x h (omega arith))
      ∙ by_true (round_at i r) (arms r) o (ap (round_at i) e ∙ t)
      ∙ ap (λ (x : Added). or_else (arms x) o) e
      ∙ sym (ap (or_else (arms own)) (none_from rs (or_else (if round_at j r then arms r else None) o) j (λ k x h. over (suc k) x h (omega arith)) ∙ by_false (round_at j r) (arms r) o (ap (round_at j) e ∙ f)))
  one_more (r ∷ rs) (suc n) own o i j is t f same above over =
      ap (λ (b : Bool). from (or_else (if b then arms r else None) o) rs i) (same 0 r refl (omega arith))
      ∙ one_more rs n own (or_else (if round_at j r then arms r else None) o) i j is t f
      (λ k x h l. same (suc k) x h (omega (arith, l))) (λ k x h l. above (suc k) x h (omega (arith, l))) (λ k x h l. over (suc k) x h (omega (arith, l)))

-- Tests of places.

by_low : (a b : Bool) → a ≡ false → a && b ≡ false
by_low a b e = rw e refl

by_high : (a b : Bool) → b ≡ false → a && b ≡ false
by_high true b e = e
by_high false b e = refl

pub round_in : (i : ℕ) (r : Added) → r.first ≤ i → i ≤ r.last → round_at i r ≡ true
round_in i r low high = both_so (nat_le r.first i) (nat_le i r.last) (grind (arith, nat_tests, low)) (grind (arith, nat_tests, high))

pub ended_before : (i : ℕ) (r : Added) → r.last < i → round_at i r ≡ false
ended_before i r l = by_high (nat_le r.first i) (nat_le i r.last) (grind (arith, nat_tests, l))

pub begins_after : (i : ℕ) (r : Added) → i < r.first → round_at i r ≡ false
begins_after i r l = by_low (nat_le r.first i) (nat_le i r.last) (grind (arith, nat_tests, l))
