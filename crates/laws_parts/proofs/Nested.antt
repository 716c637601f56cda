-- Regions that nest: from the innermost one outward by parents the arm is that of the last region round a place.
use Rattle.std.proofs.Common.{◌≡◌, ◌∙◌, ◌⊎◌, inl, inr, ℕ, zero, suc, ◌+◌, ◌-◌, ◌<◌, ◌≤◌, Bool, true, false, List, [], ◌∷◌, length, slice_get, Option, Some, None, refl, ap, sym, subst, arith}
use Rattle.std.specs.Prelude.{nat_le, if◌then◌else◌}
use Rattle.std.proofs.lemmas.Bool.Decides.{nat_tests}
use Rattle.std.proofs.lemmas.Bool.{and_parts}
use Rattle.laws_parts.specs.Regions.{FlatArm, FlatRegion, arm_behind, first_arm, is_round, or_before}
use Rattle.laws_parts.specs.Tables.{Behind, Nest, walk, walk_in}
use Rattle.laws_parts.specs.Tables as table

module _ (rs : List FlatRegion) (nest : Nest rs) (step name : ℕ) where
  abbrev last_in : Option FlatRegion → ℕ → Option ℕ → Option ℕ
  last_in = table.last_in rs nest step name

  abbrev last_below : ℕ → Option ℕ
  last_below = table.last_below rs nest step name

  abbrev arm_in : Option FlatRegion → Option FlatArm → Option FlatArm
  arm_in None before = before
  arm_in (Some r) before = if is_round step r then or_before (first_arm name r.arms) before else before

  abbrev arm_below : ℕ → Option FlatArm
  arm_below zero = None
  arm_below (suc k) = arm_in (slice_get rs k) (arm_below k)

  round_is : (r : FlatRegion) → is_round step r ≡ true → (r.first ≤ step) × (step ≤ r.last)
  round_is r e = let x = and_parts (nat_le r.first step) (nat_le step r.last) e in (grind (arith, nat_tests, x.0), grind (arith, nat_tests, x.1))

  is_not : (r : FlatRegion) → (r.last < step) ⊎ (step < r.first) → is_round step r ≡ false
  is_not r (inl l) = grind (arith, nat_tests)
  is_not r (inr l) = grind (arith, nat_tests)

  is_round' : (r : FlatRegion) → r.first ≤ step → step ≤ r.last → is_round step r ≡ true
  is_round' r a b = grind (arith, nat_tests)

  outside : (n i : ℕ) (r q : FlatRegion) → slice_get rs n ≡ Some r → slice_get rs i ≡ Some q → i < n → Behind r.parent i → is_round step r ≡ true → is_round step q ≡ false
  outside n i r q e f l b round = let x = round_is r round in let lo = x.0 in let hi = x.1 in by (nest.apart n i r q e f l b)
    where
      by : (q.last < r.first) ⊎ (r.last < q.first) → is_round step q ≡ false
      by (inl d) = let x = round_is r round in let lo = x.0 in is_not q (inl (omega arith))
      by (inr d) = let x = round_is r round in let hi = x.1 in is_not q (inr (omega arith))

  -- the last before a region that is round the step is its parent
  none_before : (n : ℕ) (r : FlatRegion) → slice_get rs n ≡ Some r → r.parent ≡ None → is_round step r ≡ true → (k : ℕ) → k ≤ n → last_below k ≡ None
  none_before n r e f round zero l = refl
  none_before n r e f round (suc k) l = by (slice_get rs k) refl (none_before n r e f round k (omega arith))
    where
      by : (o : Option FlatRegion) → slice_get rs k ≡ o → last_below k ≡ None → last_in o k (last_below k) ≡ None
      by None g again = again
      by (Some q) g again = let small : k < n = omega arith in rw (outside n k r q e g small (subst (λ (o : Option ℕ). Behind o k) (sym f) tt) round) again

  parent_before : (n m : ℕ) (r q : FlatRegion) → slice_get rs n ≡ Some r → r.parent ≡ Some m → slice_get rs m ≡ Some q → is_round step r ≡ true → is_round step q ≡ true → (k : ℕ) → m + k < n → last_below (suc (m + k)) ≡ Some m
  parent_before n m r q e f at round round' zero l = let same : m + 0 ≡ m = omega arith in rw (same, at, round') refl
  parent_before n m r q e f at round round' (suc k) l = by (slice_get rs (m + suc k)) refl (parent_before n m r q e f at round round' k (omega arith))
    where
      by : (o : Option FlatRegion) → slice_get rs (m + suc k) ≡ o → last_below (suc (m + k)) ≡ Some m → last_in o (m + suc k) (last_below (m + suc k)) ≡ Some m
      by None g again = let same : m + suc k ≡ suc (m + k) = omega arith in ap last_below same ∙ again
      by (Some x) g again = let same : m + suc k ≡ suc (m + k) = omega arith in
          let behind : m < m + suc k = omega arith in
          rw (outside n (m + suc k) r x e g l (subst (λ (o : Option ℕ). Behind o (m + suc k)) (sym f) behind) round) (ap last_below same ∙ again)

  get_some : {A : Type 0} (xs : List A) (n : ℕ) → n < length xs → (P : Type 0) → ((x : A) → slice_get xs n ≡ Some x → P) → P
  get_some [] n h P f = absurd (omega arith)
  get_some (x ∷ xs) zero h P f = f x refl
  get_some (x ∷ xs) (suc n) h P f = get_some xs n (omega arith) P f

  get_inside : {A : Type 0} (xs : List A) (l : ℕ) (x : A) → slice_get xs l ≡ Some x → l < length xs
  get_inside [] l x e = absurd (cc)
  get_inside (y ∷ xs) zero x e = omega arith
  get_inside (y ∷ xs) (suc l) x e = let deeper = get_inside xs l x e in omega arith

  parent_is_last : (n : ℕ) (r : FlatRegion) → slice_get rs n ≡ Some r → is_round step r ≡ true → (o : Option ℕ) → r.parent ≡ o → last_below n ≡ o
  parent_is_last n r e round None f = none_before n r e f round n (omega arith)
  parent_is_last n r e round (Some m) f =
      let less = nest.parent n m r e f in
      let inside = get_inside rs n r e in
      get_some rs m (omega arith) (last_below n ≡ Some m) (λ q g.
      let h = nest.holds n m r q e f g in let x = round_is r round in
      let a = h.0 in let b = h.1 in let c = x.0 in let d = x.1 in
      let k = n - suc m in
      let same : suc (m + k) ≡ n = omega arith in
      ap last_below (sym same) ∙ parent_before n m r q e f g round (is_round' q (omega arith) (omega arith)) k (omega arith))

  pub last_small : (k n : ℕ) → last_below k ≡ Some n → n < k
  last_small zero n e = absurd (cc)
  last_small (suc k) n e = by (slice_get rs k) e (last_small k n)
    where
      same : (a b : ℕ) → Some a ≡ Some b → a ≡ b
      same a b e = cc

      by : (o : Option FlatRegion) → last_in o k (last_below k) ≡ Some n → (last_below k ≡ Some n → n < k) → n < suc k
      by None e again = let l = again e in omega arith
      by (Some r) e again = on (is_round step r) e
        where
          on : (b : Bool) → (if b then Some k else last_below k) ≡ Some n → n < suc k
          on true e = let is : k ≡ n = same k n e in omega arith
          on false e = let l = again e in omega arith

  -- from the innermost one outward
  pub walk_is : (k fuel : ℕ) → k ≤ fuel → walk rs name fuel (last_below k) ≡ arm_below k
  walk_is zero zero l = refl
  walk_is zero (suc f) l = refl
  walk_is (suc k) zero l = absurd (omega arith)
  walk_is (suc k) (suc f) l = by (slice_get rs k) refl (walk_is k (suc f) (omega arith)) (walk_is k f (omega arith))
    where
      by : (o : Option FlatRegion) → slice_get rs k ≡ o → walk rs name (suc f) (last_below k) ≡ arm_below k → walk rs name f (last_below k) ≡ arm_below k → walk rs name (suc f) (last_in o k (last_below k)) ≡ arm_in o (arm_below k)
      by None e same inner = same
      by (Some r) e same inner = on (is_round step r) refl
        where
          on : (b : Bool) → is_round step r ≡ b → walk rs name (suc f) (if b then Some k else last_below k) ≡ (if b then or_before (first_arm name r.arms) (arm_below k) else arm_below k)
          on true g = ap (λ (o : Option FlatRegion). walk_in name o (walk rs name f)) e
              ∙ ap (λ (o : Option ℕ). or_before (first_arm name r.arms) (walk rs name f o)) (sym (parent_is_last k r e g r.parent refl))
              ∙ ap (or_before (first_arm name r.arms)) inner
          on false g = same

  -- the arm of flat code
  behind_is : (xs : List FlatRegion) (k : ℕ) → ((i : ℕ) → slice_get rs (k + i) ≡ slice_get xs i) → arm_behind (arm_below k) xs step name ≡ arm_below (k + length xs)
  behind_is [] k h = let same : k + 0 ≡ k = omega arith in ap arm_below (sym same)
  behind_is (x ∷ xs) k h =
      let at : slice_get rs k ≡ Some x = let same : k + 0 ≡ k = omega arith in ap (slice_get rs) (sym same) ∙ h 0 in
      let more : (i : ℕ) → slice_get rs (suc k + i) ≡ slice_get xs i = λ i. let same : suc k + i ≡ k + suc i = omega arith in ap (slice_get rs) same ∙ h (suc i) in
      let next : arm_in (Some x) (arm_below k) ≡ arm_below (suc k) = ap (λ (o : Option FlatRegion). arm_in o (arm_below k)) (sym at) in
      let count : suc k + length xs ≡ k + suc (length xs) = omega arith in
      ap (λ (o : Option FlatArm). arm_behind o xs step name) next ∙ behind_is xs (suc k) more ∙ ap arm_below count

  pub walked_is : walk rs name (length rs) (last_below (length rs)) ≡ arm_behind None rs step name
  walked_is = walk_is (length rs) (length rs) (omega arith) ∙ sym (behind_is rs 0 (λ i. let same : 0 + i ≡ i = omega arith in ap (slice_get rs) same) ∙ ap arm_below (omega arith))
