-- Nothing is reached but the start and what is used by one that stands before.
use Rattle.std.proofs.Common.{◌≡◌, ◌∙◌, ◌⊎◌, inl, inr, ℕ, zero, suc, ◌+◌, ◌<◌, ◌≤◌, Bool, true, false, List, [], ◌∷◌, ◌++◌, length, take, if◌then◌else◌, Option, Some, None, slice_get, refl, ap, sym, subst, arith}
use Rattle.std.proofs.lemmas.Option.{same_Some, none-some}
use Rattle.std.proofs.lemmas.List.{length-append}
use Rattle.std.specs.List.{list_any}
use Rattle.clu_types.specs.CluType.{CluType}
use Rattle.clu_specs.specs.Seen.{Used}
use Rattle.clu_library.specs.Contents.{Contents}
use Rattle.clu_link_meaning.specs.Reach.{Fate, IsReach, IsVisit, IsWalk, Made, start_of, used_by}
use Rattle.clu_link_meaning.specs.Same.{same_used}
use Rattle.clu_link_meaning.specs.Walk.{most, with_all, with_one}
use Rattle.laws_link.specs.Reached.{UsedBefore}
use Rattle.laws_link.proofs.CodeWords.{get_front}
use Rattle.laws_link.proofs.Closure.{here_on, walk_more}

module _ {X : Type 0} where
  seam : (xs : List X) (x u : X) (i : ℕ) → slice_get (xs ++ x ∷ []) i ≡ Some u → (slice_get xs i ≡ Some u) ⊎ ((x ≡ u) × (length xs ≤ i))
  seam [] x u zero e = inr (same_Some x u e, omega arith)
  seam [] x u (suc i) e = absurd (none-some u e)
  seam (y ∷ ys) x u zero e = inl e
  seam (y ∷ ys) x u (suc i) e = by (seam ys x u i e)
    where
      by : (slice_get ys i ≡ Some u) ⊎ ((x ≡ u) × (length ys ≤ i)) → (slice_get ys i ≡ Some u) ⊎ ((x ≡ u) × (suc (length ys) ≤ suc i))
      by (inl r) = inl r
      by (inr r) = let l : length ys ≤ i = r.1 in inr (r.0, omega (arith, l))

  module _ (eq : X → X → Bool) where
    one_from : (xs : List X) (x u : X) (i : ℕ) → slice_get (with_one eq xs x) i ≡ Some u → (slice_get xs i ≡ Some u) ⊎ ((x ≡ u) × (length xs ≤ i))
    one_from xs x u i e = by (list_any (eq x) xs) e
      where
        by : (b : Bool) → slice_get (if b then xs else xs ++ x ∷ []) i ≡ Some u → (slice_get xs i ≡ Some u) ⊎ ((x ≡ u) × (length xs ≤ i))
        by true f = inl f
        by false f = seam xs x u i f

    one_longer : (xs : List X) (x : X) → length xs ≤ length (with_one eq xs x)
    one_longer xs x = by (list_any (eq x) xs)
      where
        by : (b : Bool) → length xs ≤ length (if b then xs else xs ++ x ∷ [])
        by true = omega arith
        by false = let a : length (xs ++ x ∷ []) ≡ length xs + 1 = length-append xs (x ∷ []) in omega (arith, a)

    -- what is more stands among what was added, behind what was there
    abbrev pub Added : List X → List X → ℕ → X → Type 0
    Added xs ys i u = (j : ℕ) × (slice_get ys j ≡ Some u) × (length xs ≤ i)

    pub all_from : (xs ys : List X) (i : ℕ) (u : X) → slice_get (with_all eq xs ys) i ≡ Some u → (slice_get xs i ≡ Some u) ⊎ Added xs ys i u
    all_from xs [] i u e = inl e
    all_from xs (y ∷ ys) i u e = by (all_from (with_one eq xs y) ys i u e)
      where
        first : (slice_get xs i ≡ Some u) ⊎ ((y ≡ u) × (length xs ≤ i)) → (slice_get xs i ≡ Some u) ⊎ Added xs (y ∷ ys) i u
        first (inl f) = inl f
        first (inr f) = inr (zero, ap Some f.0, f.1)

        by : (slice_get (with_one eq xs y) i ≡ Some u) ⊎ Added (with_one eq xs y) ys i u → (slice_get xs i ≡ Some u) ⊎ Added xs (y ∷ ys) i u
        by (inl f) = first (one_from xs y u i f)
        by (inr f) = let l : length xs ≤ length (with_one eq xs y) = one_longer xs y in let m : length (with_one eq xs y) ≤ i = f.2 in inr (suc f.0, f.1, omega (arith, l, m))

  pub take_short : (xs : List X) (m : ℕ) → length (take (suc m) xs) ≤ m → take (suc m) xs ≡ xs
  take_short [] m l = refl
  take_short (x ∷ xs) zero l = absurd (omega (arith, l))
  take_short (x ∷ xs) (suc m) l = ap (λ (ys : List X). x ∷ ys) (take_short xs m (omega (arith, l)))

  pub take_there : (xs : List X) (m i : ℕ) (u : X) → slice_get (take m xs) i ≡ Some u → slice_get xs i ≡ Some u
  take_there xs zero i u e = absurd (none-some u e)
  take_there [] (suc m) i u e = e
  take_there (x ∷ xs) (suc m) zero u e = e
  take_there (x ∷ xs) (suc m) (suc i) u e = take_there xs m i u e

  pub take_before : (xs : List X) (m i k : ℕ) (u v : X) → k < i → slice_get (take m xs) i ≡ Some u → slice_get xs k ≡ Some v → slice_get (take m xs) k ≡ Some v
  take_before xs zero i k u v l e f = absurd (none-some u e)
  take_before [] (suc m) i k u v l e f = f
  take_before (x ∷ xs) (suc m) zero k u v l e f = absurd (omega (arith, l))
  take_before (x ∷ xs) (suc m) (suc i) zero u v l e f = f
  take_before (x ∷ xs) (suc m) (suc i) (suc k) u v l e f = take_before xs m i k u v (omega (arith, l)) e f

module _ (made : CluType → List ℕ → Option Made) (library : Contents) where
  abbrev Least : List Used → List Used → ℕ → Used → Type 0
  Least us all i u = (slice_get us i ≡ Some u) ⊎ UsedBefore made library all i u

  least : (fs : List Fate) (n : ℕ) (us all : List Used) → IsWalk made library n us fs all → (i : ℕ) (u : Used) → slice_get all i ≡ Some u → Least us all i u
  least [] n us all w i u e = inl (subst (λ (xs : List Used). slice_get xs i ≡ Some u) w.1 e)
  least (f ∷ fs) n us all w i u e = by (least fs (suc n) (with_all same_used us (used_by f)) all w.2 i u e)
    where
      within : n < length us
      within = here_on made library us n w.0

      used : (o : Option Used) → slice_get us n ≡ o → IsVisit made library o f → Added same_used us (used_by f) i u → UsedBefore made library all i u
      used None at has a = elim has [ ]
      used (Some user) at has a =
          let m = walk_more made library (f ∷ fs) n us all w in
          let l : length us ≤ i = a.2 in
          record {
            place = n;
            user = user;
            fate = f;
            number = a.0;
            before = omega (arith, within, l);
            there = ap (λ (xs : List Used). slice_get xs n) m.1 ∙ get_front us m.0 n within ∙ at;
            has = has;
            uses = a.1;
          }

      first : (slice_get us i ≡ Some u) ⊎ Added same_used us (used_by f) i u → (slice_get us i ≡ Some u) ⊎ UsedBefore made library all i u
      first (inl g) = inl g
      first (inr g) = inr (used (slice_get us n) refl w.1 g)

      by : (slice_get (with_all same_used us (used_by f)) i ≡ Some u) ⊎ UsedBefore made library all i u → (slice_get us i ≡ Some u) ⊎ UsedBefore made library all i u
      by (inl g) = first (all_from same_used us (used_by f) i u g)
      by (inr g) = inr g

  pub reached_least : (start : List ℕ) (us : List Used) (fates : List Fate) → IsReach made library start us fates → (i : ℕ) (u : Used) → slice_get us i ≡ Some u
      → (u ≡ start_of start) ⊎ UsedBefore made library us i u
  reached_least start us fates r i u e = by (least fates 0 (start_of start ∷ []) r.all r.walk i u (take_there r.all (suc most) i u here))
    where
      here : slice_get (take (suc most) r.all) i ≡ Some u
      here = subst (λ (xs : List Used). slice_get xs i ≡ Some u) r.listed e

      alone : (k : ℕ) → slice_get (start_of start ∷ []) k ≡ Some u → u ≡ start_of start
      alone zero f = sym (same_Some (start_of start) u f)
      alone (suc k) f = absurd (none-some u f)

      by : (slice_get (start_of start ∷ []) i ≡ Some u) ⊎ UsedBefore made library r.all i u → (u ≡ start_of start) ⊎ UsedBefore made library us i u
      by (inl f) = inl (alone i f)
      by (inr f) = inr (record {
        place = f.place;
        user = f.user;
        fate = f.fate;
        number = f.number;
        before = f.before;
        there = subst (λ (xs : List Used). slice_get xs f.place ≡ Some f.user) (sym r.listed) (take_before r.all (suc most) i f.place u f.user f.before here f.there);
        has = f.has;
        uses = f.uses;
      })
