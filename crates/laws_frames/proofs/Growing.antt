-- What a statement adds to the regions: it leaves those that are there, and the regions that it adds lie in its own code.
use Rattle.std.proofs.Common.{◌≡◌, ◌≢◌, ◌∙◌, ◌⊎◌, inl, inr, ⊎_elim, ℕ, zero, suc, ◌+◌, ◌<◌, ◌≤◌, Bool, true, false, List, [], ◌∷◌, length, Option, Some, slice_get, refl, ap, sym, subst, arith}
use Rattle.std.proofs.lemmas.List.{length-append}
use Rattle.std.proofs.lemmas.Option.{same_Some, slice_get_within}
use Rattle.clu_base.proofs.Lists.{get_before, get_last, none_is_not}
use Rattle.clu_wir.specs.Adding.{Added}
use Rattle.clu_frames.specs.Plain.{Step}
use Rattle.clu_frames.specs.Plain as flat
use Rattle.clu_frames.specs.Flattening.{Made, arm_at, arm_begun, armed, begun_by, closed, labelled, named_onto, opened, pushed}
use Rattle.clu_frames.specs.Regions.{begun_at, changed, ended_at, with_arm}
use Rattle.clu_frames.proofs.Placing.{Still}
use Rattle.clu_frames.proofs.Pieces.{still_results, still_taken}
use Rattle.clu_flat_meaning.proofs.Runs.{length_push}

-- a number below another, or not
pub below_or : (a b : ℕ) → (a < b) ⊎ (b ≤ a)
below_or a zero = inr (omega arith)
below_or zero (suc b) = inl (omega arith)
below_or (suc a) (suc b) = ⊎_elim (λ (l : a < b). inl (omega (arith, l))) (λ (l : b ≤ a). inr (omega (arith, l))) (below_or a b)

-- a number at least another is it, or above
pub is_or_above : (a b : ℕ) → a ≤ b → (b ≡ a) ⊎ (suc a ≤ b)
is_or_above zero zero l = inl refl
is_or_above zero (suc b) l = inr (omega arith)
is_or_above (suc a) zero l = absurd (omega (arith, l))
is_or_above (suc a) (suc b) l = ⊎_elim (λ (e : b ≡ a). inl (ap suc e)) (λ (k : suc a ≤ b). inr (omega (arith, k))) (is_or_above a b (omega (arith, l)))

past : {X A : Type 0} (xs : List X) (n : ℕ) (x : X) → slice_get xs n ≡ Some x → length xs ≤ n → A
past xs n x e l = absurd (omega (arith, slice_get_within xs n x e, l))

-- The regions below a number are as they were but one, and the others lie in the code that was added.
pub record GrowsBy (skip : ℕ) (m m' : Made) : Type 0 where
  pub code : length m.code ≤ length m'.code
  pub count : length m.regions ≤ length m'.regions
  pub kept : (k : ℕ) → k < length m.regions → k ≢ skip → slice_get m'.regions k ≡ slice_get m.regions k
  pub new : (k : ℕ) (r : Added) → slice_get m'.regions k ≡ Some r → length m.regions ≤ k → (length m.code ≤ r.first) × (r.last < length m'.code)

pub grows_on : {skip : ℕ} (m m' : Made) → m'.regions ≡ m.regions → length m.code ≤ length m'.code → GrowsBy skip m m'
grows_on m m' e l = record {
  code = l;
  count = omega (arith, ap (λ (x : List Added). length x) e);
  kept = λ k h d. ap (λ (x : List Added). slice_get x k) e;
  new = λ k r h g. past m.regions k r (ap (λ (x : List Added). slice_get x k) (sym e) ∙ h) g;
}

pub grows_push : {skip : ℕ} (step : Step) (m : Made) → GrowsBy skip m (pushed step m)
grows_push step m = grows_on m (pushed step m) refl (omega (arith, length_push m.code step))

-- a step behind new labels
pub grows_labelled : {skip : ℕ} (count : ℕ) (m m' : Made) → GrowsBy skip (labelled count m) m' → GrowsBy skip m m'
grows_labelled count m m' g = record { code = g.code; count = g.count; kept = g.kept; new = g.new }

abbrev pub NoLabel : ℕ → Type 0
NoLabel t = Unit {0}

pub grows_still : {skip : ℕ} (m m' : Made) → Still NoLabel m m' → GrowsBy skip m m'
grows_still m m' s =
    let e : length m'.code ≡ length m.code + length s.adds.added = ap (λ (l : List Step). length l) s.adds.code ∙ length-append m.code s.adds.added in
    grows_on m m' s.regions (omega (arith, e))

-- one after the other; the first leaves all regions, or the second adds where the first did
pub grows_then : {skip : ℕ} (a b c : Made) → skip < length a.regions → GrowsBy skip a b → GrowsBy skip b c → GrowsBy skip a c
grows_then {skip} a b c own f g = record {
  code = omega (arith, f.code, g.code);
  count = omega (arith, f.count, g.count);
  kept = λ k h d. g.kept k (omega (arith, h, f.count)) d ∙ f.kept k h d;
  new = λ k r h l. ⊎_elim
      (λ (i : k < length b.regions).
      let d : k ≢ skip = λ e. omega (arith, e, l, own) in
      let z = f.new k r (sym (g.kept k i d) ∙ h) l in (omega (arith, z.0), omega (arith, z.1, g.code)))
      (λ (i : length b.regions ≤ k). let z = g.new k r h i in (omega (arith, z.0, f.code), omega (arith, z.1)))
      (below_or k (length b.regions));
}

-- What leaves all regions.
abbrev pub Grows : Made → Made → Type 0
Grows m m' = (skip : ℕ) → GrowsBy skip m m'

pub grows_all_then : (a b c : Made) → Grows a b → Grows b c → Grows a c
grows_all_then a b c f g skip = record {
  code = omega (arith, (f 0).code, (g 0).code);
  count = omega (arith, (f 0).count, (g 0).count);
  kept = λ k h d. (g skip).kept k (omega (arith, h, (f 0).count)) d ∙ (f skip).kept k h d;
  new = λ k r h l. ⊎_elim
      (λ (i : k < length b.regions).
      let d : k ≢ suc k = λ e. omega (arith, e) in
      let z = (f 0).new k r (sym ((g (suc k)).kept k i d) ∙ h) l in (omega (arith, z.0), omega (arith, z.1, (g 0).code)))
      (λ (i : length b.regions ≤ k). let z = (g 0).new k r h i in (omega (arith, z.0, (f 0).code), omega (arith, z.1)))
      (below_or k (length b.regions));
}

-- A region that is changed.

pub changed_length : (f : Added → Added) (n : ℕ) (rs : List Added) → length (changed f n rs) ≡ length rs
changed_length f n [] = refl
changed_length f zero (r ∷ rs) = refl
changed_length f (suc n) (r ∷ rs) = ap suc (changed_length f n rs)

changed_other : (f : Added → Added) (n : ℕ) (rs : List Added) (k : ℕ) → k ≢ n → slice_get (changed f n rs) k ≡ slice_get rs k
changed_other f n [] k d = refl
changed_other f zero (r ∷ rs) zero d = absurd (d refl)
changed_other f zero (r ∷ rs) (suc k) d = refl
changed_other f (suc n) (r ∷ rs) zero d = refl
changed_other f (suc n) (r ∷ rs) (suc k) d = changed_other f n rs k (λ e. d (ap suc e))

pub changed_own : (f : Added → Added) (n : ℕ) (rs : List Added) (r : Added) → slice_get rs n ≡ Some r → slice_get (changed f n rs) n ≡ Some (f r)
changed_own f n [] r e = none_is_not r e
changed_own f zero (x ∷ rs) r e = ap (λ (v : Added). Some (f v)) (same_Some x r e)
changed_own f (suc n) (x ∷ rs) r e = changed_own f n rs r e

grows_changed : (f : Added → Added) (region : ℕ) (m m' : Made) → m'.regions ≡ changed f region m.regions → length m.code ≤ length m'.code → GrowsBy region m m'
grows_changed f region m m' e l =
    let same : length m'.regions ≡ length m.regions = ap (λ (x : List Added). length x) e ∙ changed_length f region m.regions in
    record {
      code = l;
      count = omega (arith, same);
      kept = λ k h d. ap (λ (x : List Added). slice_get x k) e ∙ changed_other f region m.regions k d;
      new = λ k r h g. past m'.regions k r h (omega (arith, g, same));
    }

pub grows_closed : (region end : ℕ) (m : Made) → GrowsBy region m (closed region end m)
grows_closed region end m = grows_changed (ended_at (length m.code)) region m (closed region end m) refl (omega (arith, length_push m.code (flat.Jump end)))

pub grows_armed : (region mark : ℕ) (name : List ℕ) (m : Made) → GrowsBy region m (armed region mark name m)
grows_armed region mark name m = grows_changed (with_arm (arm_at name (length m.code) mark)) region m (armed region mark name m) refl (omega arith)

pub grows_named : (region mark : ℕ) (names : List (List ℕ)) (m : Made) → region < length m.regions → GrowsBy region m (named_onto region mark names m)
grows_named region mark [] m l = grows_on m m refl (omega arith)
grows_named region mark (name ∷ names) m l =
    let a = grows_armed region mark name m in
    grows_then m (armed region mark name m) (named_onto region mark names (armed region mark name m)) l a (grows_named region mark names (armed region mark name m) (omega (arith, l, a.count)))

pub grows_begun : (others : Bool) (slots : List ℕ) (region mark : ℕ) (m : Made) → region < length m.regions → GrowsBy region m (begun_by others slots region mark m)
grows_begun true slots region mark m l = grows_then m (armed region mark [] m) _ l (grows_armed region mark [] m) (grows_still (armed region mark [] m) _ (still_taken NoLabel slots (armed region mark [] m)))
grows_begun false slots region mark m l = grows_still m _ (still_results NoLabel 0 slots m)

pub grows_arm : (names : List (List ℕ)) (others : Bool) (slots : List ℕ) (region mark : ℕ) (m : Made) → region < length m.regions → GrowsBy region m (arm_begun names others slots region mark m)
grows_arm names others slots region mark m l =
    let a = grows_named region mark names m l in
    grows_then m (named_onto region mark names m) _ l a (grows_begun others slots region mark (named_onto region mark names m) (omega (arith, l, a.count)))

-- What is behind the opening of a region, as what grows from before it: its own bounds are within.
pub grows_opened : (parent : Option ℕ) (m m' : Made) (r : Added) → GrowsBy (length m.regions) (opened parent m) m' → slice_get m'.regions (length m.regions) ≡ Some r → length m.code ≤ r.first → r.last < length m'.code → Grows m m'
grows_opened parent m m' r g own first last skip =
    let one : length (opened parent m).regions ≡ suc (length m.regions) = length-append m.regions (begun_at (length m.code) parent ∷ []) ∙ omega arith in
    record {
      code = g.code;
      count = omega (arith, g.count, one);
      kept = λ k h d. g.kept k (omega (arith, h, one)) (λ e. omega (arith, e, h)) ∙ get_before m.regions (begun_at (length m.code) parent) k h;
      new = λ k x h l. ⊎_elim
          (λ (e : k ≡ length m.regions).
          let same : r ≡ x = same_Some r x (sym own ∙ ap (slice_get m'.regions) (sym e) ∙ h) in
          (subst (λ (v : Added). length m.code ≤ v.first) same first, subst (λ (v : Added). v.last < length m'.code) same last))
          (λ (above : suc (length m.regions) ≤ k). g.new k x h (omega (arith, above, one)))
          (is_or_above (length m.regions) k l);
    }

-- The region itself as it is changed: its bounds from its closing on.

pub record Own (n first last : ℕ) (m : Made) : Type 0 where
  pub region : Added
  pub is : slice_get m.regions n ≡ Some region
  pub begins : region.first ≡ first
  pub ends : region.last ≡ last

pub own_kept : (n first last : ℕ) (m m' : Made) → Own n first last m → Grows m m' → Own n first last m'
own_kept n first last m m' o g = record { region = o.region; is = (g (suc n)).kept n (slice_get_within m.regions n o.region o.is) (λ e. omega (arith, e)) ∙ o.is; begins = o.begins; ends = o.ends }

own_armed : (n first last mark : ℕ) (name : List ℕ) (m : Made) → Own n first last m → Own n first last (armed n mark name m)
own_armed n first last mark name m o = record { region = with_arm (arm_at name (length m.code) mark) o.region; is = changed_own (with_arm (arm_at name (length m.code) mark)) n m.regions o.region o.is; begins = o.begins; ends = o.ends }

pub own_named : (n first last mark : ℕ) (names : List (List ℕ)) (m : Made) → Own n first last m → Own n first last (named_onto n mark names m)
own_named n first last mark [] m o = o
own_named n first last mark (name ∷ names) m o = own_named n first last mark names (armed n mark name m) (own_armed n first last mark name m o)

own_begun : (others : Bool) (slots : List ℕ) (n first last mark : ℕ) (m : Made) → Own n first last m → Own n first last (begun_by others slots n mark m)
own_begun true slots n first last mark m o =
    own_kept n first last (armed n mark [] m) _ (own_armed n first last mark [] m o) (λ skip. grows_still (armed n mark [] m) _ (still_taken NoLabel slots (armed n mark [] m)))
own_begun false slots n first last mark m o = own_kept n first last m _ o (λ skip. grows_still m _ (still_results NoLabel 0 slots m))

pub own_arm : (names : List (List ℕ)) (others : Bool) (slots : List ℕ) (n first last mark : ℕ) (m : Made) → Own n first last m → Own n first last (arm_begun names others slots n mark m)
own_arm names others slots n first last mark m o = own_begun others slots n first last mark (named_onto n mark names m) (own_named n first last mark names m o)

-- after the list of a region, from its opening
pub own_closed : (parent : Option ℕ) (end : ℕ) (m m2 : Made) → Grows (opened parent m) m2 → Own (length m.regions) (length m.code) (length m2.code) (closed (length m.regions) end m2)
own_closed parent end m m2 g =
    let r = begun_at (length m.code) parent in
    let n = length m.regions in
    let one : length (opened parent m).regions ≡ suc n = length-append m.regions (r ∷ []) ∙ omega arith in
    let there : slice_get m2.regions n ≡ Some r = (g (suc n)).kept n (omega (arith, one)) (λ e. omega (arith, e)) ∙ get_last m.regions r in
    record { region = ended_at (length m2.code) r; is = changed_own (ended_at (length m2.code)) n m2.regions r there; begins = refl; ends = refl }
