-- A cut names the innermost region from it on.
use Rattle.std.proofs.Common.{◌≡◌, ◌∙◌, ◌⊎◌, inl, inr, ℕ, zero, suc, ◌+◌, ◌*◌, ◌^◌, ◌<◌, ◌≤◌, ◌==◌, Bool, true, false, List, [], ◌∷◌, length, slice_get, Option, Some, None, refl, ap, sym, arith}
use Rattle.std.specs.Prelude.{nat_le, if◌then◌else◌}
use Rattle.std.proofs.lemmas.Bool.Decides.{nat_tests}
use Rattle.clu_handlers.specs.declared.region.Cut.{Cut}
use Rattle.clu_object.specs.declared.object.Region.{Region}
use Rattle.clu_handlers.specs.Cuts.{Ascend, named_behind, no_region}
use Rattle.rv_select.specs.Tables.{AreCutsOf, innermost_behind}
use Rattle.laws_parts.specs.Regions.{FlatRegion, is_round}
use Rattle.laws_parts.proofs.Nested.{last_small}
use Rattle.laws_parts.specs.Tables.{Nest, last_below, last_in, row_of}

skips : (cs : List Cut) (low before pc : ℕ) → Ascend low cs → pc < low → named_behind before cs pc ≡ before
skips [] low before pc a l = refl
skips (c ∷ cs) low before pc a l =
    let first = a.0 in
    let no : nat_le c.from pc ≡ false = grind (arith, nat_tests) in
    rw no (skips cs (suc c.from) before pc a.1 (omega arith))

-- the last cut that is not above a place names its region
pub named_is : (cs : List Cut) (low before pc i : ℕ) (c : Cut) → Ascend low cs → slice_get cs i ≡ Some c → c.from ≤ pc → (suc i ≡ length cs) ⊎ ((d : Cut) → slice_get cs (suc i) ≡ Some d → pc < d.from) → named_behind before cs pc ≡ c.region
named_is [] low before pc i c a e l next = absurd (cc)
named_is (x ∷ cs) low before pc zero c a e l next = by cs a.1 next
  where
    is : x ≡ c
    is = cc

    yes : nat_le x.from pc ≡ true
    yes = let same : x.from ≡ c.from = ap (λ (y : Cut). y.from) is in grind (arith, nat_tests)

    by : (ds : List Cut) → Ascend (suc x.from) ds → (1 ≡ suc (length ds)) ⊎ ((d : Cut) → slice_get ds 0 ≡ Some d → pc < d.from) → named_behind (if nat_le x.from pc then x.region else before) ds pc ≡ c.region
    by [] b n = rw yes (ap (λ (y : Cut). y.region) is)
    by (d ∷ ds) b (inl n) = absurd (omega arith)
    by (d ∷ ds) b (inr n) =
        let above = n d refl in
        let no : nat_le d.from pc ≡ false = grind (arith, nat_tests) in
        rw (yes, no) (skips ds (suc d.from) x.region pc b.1 (omega arith) ∙ ap (λ (y : Cut). y.region) is)
named_is (x ∷ cs) low before pc (suc i) c a e l next = named_is cs (suc x.from) (if nat_le x.from pc then x.region else before) pc i c a.1 e l (by next)
  where
    by : (suc (suc i) ≡ suc (length cs)) ⊎ ((d : Cut) → slice_get cs (suc i) ≡ Some d → pc < d.from) → (suc i ≡ length cs) ⊎ ((d : Cut) → slice_get cs (suc i) ≡ Some d → pc < d.from)
    by (inl n) = inl (omega arith)
    by (inr n) = inr n

abbrev pub number : Option ℕ → ℕ
number None = no_region
number (Some n) = n

-- regions of the same ranges
abbrev pub Alike : List Region → List FlatRegion → Type 0
Alike [] [] = Unit {0}
Alike (s ∷ ss) (r ∷ rs) = (s.first ≡ r.first) × (s.last ≡ r.last) × Alike ss rs
Alike _ _ = ⊥

module _ (rs : List FlatRegion) (nest : Nest rs) (pc name : ℕ) where
  abbrev last : ℕ → Option ℕ
  last k = last_below rs nest pc name k

  inner_is : (ys : List Region) (xs : List FlatRegion) (k : ℕ) → Alike ys xs → ((i : ℕ) → slice_get rs (k + i) ≡ slice_get xs i) → innermost_behind (number (last k)) k ys pc ≡ number (last (k + length xs))
  inner_is [] [] k a h = let same : k + 0 ≡ k = omega arith in ap (λ n. number (last n)) (sym same)
  inner_is [] (x ∷ xs) k a h = absurd a
  inner_is (y ∷ ys) [] k a h = absurd a
  inner_is (y ∷ ys) (x ∷ xs) k a h = start ∙ inner_is ys xs (suc k) a.2 more ∙ ap (λ n. number (last n)) count
    where
      at : slice_get rs k ≡ Some x
      at = let same : k + 0 ≡ k = omega arith in ap (slice_get rs) (sym same) ∙ h 0

      more : (i : ℕ) → slice_get rs (suc k + i) ≡ slice_get xs i
      more i = let same : suc k + i ≡ k + suc i = omega arith in ap (slice_get rs) same ∙ h (suc i)

      count : suc k + length xs ≡ k + suc (length xs)
      count = omega arith

      on : (b : Bool) → (if b then k else number (last k)) ≡ number (if b then Some k else last k)
      on true = refl
      on false = refl

      step : last_in rs nest pc name (Some x) k (last k) ≡ last (suc k)
      step = ap (λ (o : Option FlatRegion). last_in rs nest pc name o k (last k)) (sym at)

      start : innermost_behind (number (last k)) k (y ∷ ys) pc ≡ innermost_behind (number (last (suc k))) (suc k) ys pc
      start = rw (a.0, a.1) (ap (λ n. innermost_behind n (suc k) ys pc) (on (is_round pc x) ∙ ap number step))

  pub innermost_is : (ys : List Region) → Alike ys rs → innermost_behind no_region 0 ys pc ≡ number (last (length rs))
  innermost_is ys a = inner_is ys rs 0 a (λ i. let same : 0 + i ≡ i = omega arith in ap (slice_get rs) same) ∙ ap (λ n. number (last n)) (omega arith)

  -- the row that a cut names
  pub cut_names : (ys : List Region) (cuts : List Cut) (rows i : ℕ) (c : Cut) → Alike ys rs → AreCutsOf ys cuts → pc < 2 ^ 32 → length rs ≤ no_region → slice_get cuts i ≡ Some c → c.from ≤ pc →
      (suc i ≡ length cuts) ⊎ ((d : Cut) → slice_get cuts (suc i) ≡ Some d → pc < d.from) → (if c.region == no_region then 0 else (rows + 24 * c.region)) ≡ row_of rows (last (length rs))
  cut_names ys cuts rows i c alike are small few e l next = ap (λ n. if n == no_region then 0 else (rows + 24 * n)) is ∙ by (last (length rs)) refl
    where
      is : c.region ≡ number (last (length rs))
      is = sym (named_is cuts 0 no_region pc i c are.ascend e l next) ∙ are.innermost pc small ∙ innermost_is ys alike

      by : (o : Option ℕ) → last (length rs) ≡ o → (if number o == no_region then 0 else (rows + 24 * number o)) ≡ row_of rows o
      by None e = refl
      by (Some n) e =
          let less : n < length rs = last_small rs nest pc name (length rs) n e in
          let other : (n == no_region) ≡ false = grind (arith, nat_tests) in
          rw other refl
