-- The lists of a head tell what the definitions list: what is asked, and routines by their names.
use Rattle.std.proofs.Common.{◌≡◌, ◌∙◌, ℕ, Bool, true, false, ◌&&◌, ◌||◌, if◌then◌else◌, nat_lt, nat_eq, List, [], ◌∷◌, map, refl, ap, sym}
use Rattle.std.specs.Prelude.{bytes_eq}
use Rattle.std.specs.declared.cmp.Ordering.{Ordering}
use Rattle.std.specs.declared.cmp.Ordering.TheVariants.{Less, Equal, Greater}
use Rattle.std.specs.Ordering.{is_lt, is_gt, is_eq, ordering_then, nat_cmp}
use Rattle.std.specs.Cmp.{unsigned_tied}
use Rattle.std.specs.Cmp.Lexicographic.{slice_cmp}
use Rattle.std.proofs.lemmas.Map.Text.{is_eq-slice_cmp}
use Rattle.clu_types.specs.CluType.{CluType}
use Rattle.clu_meaning.specs.Settling.{comes_after}
use Rattle.clu_checking.specs.Specifications.{Demand, Heading}
use Rattle.clu_checking.specs.Headings.{comes_before, is_same, with_demand, listed_demands, with_heading, listed_headings}
use Rattle.clu_settle.proofs.Fields.{after_is_before}
use Rattle.clu_head.specs.declared.head.Demanded.{Demanded}
use Rattle.clu_head.specs.Listed.{with_one, listed}
use Rattle.clu_head.specs.Ranks.{before, same, demand_rank, both_asked, first_of}
use Rattle.clu_passes.specs.Told.{demand_told}

-- ---- ranks

lt_then : (r s : Ordering) → is_lt (ordering_then r s) ≡ (is_lt r || (is_eq r && is_lt s))
lt_then Less s = refl
lt_then Equal s = refl
lt_then Greater s = refl

eq_then : (r s : Ordering) → is_eq (ordering_then r s) ≡ (is_eq r && is_eq s)
eq_then Less s = refl
eq_then Equal s = refl
eq_then Greater s = refl

lt_is : (x y : ℕ) → is_lt (nat_cmp x y) ≡ nat_lt x y
lt_is x y = by (nat_lt x y) (nat_eq x y)
  where
    by : (b c : Bool) → is_lt (if b then Less else (if c then Equal else Greater)) ≡ b
    by true c = refl
    by false true = refl
    by false false = refl

all_three : (x y z u v w : Bool) → x ≡ u → y ≡ v → z ≡ w → (x || (y && z)) ≡ (u || (v && w))
all_three x y z u v w e f g = cc

both_of : (x y u v : Bool) → x ≡ u → y ≡ v → (x && y) ≡ (u && v)
both_of x y u v e f = cc

-- ---- what is asked

module _ (types : List CluType) where
  abbrev told : Demanded → Demand
  told = demand_told types

  before_told : (a b : Demanded) → before demand_rank a b ≡ comes_before (told a) (told b)
  before_told a b =
      lt_then (nat_cmp a.parameter b.parameter) (slice_cmp nat_cmp a.operation b.operation)
      ∙ all_three _ _ _ _ _ _ (lt_is a.parameter b.parameter) (unsigned_tied a.parameter b.parameter) (sym (after_is_before b.operation a.operation))

  same_told : (a b : Demanded) → same demand_rank a b ≡ is_same (told a) (told b)
  same_told a b =
      eq_then (nat_cmp a.parameter b.parameter) (slice_cmp nat_cmp a.operation b.operation)
      ∙ both_of _ _ _ _ (unsigned_tied a.parameter b.parameter) (is_eq-slice_cmp a.operation b.operation)

  abbrev with_asked : Demanded → List Demanded → List Demanded
  with_asked = with_one (before demand_rank) (same demand_rank) both_asked

  with_told : (d : Demanded) (es : List Demanded) → map told (with_asked d es) ≡ with_demand (told d) (map told es)
  with_told d [] = refl
  with_told d (e ∷ es) = by (same demand_rank d e) (is_same (told d) (told e)) (same_told d e) (before demand_rank d e) (comes_before (told d) (told e)) (before_told d e) (with_told d es)
    where
      by : (s u : Bool) → s ≡ u → (b c : Bool) → b ≡ c → map told (with_asked d es) ≡ with_demand (told d) (map told es) →
          map told (if s then both_asked d e ∷ es else if b then d ∷ e ∷ es else e ∷ with_asked d es) ≡
          (if u then record (told d) { in_set = d.in_set && e.in_set } ∷ map told es else if c then told d ∷ told e ∷ map told es else told e ∷ with_demand (told d) (map told es))
      by true true p b c q more = refl
      by false false p true true q more = refl
      by false false p false false q more = ap (λ (ds : List Demand). told e ∷ ds) more
      by false false p true false q more = cc
      by false false p false true q more = cc
      by true false p b c q more = cc
      by false true p b c q more = cc

  pub listed_told : (ds : List Demanded) → map told (listed (before demand_rank) (same demand_rank) both_asked ds) ≡ listed_demands (map told ds)
  listed_told [] = refl
  listed_told (d ∷ ds) = with_told d (listed (before demand_rank) (same demand_rank) both_asked ds) ∙ ap (with_demand (told d)) (listed_told ds)

-- ---- routines by their names

module _ {X : Type 0} (rank : X → List ℕ) (head : X → Heading) (named : (x : X) → (head x).name ≡ rank x) where
  same_named : (a b : X) → same rank a b ≡ bytes_eq (head a).name (head b).name
  same_named a b = is_eq-slice_cmp (rank a) (rank b) ∙ ap (λ (n : List ℕ). bytes_eq n (rank b)) (sym (named a)) ∙ ap (bytes_eq (head a).name) (sym (named b))

  after_named : (a b : X) → comes_after (head a).name (head b).name ≡ is_gt (slice_cmp nat_cmp (rank a) (rank b))
  after_named a b = ap (λ (n : List ℕ). comes_after n (head b).name) (named a) ∙ ap (comes_after (rank a)) (named b)

  abbrev with_name : X → List X → List X
  with_name = with_one (before rank) (same rank) first_of

  with_named : (d : X) (es : List X) → map head (with_name d es) ≡ with_heading (head d) (map head es)
  with_named d [] = refl
  with_named d (e ∷ es) = by (slice_cmp nat_cmp (rank d) (rank e)) (bytes_eq (head d).name (head e).name) (sym (same_named d e)) (comes_after (head d).name (head e).name) (after_named d e) (with_named d es)
    where
      by : (r : Ordering) (u : Bool) → u ≡ is_eq r → (c : Bool) → c ≡ is_gt r → map head (with_name d es) ≡ with_heading (head d) (map head es) →
          map head (if is_eq r then d ∷ es else if is_lt r then d ∷ e ∷ es else e ∷ with_name d es) ≡
          (if u then head d ∷ map head es else if c then head e ∷ with_heading (head d) (map head es) else head d ∷ head e ∷ map head es)
      by Equal true p c q more = refl
      by Equal false p c q more = cc
      by Less true p c q more = cc
      by Less false p true q more = cc
      by Less false p false q more = refl
      by Greater true p c q more = cc
      by Greater false p true q more = ap (λ (hs : List Heading). head e ∷ hs) more
      by Greater false p false q more = cc

  pub listed_named : (xs : List X) → map head (listed (before rank) (same rank) first_of xs) ≡ listed_headings (map head xs)
  listed_named [] = refl
  listed_named (x ∷ xs) = with_named x (listed (before rank) (same rank) first_of xs) ∙ ap (with_heading (head x)) (listed_named xs)
