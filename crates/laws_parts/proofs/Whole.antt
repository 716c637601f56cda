-- A regions table in memory is laid out as the search reads it.
use Rattle.std.proofs.Common.{◌≡◌, ℕ, zero, suc, ◌+◌, ◌*◌, ◌^◌, ◌<◌, ◌≤◌, ◌==◌, List, [], ◌∷◌, ◌++◌, length, drop, slice_get, Some, refl, ap, subst, arith}
use Rattle.std.specs.Prelude.{if◌then◌else◌}
use Rattle.std.specs.Int.{w64}
use Rattle.clu_handlers.specs.declared.region.Cut.{Cut}
use Rattle.clu_handlers.specs.Cuts.{no_region}
use Rattle.clu_object.specs.declared.object.Region.{Region}
use Rattle.rv_machine.specs.State.{State, read_at}
use Rattle.rv_select.specs.Tables.{code_address, row_address, rows_at, table_words}
use Rattle.laws_parts.proofs.Laying.{Parents, Words, arm_count, arm_rows, cut_rows, cuts_there, flat_regions, region_rows, regions_there, table_is, words_split}
use Rattle.laws_parts.specs.Tables.{Cuts, RegionRow, Rows}

abbrev pub item : List Cut → ℕ → Cut
item [] n = record { from = 0; region = 0 }
item (c ∷ cs) zero = c
item (c ∷ cs) (suc n) = item cs n

pub item_is : (cs : List Cut) (n : ℕ) → n < length cs → slice_get cs n ≡ Some (item cs n)
item_is [] n l = absurd (omega arith)
item_is (c ∷ cs) zero l = refl
item_is (c ∷ cs) (suc n) l = item_is cs n (omega arith)

cut_words : (code rows : ℕ) (cs : List Cut) → 8 * length (cut_rows code rows cs) ≡ 16 * length cs
cut_words code rows [] = refl
cut_words code rows (c ∷ cs) = let e = cut_words code rows cs in omega arith

region_words : (rows : ℕ) (rs : List Region) (arms : ℕ) → 8 * length (region_rows rows arms rs) ≡ 24 * length rs
region_words rows [] arms = refl
region_words rows (r ∷ rs) arms = let e = region_words rows rs (row_address arms (length r.arms)) in omega arith

rows_are : (at cuts : ℕ) → at + 8 + 16 * cuts < 2 ^ 64 → rows_at at cuts ≡ at + 8 + 16 * cuts
rows_are at cuts l = grind arith

-- the cuts and the rows of a table
pub record Read (m : State) (code at : ℕ) (cuts : List Cut) (regions : List Region) (names : List ℕ) : Type 0 where
  pub counted : read_at w64 m at ≡ Some (length cuts)
  pub cuts_read : Cuts m (at + 8) (length cuts) (λ i. code_address code (item cuts i).from) (λ i. let n = (item cuts i).region in if n == no_region then 0 else row_address (rows_at at (length cuts)) n)
  pub rows_read : ((n p : ℕ) (r : Rattle.laws_parts.specs.Regions.FlatRegion) → slice_get (flat_regions regions names) n ≡ Some r → r.parent ≡ Some p → p < n) → Rows m (code_address code) (rows_at at (length cuts)) (flat_regions regions names)

flat_count : (rs : List Region) (names : List ℕ) → length (flat_regions rs names) ≡ length rs
flat_count [] names = refl
flat_count (r ∷ rs) names = ap suc (flat_count rs (drop (length r.arms) names))

pub table_read : (m : State) (code at : ℕ) (cuts : List Cut) (regions : List Region) (names : List ℕ) → length cuts < 2 ^ 32 → at + 8 + 16 * length cuts + 24 * length regions + 24 * arm_count regions + 24 < 2 ^ 64 → arm_count regions ≤ length names →
    Parents (λ p. p < length regions) regions → Words m at (table_words cuts regions code (rows_at at (length cuts)) names) → Read m code at cuts regions names
table_read m code at cuts regions names few room enough parents words =
    record {
      counted = all.0.read;
      cuts_read = record {
        room = omega arith;
        few = few;
        from_there = λ i l. (cuts_there m code rows cuts (at + 8) parts.0 i (item cuts i) (item_is cuts i l)).0;
        row_there = λ i l. (cuts_there m code rows cuts (at + 8) parts.0 i (item cuts i) (item_is cuts i l)).1;
      };
      rows_read = λ below. record {
        some = omega (arith, rows_is);
        room = rw count (omega (arith, rows_is));
        row = λ n r e. subst (λ i. RegionRow m (code_address code) rows i r) (whole n) (regions_there m code rows regions names 0 (rows + 24 * length regions) first_region first_arm enough (omega (arith, rows_is)) (near parents) n r e);
        below = below;
      };
    }
  where
    whole : (n : ℕ) → 0 + n ≡ n
    whole n = omega arith

    rows : ℕ
    rows = rows_at at (length cuts)

    rows_is : rows ≡ at + 8 + 16 * length cuts
    rows_is = rows_are at (length cuts) (omega arith)

    count : length (flat_regions regions names) ≡ length regions
    count = flat_count regions names

    arms_at : ℕ
    arms_at = row_address rows (length regions)

    all : Words m at (length cuts ∷ (cut_rows code rows cuts ++ (region_rows rows arms_at regions ++ arm_rows code regions names)))
    all = subst (λ (ws : List ℕ). Words m at ws) (table_is cuts regions code rows names) words

    parts : Words m (at + 8) (cut_rows code rows cuts) × Words m (at + 8 + 8 * length (cut_rows code rows cuts)) (region_rows rows arms_at regions ++ arm_rows code regions names)
    parts = words_split m (at + 8) (cut_rows code rows cuts) (region_rows rows arms_at regions ++ arm_rows code regions names) all.1

    to_rows : at + 8 + 8 * length (cut_rows code rows cuts) ≡ rows + 24 * 0
    to_rows = omega (arith, rows_is, cut_words code rows cuts)

    rest : Words m (rows + 24 * 0) (region_rows rows arms_at regions) × Words m (rows + 24 * 0 + 8 * length (region_rows rows arms_at regions)) (arm_rows code regions names)
    rest = words_split m (rows + 24 * 0) (region_rows rows arms_at regions) (arm_rows code regions names) (subst (λ a. Words m a (region_rows rows arms_at regions ++ arm_rows code regions names)) to_rows parts.1)

    arms_is : arms_at ≡ rows + 24 * length regions
    arms_is = Rattle.laws_parts.proofs.Laying.row_is rows (length regions) (omega (arith, rows_is))

    to_arms : rows + 24 * 0 + 8 * length (region_rows rows arms_at regions) ≡ rows + 24 * length regions
    to_arms = omega (arith, region_words rows regions arms_at)

    first_region : Words m (rows + 24 * 0) (region_rows rows (rows + 24 * length regions) regions)
    first_region = subst (λ a. Words m (rows + 24 * 0) (region_rows rows a regions)) arms_is rest.0

    first_arm : Words m (rows + 24 * length regions) (arm_rows code regions names)
    first_arm = subst (λ a. Words m a (arm_rows code regions names)) to_arms rest.1

    near_all : (rs : List Region) → Parents (λ p. p < length regions) rs → Parents (λ p. rows + 24 * p < 2 ^ 64) rs
    near_all [] h = tt
    near_all (r ∷ rs) h = (λ p e. omega (arith, rows_is, h.0 p e), near_all rs h.1)

    near : Parents (λ p. p < length regions) regions → Parents (λ p. rows + 24 * p < 2 ^ 64) regions
    near h = near_all regions h
