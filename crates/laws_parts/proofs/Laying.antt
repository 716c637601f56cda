-- The words of a regions table in memory are the rows that the search reads.
use Rattle.std.proofs.Common.{◌≡◌, ◌∙◌, ℕ, zero, suc, ◌+◌, ◌*◌, ◌^◌, ◌<◌, ◌≤◌, ◌==◌, Bool, true, false, not, List, [], ◌∷◌, ◌++◌, length, take, drop, slice_get, Option, Some, None, refl, ap, sym, subst, arith, append_assoc, append-nil}
use Rattle.std.specs.Prelude.{if◌then◌else◌}
use Rattle.std.specs.Int.{w64}
use Rattle.std.proofs.lemmas.List.{length-append}
use Rattle.clu_wir.specs.declared.region.Arm.{Arm}
use Rattle.clu_handlers.specs.declared.region.Cut.{Cut}
use Rattle.clu_object.specs.declared.object.Region.{Region}
use Rattle.rv_machine.specs.State.{State, read_at}
use Rattle.rv_select.specs.Tables.{added, arm_row, arms_behind, code_address, cut_row, cuts_behind, is_others, named_behind, others_behind, own_behind, region_address, region_row, regions_behind, row_address, table_words}
use Rattle.laws_parts.specs.Regions.{FlatArm, FlatRegion}
use Rattle.laws_parts.specs.Tables.{ArmRow, ArmRows, RegionRow, row_of}

-- words one after the other from an address on
pub record Word (m : State) (at w : ℕ) : Type 0 where
  pub read : read_at w64 m at ≡ Some w

abbrev pub Words : State → ℕ → List ℕ → Type 0
Words m at [] = Unit {0}
Words m at (w ∷ ws) = Word m at w × Words m (at + 8) ws

pub words_split : (m : State) (at : ℕ) (xs ys : List ℕ) → Words m at (xs ++ ys) → Words m at xs × Words m (at + 8 * length xs) ys
words_split m at [] ys h = let same : at + 8 * 0 ≡ at = omega arith in (tt, rw same h)
words_split m at (x ∷ xs) ys h =
    let rest = words_split m (at + 8) xs ys h.1 in
    let same : at + 8 + 8 * length xs ≡ at + 8 * suc (length xs) = omega arith in
    ((h.0, rest.0), subst (λ a. Words m a ys) same rest.1)

-- Rows, one after the other.

abbrev pub cut_rows : ℕ → ℕ → List Cut → List ℕ
cut_rows code rows [] = []
cut_rows code rows (c ∷ cs) = cut_row code rows c ++ cut_rows code rows cs

pub cuts_are : (code rows : ℕ) (cs : List Cut) (before : List ℕ) → cuts_behind code rows before cs ≡ before ++ cut_rows code rows cs
cuts_are code rows [] before = sym (append-nil before)
cuts_are code rows (c ∷ cs) before = cuts_are code rows cs (before ++ cut_row code rows c) ∙ append_assoc before (cut_row code rows c) (cut_rows code rows cs)

abbrev pub region_rows : ℕ → ℕ → List Region → List ℕ
region_rows rows arms [] = []
region_rows rows arms (r ∷ rs) = region_row rows arms r ++ region_rows rows (row_address arms (length r.arms)) rs

pub regions_are : (rows : ℕ) (rs : List Region) (arms : ℕ) (before : List ℕ) → regions_behind rows arms before rs ≡ before ++ region_rows rows arms rs
regions_are rows [] arms before = sym (append-nil before)
regions_are rows (r ∷ rs) arms before = regions_are rows rs (row_address arms (length r.arms)) (before ++ region_row rows arms r) ∙ append_assoc before (region_row rows arms r) (region_rows rows (row_address arms (length r.arms)) rs)

abbrev pub added_row : Bool → List ℕ → List ℕ
added_row true row = row
added_row false row = []

added_is : (b : Bool) (before row : List ℕ) → added b before row ≡ before ++ added_row b row
added_is true before row = refl
added_is false before row = sym (append-nil before)

abbrev pub named_rows : ℕ → List Arm → List ℕ → List ℕ
named_rows code [] names = []
named_rows code (a ∷ rest) [] = []
named_rows code (a ∷ rest) (n ∷ ns) = added_row (not (is_others a)) (arm_row code n a) ++ named_rows code rest ns

pub named_are : (code : ℕ) (arms : List Arm) (names before : List ℕ) → named_behind code before arms names ≡ before ++ named_rows code arms names
named_are code [] names before = sym (append-nil before)
named_are code (a ∷ rest) [] before = sym (append-nil before)
named_are code (a ∷ rest) (n ∷ ns) before =
    named_are code rest ns (added (not (is_others a)) before (arm_row code n a))
    ∙ ap (λ (xs : List ℕ). xs ++ named_rows code rest ns) (added_is (not (is_others a)) before (arm_row code n a))
    ∙ append_assoc before (added_row (not (is_others a)) (arm_row code n a)) (named_rows code rest ns)

abbrev pub other_rows : ℕ → List Arm → List ℕ
other_rows code [] = []
other_rows code (a ∷ rest) = added_row (is_others a) (arm_row code 0 a) ++ other_rows code rest

pub others_are : (code : ℕ) (arms : List Arm) (before : List ℕ) → others_behind code before arms ≡ before ++ other_rows code arms
others_are code [] before = sym (append-nil before)
others_are code (a ∷ rest) before =
    others_are code rest (added (is_others a) before (arm_row code 0 a))
    ∙ ap (λ (xs : List ℕ). xs ++ other_rows code rest) (added_is (is_others a) before (arm_row code 0 a))
    ∙ append_assoc before (added_row (is_others a) (arm_row code 0 a)) (other_rows code rest)

abbrev pub own_rows : ℕ → List Arm → List ℕ → List ℕ
own_rows code arms names = named_rows code arms names ++ other_rows code arms

pub own_are : (code : ℕ) (arms : List Arm) (names before : List ℕ) → own_behind code before arms names ≡ before ++ own_rows code arms names
own_are code arms names before =
    others_are code arms (named_behind code before arms names)
    ∙ ap (λ (xs : List ℕ). xs ++ other_rows code arms) (named_are code arms names before)
    ∙ append_assoc before (named_rows code arms names) (other_rows code arms)

abbrev pub arm_rows : ℕ → List Region → List ℕ → List ℕ
arm_rows code [] names = []
arm_rows code (r ∷ rs) names = own_rows code r.arms (take (length r.arms) names) ++ arm_rows code rs (drop (length r.arms) names)

pub arms_are : (code : ℕ) (rs : List Region) (names before : List ℕ) → arms_behind code before rs names ≡ before ++ arm_rows code rs names
arms_are code [] names before = sym (append-nil before)
arms_are code (r ∷ rs) names before =
    arms_are code rs (drop (length r.arms) names) (own_behind code before r.arms (take (length r.arms) names))
    ∙ ap (λ (xs : List ℕ). xs ++ arm_rows code rs (drop (length r.arms) names)) (own_are code r.arms (take (length r.arms) names) before)
    ∙ append_assoc before (own_rows code r.arms (take (length r.arms) names)) (arm_rows code rs (drop (length r.arms) names))

-- the table: the number of cuts, and the rows
pub table_is : (cuts : List Cut) (rs : List Region) (code rows : ℕ) (names : List ℕ) →
    table_words cuts rs code rows names ≡ length cuts ∷ (cut_rows code rows cuts ++ (region_rows rows (row_address rows (length rs)) rs ++ arm_rows code rs names))
table_is cuts rs code rows names =
    arms_are code rs names (regions_behind rows (row_address rows (length rs)) (cuts_behind code rows (length cuts ∷ []) cuts) rs)
    ∙ ap (λ (xs : List ℕ). xs ++ arm_rows code rs names) (regions_are rows rs (row_address rows (length rs)) (cuts_behind code rows (length cuts ∷ []) cuts) ∙ ap (λ (xs : List ℕ). xs ++ region_rows rows (row_address rows (length rs)) rs) (cuts_are code rows cuts (length cuts ∷ [])))
    ∙ ap (λ (xs : List ℕ). length cuts ∷ xs) (append_assoc (cut_rows code rows cuts) (region_rows rows (row_address rows (length rs)) rs) (arm_rows code rs names))

-- Cuts.

pub cuts_there : (m : State) (code rows : ℕ) (cs : List Cut) (at : ℕ) → Words m at (cut_rows code rows cs) → (i : ℕ) (c : Cut) → slice_get cs i ≡ Some c →
    (read_at w64 m (at + 16 * i) ≡ Some (code_address code c.from)) × (read_at w64 m (at + 16 * i + 8) ≡ Some (if c.region == Rattle.clu_handlers.specs.Cuts.no_region then 0 else row_address rows c.region))
cuts_there m code rows [] at h i c e = absurd (cc)
cuts_there m code rows (x ∷ cs) at h zero c e =
    let is : x ≡ c = cc in
    let same : at + 16 * 0 ≡ at = omega arith in
    subst (λ (y : Cut). (read_at w64 m (at + 16 * 0) ≡ Some (code_address code y.from)) × (read_at w64 m (at + 16 * 0 + 8) ≡ Some (if y.region == Rattle.clu_handlers.specs.Cuts.no_region then 0 else row_address rows y.region))) is
    (rw same (h.0.read, h.1.0.read))
cuts_there m code rows (x ∷ cs) at h (suc i) c e =
    let rest = cuts_there m code rows cs (at + 8 + 8) h.1.1 i c e in
    let same : at + 8 + 8 + 16 * i ≡ at + 16 * suc i = omega arith in
    subst (λ a. (read_at w64 m a ≡ Some (code_address code c.from)) × (read_at w64 m (a + 8) ≡ Some (if c.region == Rattle.clu_handlers.specs.Cuts.no_region then 0 else row_address rows c.region))) same rest

-- Arms, in the order of their rows.

abbrev pub flat_arm : Arm → ℕ → FlatArm
flat_arm a n = record { name = n; target = a.target; mark = a.mark }

abbrev pub flat_added : Bool → FlatArm → List FlatArm → List FlatArm
flat_added true a rest = a ∷ rest
flat_added false a rest = rest

abbrev pub flat_named : List Arm → List ℕ → List FlatArm → List FlatArm
flat_named [] names last = last
flat_named (a ∷ rest) [] last = last
flat_named (a ∷ rest) (n ∷ ns) last = flat_added (not (is_others a)) (flat_arm a n) (flat_named rest ns last)

abbrev pub flat_others : List Arm → List FlatArm
flat_others [] = []
flat_others (a ∷ rest) = flat_added (is_others a) (flat_arm a 0) (flat_others rest)

abbrev pub flat_arms : List Arm → List ℕ → List FlatArm
flat_arms arms names = flat_named arms names (flat_others arms)

row_there : (m : State) (code at : ℕ) (a : Arm) (n : ℕ) → at + 24 < 2 ^ 64 → Words m at (arm_row code n a) → ArmRow m (code_address code) at (flat_arm a n)
row_there m code at a n room h =
    let same : at + 8 + 8 ≡ at + 16 = omega arith in
    record { name = h.0.read; begins = h.1.0.read; mark = ap (read_at w64 m) (sym same) ∙ h.1.1.0.read; room = room }

others_there : (m : State) (code : ℕ) (arms : List Arm) (at : ℕ) → at + 24 * length (flat_others arms) < 2 ^ 64 → Words m at (other_rows code arms) → ArmRows m (code_address code) at (flat_others arms)
others_there m code [] at room h = tt
others_there m code (a ∷ rest) at room h = by (is_others a) room h (λ at r w. others_there m code rest at r w)
  where
    by : (b : Bool) → at + 24 * length (flat_added b (flat_arm a 0) (flat_others rest)) < 2 ^ 64 → Words m at (added_row b (arm_row code 0 a) ++ other_rows code rest) → ((at : ℕ) → at + 24 * length (flat_others rest) < 2 ^ 64 → Words m at (other_rows code rest) → ArmRows m (code_address code) at (flat_others rest)) →
        ArmRows m (code_address code) at (flat_added b (flat_arm a 0) (flat_others rest))
    by true room h more =
        let parts = words_split m at (arm_row code 0 a) (other_rows code rest) h in
        (row_there m code at a 0 (omega arith) parts.0, more (at + 24) (omega arith) parts.1)
    by false room h more = more at room h

own_there : (m : State) (code : ℕ) (arms all : List Arm) (names : List ℕ) (at : ℕ) → at + 24 * length (flat_named arms names (flat_others all)) < 2 ^ 64 → Words m at (named_rows code arms names ++ other_rows code all) → ArmRows m (code_address code) at (flat_named arms names (flat_others all))
own_there m code [] all names at room h = others_there m code all at room h
own_there m code (a ∷ rest) all [] at room h = others_there m code all at room h
own_there m code (a ∷ rest) all (n ∷ ns) at room h = by (not (is_others a)) room h (λ at r w. own_there m code rest all ns at r w)
  where
    more_rows : List ℕ
    more_rows = named_rows code rest ns ++ other_rows code all

    by : (b : Bool) → at + 24 * length (flat_added b (flat_arm a n) (flat_named rest ns (flat_others all))) < 2 ^ 64 → Words m at ((added_row b (arm_row code n a) ++ named_rows code rest ns) ++ other_rows code all) →
        ((at : ℕ) → at + 24 * length (flat_named rest ns (flat_others all)) < 2 ^ 64 → Words m at more_rows → ArmRows m (code_address code) at (flat_named rest ns (flat_others all))) →
        ArmRows m (code_address code) at (flat_added b (flat_arm a n) (flat_named rest ns (flat_others all)))
    by true room h more =
        let parts = words_split m at (arm_row code n a) more_rows h in
        (row_there m code at a n (omega arith) parts.0, more (at + 24) (omega arith) parts.1)
    by false room h more = more at room h

-- the arms of a region, those of all names last
pub arms_there : (m : State) (code : ℕ) (arms : List Arm) (names : List ℕ) (at : ℕ) → at + 24 * length (flat_arms arms names) < 2 ^ 64 → Words m at (own_rows code arms names) → ArmRows m (code_address code) at (flat_arms arms names)
arms_there m code arms names at room h = own_there m code arms arms names at room h

-- Regions.

abbrev pub flat_region : Region → List ℕ → FlatRegion
flat_region r names = record { first = r.first; last = r.last; parent = r.parent; arms = flat_arms r.arms (take (length r.arms) names) }

abbrev pub flat_regions : List Region → List ℕ → List FlatRegion
flat_regions [] names = []
flat_regions (r ∷ rs) names = flat_region r names ∷ flat_regions rs (drop (length r.arms) names)

abbrev pub arm_count : List Region → ℕ
arm_count [] = 0
arm_count (r ∷ rs) = length r.arms + arm_count rs

named_count : (arms : List Arm) (names : List ℕ) (last : List FlatArm) → length arms ≤ length names → length (flat_named arms names last) + length (flat_others arms) ≡ length arms + length last
named_count [] names last l = omega arith
named_count (a ∷ rest) [] last l = absurd (omega arith)
named_count (a ∷ rest) (n ∷ ns) last l = by (is_others a) (named_count rest ns last (omega arith))
  where
    by : (b : Bool) → length (flat_named rest ns last) + length (flat_others rest) ≡ length rest + length last → length (flat_added (not b) (flat_arm a n) (flat_named rest ns last)) + length (flat_added b (flat_arm a 0) (flat_others rest)) ≡ suc (length rest) + length last
    by true e = omega arith
    by false e = omega arith

pub arms_count : (arms : List Arm) (names : List ℕ) → length arms ≤ length names → length (flat_arms arms names) ≡ length arms
arms_count arms names l = let e = named_count arms names (flat_others arms) l in omega arith

pub row_is : (rows n : ℕ) → rows + 24 * n < 2 ^ 64 → row_address rows n ≡ rows + 24 * n
row_is rows n l = grind arith

parent_is : (rows : ℕ) (o : Option ℕ) → ((p : ℕ) → o ≡ Some p → rows + 24 * p < 2 ^ 64) → region_address rows o ≡ row_of rows o
parent_is rows None l = refl
parent_is rows (Some p) l = row_is rows p (l p refl)

abbrev pub Parents : (ℕ → Type 0) → List Region → Type 0
Parents P [] = Unit {0}
Parents P (r ∷ rs) = ((p : ℕ) → r.parent ≡ Some p → P p) × Parents P rs

others_words : (code : ℕ) (arms : List Arm) → 8 * length (other_rows code arms) ≡ 24 * length (flat_others arms)
others_words code [] = refl
others_words code (a ∷ rest) = by (is_others a) (others_words code rest)
  where
    by : (b : Bool) → 8 * length (other_rows code rest) ≡ 24 * length (flat_others rest) → 8 * length (added_row b (arm_row code 0 a) ++ other_rows code rest) ≡ 24 * length (flat_added b (flat_arm a 0) (flat_others rest))
    by true e = omega arith
    by false e = e

named_words : (code : ℕ) (arms all : List Arm) (names : List ℕ) → 8 * length (named_rows code arms names ++ other_rows code all) ≡ 24 * length (flat_named arms names (flat_others all))
named_words code [] all names = others_words code all
named_words code (a ∷ rest) all [] = others_words code all
named_words code (a ∷ rest) all (n ∷ ns) = by (not (is_others a)) (named_words code rest all ns)
  where
    by : (b : Bool) → 8 * length (named_rows code rest ns ++ other_rows code all) ≡ 24 * length (flat_named rest ns (flat_others all)) →
        8 * length ((added_row b (arm_row code n a) ++ named_rows code rest ns) ++ other_rows code all) ≡ 24 * length (flat_added b (flat_arm a n) (flat_named rest ns (flat_others all)))
    by true e = omega arith
    by false e = e

own_words : (code : ℕ) (arms : List Arm) (names : List ℕ) → length arms ≤ length names → 8 * length (own_rows code arms names) ≡ 24 * length arms
own_words code arms names l = named_words code arms arms names ∙ ap (λ n. 24 * n) (arms_count arms names l)

pub regions_there : (m : State) (code rows : ℕ) (rs : List Region) (names : List ℕ) (k arms : ℕ) → Words m (rows + 24 * k) (region_rows rows arms rs) → Words m arms (arm_rows code rs names) → arm_count rs ≤ length names →
    arms + 24 * arm_count rs + 24 < 2 ^ 64 → Parents (λ p. rows + 24 * p < 2 ^ 64) rs → (n : ℕ) (r : FlatRegion) → slice_get (flat_regions rs names) n ≡ Some r → RegionRow m (code_address code) rows (k + n) r
regions_there m code rows [] names k arms h g enough room ps n r e = absurd (cc)
regions_there m code rows (x ∷ rs) names k arms h g enough room ps zero r e = subst (λ (y : FlatRegion). RegionRow m (code_address code) rows (k + 0) y) is row
  where
    is : flat_region x names ≡ r
    is = cc

    own : List ℕ
    own = take (length x.arms) names

    count : length (flat_arms x.arms own) ≡ length x.arms
    count = arms_count x.arms own (omega (arith, Rattle.std.proofs.lemmas.List.length-take (length x.arms) names))

    same : rows + 24 * (k + 0) ≡ rows + 24 * k
    same = omega arith

    up : rows + 24 * k + 8 + 8 ≡ rows + 24 * (k + 0) + 16
    up = omega arith

    parts : Words m arms (own_rows code x.arms own) × Words m (arms + 8 * length (own_rows code x.arms own)) (arm_rows code rs (drop (length x.arms) names))
    parts = words_split m arms (own_rows code x.arms own) (arm_rows code rs (drop (length x.arms) names)) g

    end_is : row_address arms (length x.arms) ≡ arms + 24 * length (flat_arms x.arms own)
    end_is = row_is arms (length x.arms) (omega arith) ∙ ap (λ n. arms + 24 * n) (sym count)

    row : RegionRow m (code_address code) rows (k + 0) (flat_region x names)
    row = record {
      parent = ap (read_at w64 m) same ∙ h.0.read ∙ ap Some (parent_is rows x.parent ps.0);
      at = arms;
      first = ap (λ a. read_at w64 m (a + 8)) same ∙ h.1.0.read;
      end = ap (read_at w64 m) (sym up) ∙ h.1.1.0.read ∙ ap Some end_is;
      room = rw count (omega arith);
      arms = arms_there m code x.arms own arms (rw count (omega arith)) parts.0;
    }
regions_there m code rows (x ∷ rs) names k arms h g enough room ps (suc n) r e =
    let own = take (length x.arms) names in
    let parts = words_split m arms (own_rows code x.arms own) (arm_rows code rs (drop (length x.arms) names)) g in
    let at : row_address arms (length x.arms) ≡ arms + 24 * length x.arms = row_is arms (length x.arms) (omega arith) in
    let words : arms + 8 * length (own_rows code x.arms own) ≡ arms + 24 * length x.arms = ap (λ n. arms + n) (own_words code x.arms own (omega (arith, Rattle.std.proofs.lemmas.List.length-take (length x.arms) names))) in
    let next : rows + 24 * k + 8 + 8 + 8 ≡ rows + 24 * suc k = omega arith in
    let more : Words m (rows + 24 * suc k) (region_rows rows (arms + 24 * length x.arms) rs) = subst (λ a. Words m a (region_rows rows (arms + 24 * length x.arms) rs)) next (subst (λ a. Words m (rows + 24 * k + 8 + 8 + 8) (region_rows rows a rs)) at h.1.1.1) in
    let rest : Words m (arms + 24 * length x.arms) (arm_rows code rs (drop (length x.arms) names)) = subst (λ a. Words m a (arm_rows code rs (drop (length x.arms) names))) words parts.1 in
    let index : suc k + n ≡ k + suc n = omega arith in
    subst (λ i. RegionRow m (code_address code) rows i r) index
    (regions_there m code rows rs (drop (length x.arms) names) (suc k) (arms + 24 * length x.arms) more rest (omega (arith, Rattle.std.proofs.lemmas.List.length-drop (length x.arms) names)) (omega arith) ps.1 n r e)
