-- The regions of a guard's list take what its arms take, and pass the others on to the regions round it.
use Rattle.std.proofs.Common.{◌≡◌, ◌∙◌, ◌⊎◌, inl, inr, ℕ, suc, ◌<◌, ◌≤◌, ◌==◌, false, List, [], ◌∷◌, length, Option, Some, None, slice_get, refl, ap, sym, arith}
use Rattle.std.specs.Str.{bytes_eq}
use Rattle.std.proofs.lemmas.Bool.{eqb-true}
use Rattle.std.proofs.lemmas.Bool.Decides.{nat_tests}
use Rattle.std.proofs.lemmas.Option.{same_Some}
use Rattle.clu_base.proofs.Bools.{same_truth}
use Rattle.clu_base.proofs.Lists.{as_bytes, same_bytes}
use Rattle.clu_wir.specs.Adding.{Added}
use Rattle.clu_wir.specs.declared.region.Arm.{Arm}
use Rattle.clu_frames.specs.Flattening.{Made, Round, closed, labelled, opened}
use Rattle.clu_flat_meaning.specs.Image.{FlatArm}
use Rattle.clu_flat_meaning.specs.Machine.{arm_at, arm_in, arm_named, or_else}
use Rattle.laws_frames.specs.Tables.{arm_word, flat_arms, flat_region, table_of}
use Rattle.laws_frames.proofs.Relation.{Place, regions}
use Rattle.laws_frames.proofs.Rows.{Homes}
use Rattle.laws_frames.proofs.Growing.{Own, below_or}
use Rattle.laws_frames.proofs.Arming.{Has, Hit, Tells}
use Rattle.laws_frames.proofs.Seeking.{begins_after, one_more, round_at, same_from, seat, seek_in}
use Rattle.laws_frames.proofs.Standing.{Part, Stands, at_own, is_own, none_above, outside_own, same_below, seat_own}

-- the words of names are told apart
module _ (name_of : ℕ → Option (List ℕ)) (word : List ℕ → ℕ) where
  pub record Telling : Type 0 where
    pub names : (v : ℕ) (name : List ℕ) → name_of v ≡ Some name → word name ≡ v
    pub zero_word : name_of 0 ≡ None
    pub filled : (v : ℕ) → name_of v ≡ Some [] → ⊥

  -- a name that has a word
  abbrev pub Known : List ℕ → Type 0
  Known n = name_of (word n) ≡ Some n

  module _ (t : Telling) where
    word_is : (n : List ℕ) → Known n → arm_word word n ≡ word n
    word_is [] k = absurd (t.filled (word []) k)
    word_is (letter ∷ letters) k = refl

    not_zero : (v : ℕ) (name : List ℕ) → name_of v ≡ Some name → v ≡ 0 → ⊥
    not_zero v name e z = some_none name (sym e ∙ ap name_of z ∙ t.zero_word)
      where
        some_none : (name : List ℕ) → Some name ≡ None → ⊥
        some_none name e = absurd (cc)

    pub others_apart : (v : ℕ) (name : List ℕ) → name_of v ≡ Some name → (0 == v) ≡ false
    others_apart v name e = let d : v ≡ 0 → ⊥ = not_zero v name e in grind (arith, nat_tests, d)

    pub tells : (v : ℕ) (name : List ℕ) → name_of v ≡ Some name → (n : List ℕ) → Known n → Tells word v name n
    tells v name e n k = record {
      same = same_truth (arm_word word n == v) (bytes_eq n name)
          (λ h. as_bytes n name (same_Some n name (sym k ∙ ap name_of (sym (word_is n k) ∙ eqb-true (arm_word word n) v h) ∙ e)))
          (λ h. let z : arm_word word n ≡ v = word_is n k ∙ ap word (same_bytes n name h) ∙ t.names v name e in grind (arith, nat_tests, z));
      filled = let d : arm_word word n ≡ 0 → ⊥ = λ z. not_zero (word n) n k (sym (word_is n k) ∙ z) in grind (arith, nat_tests, d);
    }

module _ (p : Place) (word : List ℕ → ℕ) (rs : List Added) (table : regions p ≡ table_of word rs) (seeks : (region : Option ℕ) (v : ℕ) → p.seek region v ≡ seek_in word rs region v) where
  -- places of a part that adds no region are in the region that it stands in
  pub homes_at : (round : Round) (m m' : Made) → Stands p.shape.code rs round m m' → length m'.regions ≡ length m.regions → Homes p round.region (length m.code) (length m'.code)
  homes_at round m m' s same = record {
    home = λ i low high. record { finds = λ v. ap (λ t. arm_at t i v) table ∙ same_from word v rs None i (seat rs round.region) (λ k r h. at_region i k r h low high (below_or k (length m.regions))) ∙ sym (seeks round.region v) };
  }
    where
      at_region : (i k : ℕ) (r : Added) → slice_get rs k ≡ Some r → length m.code ≤ i → i < length m'.code → (k < length m.regions) ⊎ (length m.regions ≤ k) → round_at i r ≡ round_at (seat rs round.region) r
      at_region i k r h low high (inl under) = s.here i k r h under low high
      at_region i k r h low high (inr over) = begins_after i r (omega (arith, s.behind k r h (omega (arith, over, same)), high)) ∙ sym (s.apart k r h over)

  -- A list with its region.
  module _ (round : Round) (count end : ℕ) (m m2 m' : Made) (s : Stands p.shape.code rs round m m') (inner : Part (suc (length m.regions)) (opened round.region (labelled count m)) m2)
      (after : Part (suc (length m.regions)) (closed (length m.regions) end m2) m') (own : Own (length m.regions) (length m.code) (length m2.code) m') where
    abbrev n : ℕ
    n = length m.regions

    -- the arms of the region, and those of the regions round it
    pub seek_own : (v : ℕ) → p.seek (Some n) v ≡ or_else (arm_in v (flat_region word own.region)) (p.seek round.region v)
    seek_own v =
        seeks (Some n) v ∙ ap (λ i. arm_at (table_of word rs) i v) (seat_own p.shape.code rs round count end m m2 m' s inner after own)
        ∙ one_more word v rs n own.region None (length m2.code) (seat rs round.region) (is_own p.shape.code rs round count end m m2 m' s inner after own)
        (at_own p.shape.code rs round count end m m2 m' s inner after own) (outside_own p.shape.code rs round count end m m2 m' s inner after own)
        (same_below p.shape.code rs round count end m m2 m' s inner after own) (none_above p.shape.code rs round count end m m2 m' s inner after own)
        (λ k r h l. s.apart k r h (omega (arith, l)))
        ∙ ap (or_else (arm_in v (flat_region word own.region))) (sym (seeks round.region v))

    -- the arms are these
    module _ (arms : List Arm) (has : Has n arms m') where
      arms_own : own.region.arms ≡ arms
      arms_own = ap (λ (r : Added). r.arms) (same_Some own.region has.region (sym own.is ∙ has.is)) ∙ has.arms_are

      pub seek_arms : (v : ℕ) → p.seek (Some n) v ≡ or_else (or_else (arm_named v (flat_arms word arms)) (arm_named 0 (flat_arms word arms))) (p.seek round.region v)
      seek_arms v = seek_own v ∙ ap (λ (l : List Arm). or_else (or_else (arm_named v (flat_arms word l)) (arm_named 0 (flat_arms word l))) (p.seek round.region v)) arms_own

-- By cases on what takes a name.

pub first_hit : (a b c : Option FlatArm) (target mark : ℕ) → Hit a target mark → Hit (or_else (or_else a b) c) target mark
first_hit a b c target mark h = record { arm = h.arm; is = ap (λ (x : Option FlatArm). or_else (or_else x b) c) h.is; begins = h.begins; marks = h.marks }

pub second_hit : (a b c : Option FlatArm) (target mark : ℕ) → a ≡ None → Hit b target mark → Hit (or_else (or_else a b) c) target mark
second_hit a b c target mark e h =
    record { arm = h.arm; is = ap (λ (x : Option FlatArm). or_else (or_else x b) c) e ∙ ap (λ (x : Option FlatArm). or_else x c) h.is; begins = h.begins; marks = h.marks }

pub no_hit : (a b c : Option FlatArm) → a ≡ None → b ≡ None → or_else (or_else a b) c ≡ c
no_hit a b c e f = ap (λ (x : Option FlatArm). or_else (or_else x b) c) e ∙ ap (λ (x : Option FlatArm). or_else x c) f
