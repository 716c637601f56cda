-- A file of an image has its contents and no fault, and is the file of no other image.

use Rattle.std.proofs.Common.{◌≡◌, ℕ, ◌+◌, ◌-◌, ◌*◌, ◌^◌, ◌<◌, nat_le, nat_lt, true, false, List, [], ◌∷◌, ◌++◌, length, take, drop, Some, None, refl, ap, sym, ◌∙◌, arith, length-drop, length-append, ◌⊎◌, inl, inr, nat_eq, subst, suc, codes}
use Rattle.std.proofs.lemmas.Bool.Decides.{nat_tests}
use Rattle.std.proofs.lemmas.List.{append-nil, take_at, drop_at}
use Rattle.std.specs.List.{flat_map, starts_with}
use Rattle.byteorder.specs.Endian.{little_number}
use Rattle.byteorder.specs.Numbers.{little_number-reads_back}
use Rattle.clu_base.specs.Fields.{field_at}
use Rattle.rv_isa.specs.Image.{Contents, IsImage, AreWords, max_words, max_bytes}
use Rattle.clu_image.specs.ImageFile.{number_bytes, image_bytes, first_version_bytes, IsFileOf}
use Rattle.clu_image.specs.Faults.{first_fault, head_fields, entry_of, words_of, fixed_size_of, area_size_of, code_at, is_version_1, is_version}
use Rattle.clu_image.specs.Header.{AreBounded}
use Rattle.clu_image.specs.Parts.{HasContents}
use Rattle.clu_image.proofs.FileLemmas.{no_fault}

-- a number that stands among the bytes is read
field-there : (b rest : List ℕ) (at n : ℕ) → drop at b ≡ number_bytes n ++ rest → n < 2 ^ 32 → field_at 4 b at ≡ Some n
field-there b rest at n e h =
    let size : length b - at ≡ 4 + length rest = omega (arith, length-drop at b, ap length e) in
    let within : nat_le (at + 4) (length b) ≡ true = grind (arith, nat_tests, size) in
    let value : little_number 4 (drop at b) ≡ n = rw e (little_number-reads_back 4 n rest h) in
    rw (within, value) refl

-- a head of numbers within their bounds has no fault
good_head : (b : List ℕ) (v e w k d : ℕ) → starts_with nat_eq b (codes "CLUI") ≡ true → (v ≡ 1) ⊎ (v ≡ 2) → field_at 4 b 4 ≡ Some v
    → entry_of b ≡ Some e → words_of b ≡ Some w → fixed_size_of b ≡ Some k → area_size_of b ≡ Some d → AreBounded e w k d
    → first_fault (head_fields b) ≡ None
good_head b v e w k d signature version hv he hw hk hd bounds =
    let good_version : is_version v ≡ true = elim version [ inl one ↦ rw one refl | inr two ↦ rw two refl ] in
    let enters : nat_lt e w ≡ true = grind (arith, nat_tests, bounds) in
    let few : nat_le w max_words ≡ true = grind (arith, nat_tests, bounds) in
    let fixed_fits : nat_le (0 + k) max_bytes ≡ true = grind (arith, nat_tests, bounds) in
    let area_fits : nat_le (k + d) max_bytes ≡ true = grind (arith, nat_tests, bounds) in
    rw (signature, hk, hd, he, hw, hv, good_version, enters, few, bounds.whole_fixed, fixed_fits, bounds.whole_area, area_fits) refl

-- an image's bounds are those of the head of its file
bounds_of : (i : Contents) → IsImage i → AreBounded i.entry (length i.code) (length i.fixed) (length i.area)
bounds_of i h = record { enters = h.entry; few_words = h.code; whole_fixed = h.fixed; whole_area = h.area; room = h.room }

length-words : (ws : List ℕ) → length (flat_map number_bytes ws) ≡ 4 * length ws
length-words [] = refl
length-words (w ∷ ws) = omega (arith, length-words ws)

second_version : (i : Contents) → IsImage i → HasContents (image_bytes i) i
second_version i h =
    let b : List ℕ = image_bytes i in
    let n = number_bytes in
    let version = field-there b (n i.entry ++ n (length i.code) ++ n (length i.fixed) ++ n (length i.area) ++ flat_map n i.code ++ i.fixed ++ i.area) 4 2 refl (omega arith) in
    let entry = field-there b (n (length i.code) ++ n (length i.fixed) ++ n (length i.area) ++ flat_map n i.code ++ i.fixed ++ i.area) 8 i.entry refl (omega arith) in
    let words = field-there b (n (length i.fixed) ++ n (length i.area) ++ flat_map n i.code ++ i.fixed ++ i.area) 12 (length i.code) refl (omega arith) in
    let fixed_there = field-there b (n (length i.area) ++ flat_map n i.code ++ i.fixed ++ i.area) 16 (length i.fixed) refl (omega arith) in
    let area_there = field-there b (flat_map n i.code ++ i.fixed ++ i.area) 20 (length i.area) refl (omega arith) in
    let second : is_version_1 b ≡ false = rw version refl in
    let fixed : fixed_size_of b ≡ Some (length i.fixed) = rw second fixed_there in
    let area : area_size_of b ≡ Some (length i.area) = rw second area_there in
    let head = good_head b 2 i.entry (length i.code) (length i.fixed) (length i.area) refl (inr refl) version entry words fixed area (bounds_of i h) in
    let start : code_at b ≡ 24 = rw second refl in
    let size : length b ≡ 24 + 4 * length i.code + length i.fixed + length i.area =
    omega (arith, length-words i.code, length-append (flat_map n i.code ++ i.fixed) i.area, length-append (flat_map n i.code) i.fixed) in
    record {
      good = no_fault b (length i.code) (length i.fixed) (length i.area) head words fixed area (rw start size);
      entry = entry;
      words = words;
      fixed = fixed;
      area = area;
      rest = rw start refl;
      image = h;
    }

first_version : (i : Contents) → IsImage i → i.fixed ≡ [] → HasContents (first_version_bytes i) i
first_version i h none =
    let b : List ℕ = first_version_bytes i in
    let n = number_bytes in
    let version = field-there b (n i.entry ++ n (length i.code) ++ n (length i.area) ++ flat_map n i.code ++ i.area) 4 1 refl (omega arith) in
    let entry = field-there b (n (length i.code) ++ n (length i.area) ++ flat_map n i.code ++ i.area) 8 i.entry refl (omega arith) in
    let words = field-there b (n (length i.area) ++ flat_map n i.code ++ i.area) 12 (length i.code) refl (omega arith) in
    let area_there = field-there b (flat_map n i.code ++ i.area) 16 (length i.area) refl (omega arith) in
    let first : is_version_1 b ≡ true = rw version refl in
    let fixed : fixed_size_of b ≡ Some (length i.fixed) = rw (first, none) refl in
    let area : area_size_of b ≡ Some (length i.area) = rw first area_there in
    let head = good_head b 1 i.entry (length i.code) (length i.fixed) (length i.area) refl (inl refl) version entry words fixed area (bounds_of i h) in
    let start : code_at b ≡ 20 = rw first refl in
    let no_bytes : length i.fixed ≡ 0 = rw none refl in
    let size : length b ≡ 20 + 4 * length i.code + length i.fixed + length i.area =
    omega (arith, length-words i.code, length-append (flat_map n i.code) i.area) in
    record {
      good = no_fault b (length i.code) (length i.fixed) (length i.area) head words fixed area (rw start size);
      entry = entry;
      words = words;
      fixed = fixed;
      area = area;
      rest = rw (start, none, append-nil (flat_map n i.code)) refl;
      image = h;
    }

pub contents_of_file : (b : List ℕ) (i : Contents) → IsFileOf b i → HasContents b i
contents_of_file b i h =
    let P : List ℕ → Type 0 = λ (bytes : List ℕ). HasContents bytes i in
    elim h.is [
      | inl second ↦ subst P (sym second) (second_version i h.image)
      | inr first ↦ subst P (sym first.1) (first_version i h.image first.0)
    ]

-- no other contents

same_parts : (a b c d : List ℕ) → length a ≡ length c → a ++ b ≡ c ++ d → (a ≡ c) × (b ≡ d)
same_parts a b c d l e = (
  sym (take_at a b (length c) l) ∙ ap (take (length c)) e ∙ take_at c d (length c) refl,
  sym (drop_at a b (length c) l) ∙ ap (drop (length c)) e ∙ drop_at c d (length c) refl,
)

same_number : (m n : ℕ) → m < 2 ^ 32 → n < 2 ^ 32 → number_bytes m ≡ number_bytes n → m ≡ n
same_number m n h k e =
    let left : little_number 4 (number_bytes m ++ []) ≡ m = little_number-reads_back 4 m [] h in
    let right : little_number 4 (number_bytes n ++ []) ≡ n = little_number-reads_back 4 n [] k in
    sym left ∙ ap (λ (xs : List ℕ). little_number 4 (xs ++ [])) e ∙ right

same_words : (ws vs : List ℕ) → AreWords ws → AreWords vs → length ws ≡ length vs → flat_map number_bytes ws ≡ flat_map number_bytes vs → ws ≡ vs
same_words [] [] h k l e = refl
same_words [] (v ∷ vs) h k l e = absurd (omega arith)
same_words (w ∷ ws) [] h k l e = absurd (omega arith)
same_words (w ∷ ws) (v ∷ vs) h k l e =
    let parts = same_parts (number_bytes w) (flat_map number_bytes ws) (number_bytes v) (flat_map number_bytes vs) refl e in
    let first : w ≡ v = same_number w v (h 0 0 (omega arith)) (k 0 0 (omega arith)) parts.0 in
    let others : ws ≡ vs = same_words ws vs (λ i d m. h (suc i) d (omega arith)) (λ i d m. k (suc i) d (omega arith)) (omega arith) parts.1 in
    rw (first, others) refl

pub same_contents : (b : List ℕ) (i j : Contents) → HasContents b i → HasContents b j → i ≡ j
same_contents b i j h k =
    let entry : i.entry ≡ j.entry = some_same (sym h.entry ∙ k.entry) in
    let words : length i.code ≡ length j.code = some_same (sym h.words ∙ k.words) in
    let fixed : length i.fixed ≡ length j.fixed = some_same (sym h.fixed ∙ k.fixed) in
    let n = number_bytes in
    let rests : flat_map n i.code ++ i.fixed ++ i.area ≡ flat_map n j.code ++ j.fixed ++ j.area = sym h.rest ∙ k.rest in
    let code_size : length (flat_map n i.code) ≡ length (flat_map n j.code) = omega (arith, length-words i.code, length-words j.code) in
    let front_size : length (flat_map n i.code ++ i.fixed) ≡ length (flat_map n j.code ++ j.fixed) =
    omega (arith, length-append (flat_map n i.code) i.fixed, length-append (flat_map n j.code) j.fixed) in
    let area = same_parts (flat_map n i.code ++ i.fixed) i.area (flat_map n j.code ++ j.fixed) j.area front_size rests in
    let front = same_parts (flat_map n i.code) i.fixed (flat_map n j.code) j.fixed code_size area.0 in
    let code = same_words i.code j.code h.image.code_words k.image.code_words words front.0 in
    same_image entry code front.1 area.1
  where
    some_same : {x y : ℕ} → Some x ≡ Some y → x ≡ y
    some_same e = cc

    same_image : i.entry ≡ j.entry → i.code ≡ j.code → i.fixed ≡ j.fixed → i.area ≡ j.area → i ≡ j
    same_image e c f a = rw (e, c, f, a) refl
