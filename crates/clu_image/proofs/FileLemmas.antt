-- The fields of a file by its bytes.

use Rattle.std.proofs.Common.{◌≡◌, ℕ, ◌+◌, ◌-◌, ◌*◌, ◌≤◌, Bool, true, false, cond, List, [], ◌∷◌, ◌++◌, length, take, drop, Option, Some, None, refl, ap, sym, ◌∙◌, append_assoc, arith, length-take, length-drop}
use Rattle.std.proofs.lemmas.Bool.Decides.{nat_tests}
use Rattle.std.proofs.lemmas.List.{take-append-drop, drop-drop, take_rest}
use Rattle.std.proofs.Math.Seq.{take-add}
use Rattle.std.proofs.lemmas.Grind.{flat_map-append}
use Rattle.std.specs.List.{flat_map}
use Rattle.clu_image.specs.ImageFile.{number_bytes}
use Rattle.clu_image.specs.Faults.{Field, first_fault, head_fields, part_fields, fault_of, words_of, fixed_size_of, area_size_of, code_at}

-- good fields before others hide no fault of those

pub first_fault-head : (b : Bool) (at : ℕ) (rest : Option ℕ) → cond b rest (Some at) ≡ None → (b ≡ true) × (rest ≡ None)
first_fault-head true at rest e = (refl, e)
first_fault-head false at rest e = absurd cc

first_fault-append : (xs ys : List Field) → first_fault xs ≡ None → first_fault (xs ++ ys) ≡ first_fault ys
first_fault-append [] ys h = refl
first_fault-append (f ∷ xs) ys h =
    let parts = first_fault-head f.is_good f.at (first_fault xs) h in
    let good : f.is_good ≡ true = parts.0 in
    rw good (first_fault-append xs ys parts.1)

-- a good head before parts of just the sizes that it tells
pub no_fault : (b : List ℕ) (w k d : ℕ) → first_fault (head_fields b) ≡ None
    → words_of b ≡ Some w → fixed_size_of b ≡ Some k → area_size_of b ≡ Some d
    → length b ≡ code_at b + 4 * w + k + d → fault_of b ≡ None
no_fault b w k d h hw hk hd len =
    first_fault-append (head_fields b) (part_fields b) h ∙ rw (hw, hk, hd) (grind (arith, nat_tests))

-- what is left from place `at` is three slices of m, n and the other bytes
pub record IsCut (b : List ℕ) (at m n : ℕ) : Type 0 where
  pub first : length (take (at + m - at) (drop at b)) ≡ m
  pub second : length (take (at + m + n - (at + m)) (drop (at + m) b)) ≡ n
  pub third : length (take (length b - (at + m + n)) (drop (at + m + n) b)) ≡ length b - (at + m + n)
  pub all : drop at b ≡ take (at + m - at) (drop at b) ++ take (at + m + n - (at + m)) (drop (at + m) b) ++ take (length b - (at + m + n)) (drop (at + m + n) b)

pub three_parts : (b : List ℕ) (at m n : ℕ) → at + m + n ≤ length b → IsCut b at m n
three_parts b at m n within =
    let m_is : at + m - at ≡ m = omega arith in
    let n_is : at + m + n - (at + m) ≡ n = omega arith in
    let rest : take (length b - (at + m + n)) (drop (at + m + n) b) ≡ drop (at + m + n) b = take_rest b (at + m + n) in
    let two : drop m (drop at b) ≡ drop (at + m) b = drop-drop m at b in
    let three : drop n (drop (at + m) b) ≡ drop (at + m + n) b = drop-drop n (at + m) b in
    let left : drop (at + m) b ≡ take n (drop (at + m) b) ++ drop (at + m + n) b = sym (take-append-drop n (drop (at + m) b)) ∙ ap (λ (r : List ℕ). take n (drop (at + m) b) ++ r) three in
    let whole : drop at b ≡ take m (drop at b) ++ drop (at + m) b = sym (take-append-drop m (drop at b)) ∙ ap (λ (r : List ℕ). take m (drop at b) ++ r) two in
    record {
      first = simp (length-take, length-drop) (omega arith);
      second = simp (length-take, length-drop) (omega arith);
      third = simp (length-take, length-drop) (omega arith);
      all = rw (m_is, n_is, rest) (whole ∙ ap (λ (r : List ℕ). take m (drop at b) ++ r) left ∙ sym (append_assoc (take m (drop at b)) (take n (drop (at + m) b)) (drop (at + m + n) b)));
    }

-- one more number after those that were read
pub numbers_more : (ns bytes : List ℕ) (n i : ℕ) → flat_map number_bytes ns ≡ take (4 * i) bytes
    → number_bytes n ≡ take 4 (drop (4 * i) bytes) → flat_map number_bytes (ns ++ n ∷ []) ≡ take (4 * (i + 1)) bytes
numbers_more ns bytes n i before here =
    let one : flat_map number_bytes (ns ++ n ∷ []) ≡ flat_map number_bytes ns ++ (number_bytes n ++ []) = flat_map-append number_bytes ns (n ∷ []) in
    let places : 4 * (i + 1) ≡ 4 * i + 4 = omega arith in
    one ∙ rw (before, places, take-add (4 * i) 4 bytes) (ap (λ (r : List ℕ). take (4 * i) bytes ++ r) here)
