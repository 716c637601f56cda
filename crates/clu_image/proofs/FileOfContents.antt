-- Bytes without a fault are a file of their contents.

use Rattle.std.proofs.Common.{◌≡◌, ℕ, ◌+◌, ◌*◌, ◌/◌, ◌%◌, ◌^◌, ◌<◌, ◌≤◌, ◌==◌, ◌||◌, nat_le, Bool, true, false, cond, List, [], ◌∷◌, ◌++◌, length, take, drop, Option, Some, None, refl, ap, sym, ◌∙◌, append_assoc, arith, length-drop, ◌⊎◌, inl, inr, nat_eq, codes}
use Rattle.std.proofs.lemmas.Bool.Decides.{nat_tests}
use Rattle.std.proofs.lemmas.List.{take-append-drop, drop-drop, get_or-drop, append-nil, nil_from_length}
use Rattle.std.specs.Cmp.Lexicographic.{bytes_decides}
use Rattle.std.specs.List.{flat_map, starts_with}
use Rattle.byteorder.specs.Endian.{little_number}
use Rattle.clu_base.specs.Fields.{field_at}
use Rattle.rv_isa.specs.Image.{Contents, AreBytes}
use Rattle.clu_image.specs.ImageFile.{number_bytes, IsFileOf}
use Rattle.clu_image.specs.Faults.{is_version_1, is_version, passes}
use Rattle.clu_image.specs.Parts.{HasContents}
use Rattle.clu_image.proofs.FileLemmas.{first_fault-head}

-- the bytes of the number that four bytes make are those bytes
number_bytes-number : (xs : List ℕ) → 4 ≤ length xs → AreBytes xs → number_bytes (little_number 4 xs) ++ drop 4 xs ≡ xs
number_bytes-number [] l h = absurd (omega arith)
number_bytes-number (a ∷ []) l h = absurd (omega arith)
number_bytes-number (a ∷ b ∷ []) l h = absurd (omega arith)
number_bytes-number (a ∷ b ∷ c ∷ []) l h = absurd (omega arith)
number_bytes-number (a ∷ b ∷ c ∷ d ∷ xs) l h =
    let a_fits : a < 256 = h 0 0 (omega arith) in
    let b_fits : b < 256 = h 1 0 (omega arith) in
    let c_fits : c < 256 = h 2 0 (omega arith) in
    let d_fits : d < 256 = h 3 0 (omega arith) in
    let first : (a + 256 * (b + 256 * (c + 256 * (d + 0)))) % 256 ≡ a = omega arith in
    let second : (a + 256 * (b + 256 * (c + 256 * (d + 0)))) / 256 % 256 ≡ b = omega arith in
    let third : (a + 256 * (b + 256 * (c + 256 * (d + 0)))) / 256 ^ 2 % 256 ≡ c = omega arith in
    let fourth : (a + 256 * (b + 256 * (c + 256 * (d + 0)))) / 256 ^ 3 % 256 ≡ d = omega arith in
    rw (first, second, third, fourth) refl

-- a number of the bytes, and what follows it

some_if : (t : Bool) (m n : ℕ) → cond t (Some m) None ≡ Some n → (t ≡ true) × (m ≡ n)
some_if true m n e = (refl, cc)
some_if false m n e = absurd cc

bytes_from : (b : List ℕ) (at : ℕ) → AreBytes b → AreBytes (drop at b)
bytes_from b at h = λ k d l. rw get_or-drop (h (at + k) d (omega (arith, length-drop at b)))

pub field-bytes : (b : List ℕ) (at n : ℕ) → AreBytes b → field_at 4 b at ≡ Some n → drop at b ≡ number_bytes n ++ drop (at + 4) b
field-bytes b at n h e =
    let parts = some_if (nat_le (at + 4) (length b)) (little_number 4 (drop at b)) n e in
    let within : at + 4 ≤ length b = grind (arith, nat_tests, parts.0) in
    let is_number : little_number 4 (drop at b) ≡ n = parts.1 in
    let rest : drop 4 (drop at b) ≡ drop (at + 4) b = drop-drop 4 at b in
    let whole = number_bytes-number (drop at b) (omega (arith, length-drop at b)) (bytes_from b at h) in
    sym whole ∙ rw (is_number, rest) refl

signature-bytes : (b : List ℕ) → starts_with nat_eq b (codes "CLUI") ≡ true → b ≡ codes "CLUI" ++ drop 4 b
signature-bytes b h =
    let same : codes "CLUI" ≡ take 4 b = (bytes_decides (codes "CLUI") (take 4 b)).0 h in
    sym (take-append-drop 4 b) ∙ ap (λ (r : List ℕ). r ++ drop 4 b) (sym same)

-- pieces, each with what follows it, are joined to one list

join_first : (b s v e w a code area d1 d2 d3 d4 d5 : List ℕ) → b ≡ s ++ d1 → d1 ≡ v ++ d2 → d2 ≡ e ++ d3 → d3 ≡ w ++ d4 → d4 ≡ a ++ d5 → d5 ≡ code ++ [] ++ area
    → b ≡ s ++ v ++ e ++ w ++ a ++ code ++ area
join_first b s v e w a code area d1 d2 d3 d4 d5 h1 h2 h3 h4 h5 h6 = rw (h1, h2, h3, h4, h5, h6) (simp (append_assoc, append-nil))

join_second : (b s v e w k a code fixed area d1 d2 d3 d4 d5 d6 : List ℕ) → b ≡ s ++ d1 → d1 ≡ v ++ d2 → d2 ≡ e ++ d3 → d3 ≡ w ++ d4 → d4 ≡ k ++ d5 → d5 ≡ a ++ d6 → d6 ≡ code ++ fixed ++ area
    → b ≡ s ++ v ++ e ++ w ++ k ++ a ++ code ++ fixed ++ area
join_second b s v e w k a code fixed area d1 d2 d3 d4 d5 d6 h1 h2 h3 h4 h5 h6 h7 = rw (h1, h2, h3, h4, h5, h6, h7) (simp append_assoc)

-- the versions that a file may have

version_is : (number : Option ℕ) → passes is_version number ≡ true → (number ≡ Some 1) ⊎ (number ≡ Some 2)
version_is None h = absurd cc
version_is (Some v) h = elim (one_of v h) [ inl e ↦ inl (ap Some e) | inr e ↦ inr (ap Some e) ]
  where
    one_of : (n : ℕ) → (n == 1 || n == 2) ≡ true → (n ≡ 1) ⊎ (n ≡ 2)
    one_of n t = grind (arith, nat_tests)

is_empty : (xs : List ℕ) → Some 0 ≡ Some (length xs) → xs ≡ []
is_empty xs e = nil_from_length xs cc

of_first : (b : List ℕ) (i : Contents) → AreBytes b → HasContents b i → starts_with nat_eq b (codes "CLUI") ≡ true → field_at 4 b 4 ≡ Some 1 → IsFileOf b i
of_first b i h c s v =
    let first : is_version_1 b ≡ true = rw v refl in
    let none : i.fixed ≡ [] = is_empty i.fixed (rw first at c.fixed) in
    let area : field_at 4 b 16 ≡ Some (length i.area) = rw first at c.area in
    let rest : drop 20 b ≡ flat_map number_bytes i.code ++ i.fixed ++ i.area = rw first at c.rest in
    let rest_is : drop 20 b ≡ flat_map number_bytes i.code ++ [] ++ i.area = rw none at rest in
    record {
      image = c.image;
      is = inr (none, join_first b (codes "CLUI") (number_bytes 1) (number_bytes i.entry) (number_bytes (length i.code)) (number_bytes (length i.area)) (flat_map number_bytes i.code) i.area _ _ _ _ _ (signature-bytes b s) (field-bytes b 4 1 h v) (field-bytes b 8 i.entry h c.entry) (field-bytes b 12 (length i.code) h c.words) (field-bytes b 16 (length i.area) h area) rest_is);
    }

of_second : (b : List ℕ) (i : Contents) → AreBytes b → HasContents b i → starts_with nat_eq b (codes "CLUI") ≡ true → field_at 4 b 4 ≡ Some 2 → IsFileOf b i
of_second b i h c s v =
    let second : is_version_1 b ≡ false = rw v refl in
    let fixed : field_at 4 b 16 ≡ Some (length i.fixed) = rw second at c.fixed in
    let area : field_at 4 b 20 ≡ Some (length i.area) = rw second at c.area in
    let rest : drop 24 b ≡ flat_map number_bytes i.code ++ i.fixed ++ i.area = rw second at c.rest in
    record {
      image = c.image;
      is = inl (join_second b (codes "CLUI") (number_bytes 2) (number_bytes i.entry) (number_bytes (length i.code)) (number_bytes (length i.fixed)) (number_bytes (length i.area)) (flat_map number_bytes i.code) i.fixed i.area _ _ _ _ _ _ (signature-bytes b s) (field-bytes b 4 2 h v) (field-bytes b 8 i.entry h c.entry) (field-bytes b 12 (length i.code) h c.words) (field-bytes b 16 (length i.fixed) h fixed) (field-bytes b 20 (length i.area) h area) rest);
    }

pub file_of_contents : (b : List ℕ) (i : Contents) → AreBytes b → HasContents b i → IsFileOf b i
file_of_contents b i h c =
    let signature = first_fault-head (starts_with nat_eq b (codes "CLUI")) 0 _ c.good in
    let version = first_fault-head (passes is_version (field_at 4 b 4)) 4 _ signature.1 in
    elim (version_is (field_at 4 b 4) version.0) [ inl one ↦ of_first b i h c signature.0 one | inr two ↦ of_second b i h c signature.0 two ]
